pub mod Laws
pub mod Accepted
pub mod Causes
pub mod Examples
