pub mod Laws
pub mod Causes
pub mod Keeps
pub mod Shut
pub mod Back
pub mod Echo
pub mod Parts
pub mod Outcomes
