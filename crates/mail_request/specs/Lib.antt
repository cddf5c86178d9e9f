pub mod Request
pub mod Back
pub mod Examples
