pub mod Laws
pub mod Causes
pub mod Keeps
pub mod Back
pub mod Parts
pub mod Outcomes
