pub mod Back
pub mod Slots
