pub mod Sending
pub mod Calls
pub mod Back
