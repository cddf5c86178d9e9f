pub mod Descriptors
pub mod Steps
