pub mod Offload
pub mod Steps
