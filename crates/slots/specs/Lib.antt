pub mod Slots
pub mod Memory
pub mod Steps
