pub mod Walk
pub mod Polling
