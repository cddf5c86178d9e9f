pub mod Bursts
pub mod Examples
