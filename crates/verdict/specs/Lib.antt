pub mod Verdict
pub mod Steps
