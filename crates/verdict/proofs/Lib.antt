pub mod Rules
pub mod Types
pub mod Outcomes
