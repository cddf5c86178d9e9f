pub mod Compared
pub mod Entries
pub mod Outcomes
