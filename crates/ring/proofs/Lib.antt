pub mod Record
pub mod Counts
