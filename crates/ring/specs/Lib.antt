pub mod Sizes
pub mod Queue
pub mod Counts
pub mod Steps
