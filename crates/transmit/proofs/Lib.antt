pub mod Laws
pub mod ReadBack
pub mod Causes
pub mod Keeps
pub mod Packets
pub mod Outcomes
pub mod Reused
pub mod Counts
