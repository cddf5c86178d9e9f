pub mod Queue
pub mod Post
pub mod Take
pub mod Packets
pub mod Burst
pub mod Steps
