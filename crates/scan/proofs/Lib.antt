pub mod Rule
pub mod Packets
pub mod Walk
pub mod Scans
pub mod Worded
