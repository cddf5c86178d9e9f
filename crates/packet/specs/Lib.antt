pub mod Packet
pub mod Accepted
pub mod Steps
