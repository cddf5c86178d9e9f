pub mod Slots
pub mod Scan
pub mod Packet
pub mod Told
