pub mod Bytes
pub mod Commands
