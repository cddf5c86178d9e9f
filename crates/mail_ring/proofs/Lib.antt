pub mod Record
pub mod Looks
pub mod Puts
