pub mod WriteBack
pub mod Bits
pub mod Verdicts
