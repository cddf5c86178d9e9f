pub mod Bits
pub mod Verdicts
