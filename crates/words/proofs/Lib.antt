pub mod Splits
pub mod Progress
