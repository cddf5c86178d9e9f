pub mod Steps
pub mod Stores
pub mod Pieces
pub mod Runs
pub mod Rows
