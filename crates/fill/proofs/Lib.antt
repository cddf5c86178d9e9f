pub mod Rows
pub mod Words
pub mod Places
pub mod Pieces
