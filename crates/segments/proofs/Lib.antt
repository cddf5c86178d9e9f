pub mod Count
pub mod Starts
pub mod Meaning
pub mod Window
pub mod Sweep
pub mod Examples
