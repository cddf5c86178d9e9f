pub mod Queue
pub mod Send
pub mod Reclaim
pub mod ReadBack
pub mod Steps
