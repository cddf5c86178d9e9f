pub mod Out
pub mod Polls
pub mod Steps
