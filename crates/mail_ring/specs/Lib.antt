pub mod Ring
pub mod Look
pub mod Posting
pub mod Steps
