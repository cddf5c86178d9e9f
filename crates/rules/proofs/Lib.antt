pub mod Tests
pub mod Answers
pub mod Checks
pub mod Matches
pub mod Outcomes
