pub mod Parts
pub mod Tests
pub mod Joined
pub mod Origin
pub mod Greedy
pub mod Suffices
pub mod Filling
pub mod Storing
