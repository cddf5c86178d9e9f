pub mod Request
pub mod Sound
