pub mod Paper
pub mod Bursts
pub mod Counts
pub mod Sixth
pub mod Verdicts
