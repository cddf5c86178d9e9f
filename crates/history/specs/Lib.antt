pub mod World
pub mod History
pub mod Late
pub mod Demand
pub mod Stale
pub mod Figures
