pub mod Lists
pub mod Ring
pub mod State
pub mod Run
pub mod Late
pub mod Demand
pub mod Stale
pub mod Figures
