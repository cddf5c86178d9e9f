pub mod Acts
pub mod Demand
pub mod Examples
