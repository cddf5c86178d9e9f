pub mod Element
pub mod Back
