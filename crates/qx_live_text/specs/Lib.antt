pub mod Front
pub mod Fronts
