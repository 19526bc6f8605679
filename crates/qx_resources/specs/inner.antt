pub mod Conditions
pub mod State
