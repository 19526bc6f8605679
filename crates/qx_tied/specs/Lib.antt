pub mod Fronts
pub mod Run
pub mod Tied
pub mod inner
