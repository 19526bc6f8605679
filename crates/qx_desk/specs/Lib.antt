pub mod Desks
pub mod Fronts
pub mod Programs
