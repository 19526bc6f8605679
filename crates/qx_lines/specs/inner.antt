pub mod Line
pub mod Marks
