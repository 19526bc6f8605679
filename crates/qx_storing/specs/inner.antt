pub mod Copies
pub mod Marks
