pub mod Held
pub mod Parts
pub mod Performing
pub mod Reads
pub mod Steps
