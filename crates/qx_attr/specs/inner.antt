pub mod Blocks
pub mod Counts
