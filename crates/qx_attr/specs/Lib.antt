pub mod Counts
pub mod Flags
pub mod inner
