pub mod inner
pub mod Lends
pub mod Reads
