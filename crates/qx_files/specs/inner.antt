pub mod Kept
pub mod Lends
pub mod Places
