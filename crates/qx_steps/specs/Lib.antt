pub mod Held
pub mod Places
pub mod Reached
pub mod Steps
pub mod inner
