pub mod Running
pub mod Told
pub mod inner
