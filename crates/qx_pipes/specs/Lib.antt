pub mod Pipes
pub mod Told
