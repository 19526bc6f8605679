pub mod Changes
pub mod Errors
pub mod Holds
pub mod Waits
