pub mod Awaits
pub mod Owed
pub mod Waits
