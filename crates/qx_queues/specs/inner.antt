pub mod Kept
pub mod Marks
pub mod Queues
pub mod Waiting
pub mod Waits
