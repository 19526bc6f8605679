pub mod Calls
pub mod Waiting
pub mod Queues
pub mod Kept
pub mod Waits
pub mod Nodes
pub mod inner
