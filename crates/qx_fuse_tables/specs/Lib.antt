pub mod Handles
pub mod Nodes
pub mod Numbers
pub mod Queue
pub mod Waits
