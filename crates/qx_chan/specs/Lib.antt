pub mod Calls
pub mod Channel
pub mod Nodes
pub mod Sending
pub mod Serving
pub mod Users
pub mod inner
