pub mod Answers
pub mod Calls
pub mod Channel
pub mod Ending
pub mod Kept
pub mod Lends
pub mod Serving
pub mod Users
