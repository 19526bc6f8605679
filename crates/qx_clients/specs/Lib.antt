pub mod Calls
pub mod Lends
pub mod Refusals
pub mod Targets
pub mod inner
