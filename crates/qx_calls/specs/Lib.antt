pub mod Calls
pub mod Forms
pub mod inner
