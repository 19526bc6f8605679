pub mod Calls
pub mod Forms
