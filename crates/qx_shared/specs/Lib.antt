pub mod Shared
pub mod Row
pub mod inner
