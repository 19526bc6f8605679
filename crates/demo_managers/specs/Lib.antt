pub mod Null
pub mod Bell
pub mod inner
