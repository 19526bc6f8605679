pub mod Events
pub mod inner
