pub mod Notes
pub mod inner
