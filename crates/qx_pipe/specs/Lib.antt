pub mod Laws
pub mod inner
