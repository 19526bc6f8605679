pub mod Laws
pub mod Reading
pub mod Rests
pub mod Table
pub mod inner
