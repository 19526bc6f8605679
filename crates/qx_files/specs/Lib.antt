pub mod Blocks
pub mod Files
pub mod Laws
pub mod inner
