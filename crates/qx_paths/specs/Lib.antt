pub mod Laws
pub mod Mounts
pub mod Paths
pub mod Prefixes
pub mod inner
