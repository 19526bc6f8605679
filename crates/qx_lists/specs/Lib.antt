pub mod Lends
pub mod Paths
pub mod Rings
pub mod Shows
pub mod Table
pub mod inner
