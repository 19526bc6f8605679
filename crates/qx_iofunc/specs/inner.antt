pub mod Fits
pub mod Makes
pub mod Store
