pub mod Found
pub mod Listed
pub mod Words
