pub mod Content
pub mod Lends
pub mod Own
pub mod Row
