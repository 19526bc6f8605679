pub mod Judgements
pub mod Lines
pub mod Rows
pub mod System
pub mod Tally
