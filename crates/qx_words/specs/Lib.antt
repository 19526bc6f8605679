pub mod FixedWords
pub mod Kinds
pub mod Words
pub mod WordText
