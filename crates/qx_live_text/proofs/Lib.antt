-- a text line by line, as it is read and as it is answered
pub mod Texts
