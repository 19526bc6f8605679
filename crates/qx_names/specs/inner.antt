pub mod Children
pub mod Folders
pub mod Shows
