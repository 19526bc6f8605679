pub mod Forms
pub mod Init
pub mod Laws
pub mod Meaning
pub mod Replies
pub mod Table
