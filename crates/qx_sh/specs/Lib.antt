pub mod Invocation
pub mod Options
pub mod Run
pub mod Watched
pub mod Written
pub mod inner
