-- what a write is judged by
pub mod inner
-- which writes want memory
pub mod Writes
