pub mod ErrorNames
-- where the bytes of a message stand, and the memory that is kept for them
pub mod Items
pub mod Memory
-- what a call to a device comes to
pub mod Verdict
