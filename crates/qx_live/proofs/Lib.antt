-- steps that are all taken by or for one user
pub mod Owned
-- steps that are chosen in a world, all of them one user's
pub mod Choices
-- lines with one user's items alone, and the first hand
pub mod Items
-- what each step keeps, and a receive and a perform of the first worker
pub mod Kept
-- the weight of what waits
pub mod Weights
-- serving leaves nothing waiting
pub mod Emptied
-- serving where all that waits is one user's
pub mod Serving
-- whole sessions
pub mod Sessions
-- nothing is left untold
pub mod Told
-- what is left of a line
pub mod Sequences
-- what is so of every world to which steps lead
pub mod Reached
-- a thread or a process that is not there
pub mod Absent
