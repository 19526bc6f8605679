-- a user's changes of lines, as that user and as others see them
pub mod Changes
-- lines in order of priority
pub mod Orders
-- a perform, in its user's view and in others'
pub mod Performs
-- rows under numbers
pub mod Places
-- a receive, in its user's view and in others'
pub mod Receives
-- whole runs
pub mod Runs
-- one step of any kind, in its user's view and in others'
pub mod Steps
-- the end of a step, and a client's step, in a view
pub mod Views
-- a worker's step, by the item that it takes or does
pub mod Workers
