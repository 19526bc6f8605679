-- the names in a directory
pub mod Directories
-- directories read listing by listing
pub mod Listings
-- how many items the performing of an item puts into lines
pub mod Puts
-- a step that is refused changes nothing
pub mod Refusals
-- what a judgement gives, if it gives anything
pub mod Gives
-- a call on a pipe in which nobody waits
pub mod AtOnce
-- who waits in pipes, and who is answered
pub mod Waiters
-- which events are due, by the conditions of their blocks alone
pub mod EventFacts
-- nothing is due where nothing changed, and what is taken away is not there
pub mod NotifyLemmas
-- nothing is left to be settled between steps
pub mod Settled
-- after a step no event is due
pub mod Due
-- no process ends as an item is performed
pub mod Living
-- runs: the configuration stays, and one step more
pub mod Runs
