-- clauses of a result
pub mod ResultLemmas
-- the rows of users, put together from two columns
pub mod PartsLemmas
-- processes of which none is to be freed
pub mod LeftLemmas
-- what the end of a step settles
pub mod SettledLemmas
-- a user in a sound world
pub mod OwnerLemmas
-- processes that have ended are freed
pub mod FreeLemmas
-- a perform frees one process at most
pub mod OneLemmas
-- a client's step, by what the channel makes of it
pub mod ClientLemmas
-- a process ends
pub mod ExitLemmas
-- a step that mounts
pub mod MountLemmas
-- resources are still those of the channel's users
pub mod StillLemmas
-- what is done for one user, and what the others' resources are then
pub mod PerformLemmas
-- a worker's step
pub mod WorkerLemmas
-- a process takes its first pulse
pub mod PulseLemmas
