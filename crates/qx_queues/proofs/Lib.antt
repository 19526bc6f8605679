-- Lists of entries, the nodes that stand for them, and whose they are; the lines under their numbers.
pub mod EntryLemmas
-- What a line tells of threads, as items come and go.
pub mod LineLemmas
-- The lists that are a line's own, and the nodes in them.
pub mod OwnLemmas
-- What nodes stand for and which lines there are, as one node of the table changes.
pub mod TableLemmas
-- The lists that are no line's, as lines and free nodes change.
pub mod BesideLemmas
-- In which line a thread's unblock pulse stands, as items come and go.
pub mod PulseLemmas
-- The invariant, call by call.
pub mod KeptLemmas
-- The invariant, as the lists that are no line's change and what their nodes carry.
pub mod CallLemmas
-- Who waits and who was answered, by the nodes; whose message was received.
pub mod WaitLemmas
-- The calls of a process that wait, by the nodes of its threads.
pub mod AbandonLemmas
-- A list of which some leave, from the first on.
pub mod WalkLemmas
-- The columns of nodes, as a thread or a server connection gets its own or gives it back.
pub mod NodesLemmas
-- The nodes of a thread are given back.
pub mod RemoveLemmas
-- Sets of threads and of server connections.
pub mod SetLemmas
-- Which threads and server connections have nodes, as sets, and what calls make of the value.
pub mod PresenceLemmas
-- The value, as calls leave a list and are answered.
pub mod LeavingLemmas
-- which lines have an item
mod MarkLemmas
