-- what a message goes over
mod AttachedLemmas
-- a thread is answered
mod AnswerLemmas
-- the answers to calls that waited, and what the machine makes of them
pub mod GivenLemmas
-- a thread is asked to unblock
mod AskLemmas
-- the call that a thread waits for
pub mod CallLemmas
-- a thread takes its answer, or gets another priority
mod PrioLemmas
-- an unblock pulse is performed
mod PulseLemmas
-- a received message is performed
mod MessageLemmas
-- what bytes mean has its values in their ranges
mod MeaningLemmas
-- a process takes its first pulse
mod TakePulseLemmas
-- one process among all users'
pub mod ProcessLemmas
-- a message is received
mod ReceiveLemmas
-- where the room for a thread's reply is
mod RoomLemmas
-- the room for nodes
mod NodesLemmas
-- rows of a table
pub mod RowReads
-- a message goes out
mod SendLemmas
-- what is told at once
-- what a received message that was done comes to
mod OutcomeLemmas
-- and once its thread is answered and due events have given their pulses
mod PerformLemmas
-- a deed to a user's resources, in what all users share and in the channel
mod ServeLemmas
-- a message is served, as in the machine
mod ServedLemmas
-- what was done, once due events have given their pulses
mod SettledLemmas
-- a process has lost a server connection
mod LostLemmas
-- one that it has lost goes
mod FreedLemmas
-- a process starts, and no process is there
mod StartLemmas
-- one thread's row changes, and one line
mod ThreadLemmas
-- the calls that wait
mod WaitLemmas
-- a disconnect pulse is performed
mod DisconnectLemmas
-- a process that ends
mod EndLemmas
-- a process that is freed
mod FreeLemmas
