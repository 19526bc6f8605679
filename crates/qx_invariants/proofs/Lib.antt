-- rows under numbers, and what is left of them
pub mod Rows
-- how many calls wait
pub mod Counts
-- what calls leave in pipes
pub mod Calls
-- where a path leads
pub mod Spots
-- how many events a user has
pub mod Events
-- what is told of deeds
pub mod Told
-- what deeds do to a user's resources
pub mod Deeds
-- the messages that bytes mean
pub mod Messages
-- what steps do to a user's resources, and to every user's part
pub mod Steps
-- how many calls wait, with what is answered, and which threads
pub mod Balances
-- numbers of inodes and open control blocks, whose inodes are, and how many connections have what is open
pub mod Rooms
-- open control blocks that were made, and a client's
pub mod Made
-- what is in inodes, and who waits in pipes
pub mod Contents
-- all of it, whatever happens
pub mod Together
-- what managers have
pub mod Managed
-- names and links
pub mod Named
-- directories in directories
pub mod Trees
-- calls that wait over open control blocks
pub mod Astray
-- each thread waits once
pub mod Once
-- how many processes, connections and server connections
pub mod Few
-- all of it, in each world that a run reaches
pub mod Reached
-- server connections of a process
pub mod Served
-- messages that are not served yet
pub mod Sending
-- what lasts, and what goes with a client
pub mod Lasting
-- numbers of connections, and how many there are
pub mod Numbers
-- processes, as messages are sent and served
pub mod Sound
-- clients of what is open
pub mod Clients
-- disconnect pulses in lines and hands
pub mod Items
-- who has what is open, and how many connections
pub mod Holdings
-- server connections that were left
pub mod Lost
-- what connections have open
pub mod Connected
-- one process changes, and what is open
pub mod Moving
-- clients of what is open, after a deed
pub mod Staying
-- what a served message makes of its process and of what is open
pub mod Effects
-- messages that are served, and pulses that ask to unblock
pub mod Replied
-- clients that are gone, and the end of a step
pub mod Parted
-- connections, open control blocks and disconnect pulses together
pub mod Linked
-- what remains of a process that has ended
pub mod Remaining
-- priorities of threads and of what stands in lines
pub mod Priorities
-- what judgements come to, and how steps are refused
pub mod Judged
-- with which errors those are answered who wait
pub mod Answering
-- with which errors messages are answered
pub mod Erring
-- with which errors threads are answered
pub mod Asked
-- and in runs
pub mod LastSent
