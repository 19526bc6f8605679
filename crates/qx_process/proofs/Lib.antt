-- a thread's row, as it is changed or left
pub mod ThreadLemmas
-- server connections stand and fall with what is attached: the invariant of a process
pub mod ServerLemmas
-- what a process uses and loses as something is attached, or goes
pub mod AttachLemmas
-- what becomes of the threads and the server connections of a process that ends
pub mod EndLemmas
