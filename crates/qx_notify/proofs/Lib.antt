-- lists, as they are made
pub mod BootLemmas
-- a user's events within the limits
pub mod EventLemmas
-- a node stands last in a list
pub mod PutLemmas
-- lists of nodes, one taken out
pub mod NodeLemmas
-- an event is armed
pub mod ArmLemmas
-- pulses are taken
pub mod PulseLemmas
-- all pulses of a process go
pub mod ClearLemmas
-- armed events give their pulses
pub mod TriggerLemmas
-- the events of all users, as the lists of one change
pub mod KeptLemmas
