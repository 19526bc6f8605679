-- what a notification comes to
mod NotifyLemmas
-- what functions come to
mod KeptLemmas
-- what is told at once
pub mod ToldLemmas
-- which conditions come to hold
mod WatchQuiet
-- which events are due by that, and what is told of one pipe
mod WatchFacts
-- reads, writes, seeks and unblocks
mod WatchDeeds
-- closes
mod WatchCloses
-- opens, and the making of directories
mod WatchOpens
-- all else
mod WatchOthers
-- a block that is gone, of a client
mod GoneLemmas
-- a client that is gone
mod DisconnectLemmas
-- all messages, and an unblock: what was watched tells which events are due
pub mod WatchLemmas
