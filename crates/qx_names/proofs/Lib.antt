-- entries in the order of their names
pub mod RisingLemmas
-- nodes by their places
pub mod IndexLemmas
-- the list of a user's entries
pub mod ChildLemmas
-- the entries of one directory among those of all
pub mod PairLemmas
-- maps, one entry changed
pub mod MapLemmas
-- what is left to be listed
pub mod ListingLemmas
-- names that are kept, call by call
pub mod NamesLemmas
-- paths that lead to an inode
pub mod PathLemmas
-- what the directories show, call by call
pub mod ShowsLemmas
-- the names in a directory
pub mod EntryLemmas
-- what the directories show once an entry goes to another place
pub mod MovedLemmas
-- an entry that goes to another place
pub mod RenameLemmas
-- whether a path goes through a directory
pub mod BelowLemmas
-- whether a directory has entries
pub mod EmptyLemmas
-- paths that come and go, and the names in a directory
pub mod Keys
-- paths that begin otherwise
pub mod Moved
