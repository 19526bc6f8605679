-- A notification that wants memory arms one event more.
pub mod ArmLemmas
-- What the bell's functions did.
pub mod DeedLemmas
-- A place for a pipe that was put under the number of an inode.
pub mod PlaceLemmas
