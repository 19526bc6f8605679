-- paths that lead to an inode
pub mod Paths
-- where a walk ends
pub mod Spots
pub mod inner
