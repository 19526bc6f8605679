-- names and inodes, as each changes
pub mod FitLemmas
-- spots, opens, and what may be made
pub mod OpenLemmas
-- tables of which one row changes
pub mod PlaceLemmas
-- names, inodes and the bytes of files, as each changes
pub mod StoreLemmas
-- what a rename comes to
pub mod RenameLemmas
