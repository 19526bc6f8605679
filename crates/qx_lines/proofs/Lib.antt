-- lists of nodes joined
pub mod BucketLemmas
-- facts of lines for the crates above
pub mod LineFacts
-- the bits of a line's words
pub mod MarkLemmas
-- lists that are made for a line
pub mod NewLemmas
-- a line as an item comes
pub mod NodeLemmas
