-- blocks in their places
pub mod BlockLemmas
-- the bytes of a file, by its blocks
pub mod DataLemmas
-- the files of a user, by what each one holds
pub mod KeptLemmas
-- the blocks that are there, in their places
pub mod PlaceLemmas
-- bytes that are put into a file
pub mod PutLemmas
-- the sum of the sizes
pub mod SizeLemmas
