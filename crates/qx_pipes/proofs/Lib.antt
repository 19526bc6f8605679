-- the pipe in which a call waits
pub mod HolderLemmas
-- the pipes of a user and the user's store, as one pipe changes, and by an open and an unlink
pub mod PipesLemmas
-- what a READ and a WRITE are told at once
pub mod ToldLemmas
