-- tables that are seen through a function of their places
pub mod TableLemmas
-- open control blocks by their keys
pub mod BlockLemmas
-- the three counts
pub mod CountLemmas
-- the numbers of rows in order of making
pub mod MadeLemmas
