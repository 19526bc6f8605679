-- The first threads of a process get nodes, and its threads lose them.
pub mod PresenceLemmas
-- Numbered rows that are told in another way.
pub mod RowLemmas
-- The pipes of all users, and one of them changed.
pub mod OwnLemmas
-- One change of a pipe after another.
pub mod AfterLemmas
-- What all users share once the calls of a list or the bytes of a pipe are others.
pub mod ChangeLemmas
-- What a device told, as the answer to a call and as the bytes that stand in the row then.
pub mod AnswerLemmas
-- Whose calls wait, in the lists of the queues and in the pipes of a user.
pub mod CallLemmas
-- A pipe comes and goes, with its lists.
pub mod PlaceLemmas
-- The calls of a process wait as those of a process that has ended.
pub mod AbandonLemmas
pub mod ToldLemmas
