-- a row that was lent and is left as it was
pub mod LendLemmas
-- where a process can be served at a manager
pub mod ServeLemmas
-- what a judged request sends, and over what
mod ContentLemmas
mod SendLemmas
