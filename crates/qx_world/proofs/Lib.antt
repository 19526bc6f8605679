-- a trace whose outcome is lent
mod LoanLemmas
-- what a trace holds of its run
mod TraceLemmas
-- which outcomes steps have
pub mod OutcomeLemmas
-- what a worker does at a seat
pub mod WorkLemmas
-- what is told of all managers, where those whose lines are empty are passed over
pub mod NextLemmas
