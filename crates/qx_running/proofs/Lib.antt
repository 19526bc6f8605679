-- which manager is next
mod NextLemmas
-- pieces of a list
mod PieceLemmas
-- a run, one step longer
mod RunLemmas
-- lines that are as urgent take turns
mod TurnLemmas
