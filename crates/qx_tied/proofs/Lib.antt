-- beginnings of one list
mod FrontLemmas
-- the move that adds an entry
mod AddLemmas
-- which steps were taken, by the events
mod EventLemmas
-- a run, with one step more; its seats, one more
mod RunLemmas
-- what was done at a seat, and how much was tried there
mod SeatLemmas
