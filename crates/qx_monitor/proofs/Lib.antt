-- of which threads that came for which clients wait
mod ReleasedLemmas
-- sets of threads, as bits
mod WaitLemmas
