-- notes against what was stored, and marks of the places that were noted
mod MarkLemmas
-- notes and what was stored, after a step
mod NoteLemmas
