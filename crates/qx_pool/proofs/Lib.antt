-- how calls, and the waiting for a pulse, end at a seat
mod EndLemmas
