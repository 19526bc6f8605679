-- What was noted at seats, against what was stored.
use Rattle.std.specs.Prelude.{◌≡◌, ◌<◌, ◌-◌, ◌+◌, ◌==◌, ◌&&◌, ◌++◌, ℕ, Bool, true, List, [], ◌∷◌, Some, All, if◌then◌else◌, nat_lt, count_by, length, slice_get, sum_by}
use Rattle.qx_types.specs.declared.outcome.Outcome.{Outcome}
use Rattle.qx_types.specs.declared.step.Step.{Step}
use Rattle.qx_isolation.specs.declared.rows.Entry.{Entry}
use Rattle.qx_world.specs.Trace.{Trace, outcome_now}
use Rattle.qx_storing.specs.declared.seat.Note.{Note}

abbrev pub note : ℕ → Step → Outcome → Note
note at step outcome = record { at = at; step = step; outcome = outcome }

-- the note stands among the entries at its place, which counts from 1
abbrev pub StandsIn : List Entry → Note → Type 0
StandsIn entries n = (0 < n.at) × (slice_get entries (n.at - 1) ≡ Some (record { step = n.step; outcome = n.outcome }))

-- the places rise, from above this one
abbrev pub rises_from : ℕ → List Note → Bool
rises_from last [] = true
rises_from last (n ∷ notes) = nat_lt last n.at && rises_from n.at notes

-- how often a place was noted
abbrev pub times_noted : ℕ → List Note → ℕ
times_noted place = count_by (λ n. n.at == place)

-- each note of each seat stands among the entries at its place, and the places are 1 to their number, each once and rising in each seat
pub record Agrees (entries : List Entry) (seats : List (List Note)) : Type 0 where
  pub stand : All (All (StandsIn entries)) seats
  pub rise : All (λ notes. rises_from 0 notes ≡ true) seats
  pub once : (place : ℕ) → place < length entries → sum_by (times_noted (place + 1)) seats ≡ 1

-- a seat's notes after a step that was stored, or was not
abbrev pub notes_after : List Note → Trace → Step → Bool → List Note
notes_after notes before e stored = if stored then notes ++ note (length before.steps + 1) e (outcome_now before e) ∷ [] else notes

-- one note more, of this step with this outcome
abbrev pub AddsOne : List Note → List Note → Step → Outcome → Type 0
AddsOne old new step outcome = (at : ℕ) × (new ≡ old ++ note at step outcome ∷ [])

-- none more
abbrev pub AddsNone : List Note → List Note → Type 0
AddsNone old new = new ≡ old
