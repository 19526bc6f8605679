-- Marks of places that were noted.
use Rattle.std.specs.Prelude.{◌≡◌, ◌<◌, ◌≤◌, ◌+◌, ℕ, Bool, true, false, List, All, length, sum_by, if◌then◌else◌, slice_index_or}
use Rattle.qx_isolation.specs.declared.rows.Entry.{Entry}
use Rattle.qx_storing.specs.declared.seat.Note.{Note}
use Rattle.qx_storing.specs.Notes.{StandsIn, rises_from, times_noted}

-- 1 for a place that is marked
abbrev pub marked : List Bool → ℕ → ℕ
marked marks place = if slice_index_or marks place false then 1 else 0

-- the places of the notes are marked too, and none was
abbrev pub AddsMarks : List Bool → List Note → List Bool → Type 0
AddsMarks old notes new = (place : ℕ) → place < length old → marked new place ≡ marked old place + times_noted (place + 1) notes

-- a place of the notes was marked, or is noted twice
abbrev pub MarksTwice : List Bool → List Note → Type 0
MarksTwice old notes = (place : ℕ) × (place < length old) × (2 ≤ marked old place + times_noted (place + 1) notes)

-- the notes of a seat stand at their places, which rise, were not marked, and are
abbrev pub IsFit : List Entry → List Bool → List Note → List Bool → Type 0
IsFit entries old notes new = All (StandsIn entries) notes × (rises_from 0 notes ≡ true) × AddsMarks old notes new

-- they don't stand there, or don't rise, or one was marked or is noted twice
abbrev pub IsUnfit : List Entry → List Bool → List Note → Type 0
IsUnfit entries old notes = All (StandsIn entries) notes → rises_from 0 notes ≡ true → MarksTwice old notes

-- the notes of these seats stand at their places, which rise in each seat, are noted once, and are what is marked
pub record AgreesSoFar (entries : List Entry) (marks : List Bool) (seats : List (List Note)) : Type 0 where
  pub len : length marks ≡ length entries
  pub stand : All (All (StandsIn entries)) seats
  pub rise : All (λ notes. rises_from 0 notes ≡ true) seats
  pub once : (place : ℕ) → place < length entries → marked marks place ≡ sum_by (times_noted (place + 1)) seats
