-- How much of a run's list each seat tried.
use Rattle.std.specs.Prelude.{◌≡◌, ◌≢◌, ◌==◌, ◌<◌, ◌++◌, ℕ, suc, List, [], ◌∷◌, if◌then◌else◌, length, slice_index_or}
use mathlib.Core.List.{IsPrefix}
use Rattle.crossbeam_utils.specs.Padded.{padded_value}
use Rattle.crossbeam_utils.specs.declared.cache_padded.CachePadded.{CachePadded}
use Rattle.qx_tied.specs.declared.event.Event.{Event}
use Rattle.qx_tied.specs.declared.event.Event.TheVariants.{Tried, CameBack}

abbrev pub seat_of : Event → ℕ
seat_of (Tried t) = t.seat
seat_of (CameBack seat) = seat

-- how many of the events are of the seat
abbrev pub tries_at : ℕ → List Event → ℕ
tries_at seat [] = 0
tries_at seat (e ∷ events) = if seat_of e == seat then suc (tries_at seat events) else tries_at seat events

-- for each seat, how many
abbrev pub AreCounts : List (CachePadded ℕ) → List Event → Type 0
AreCounts counts events = (seat : ℕ) (any : CachePadded ℕ) → seat < length counts → padded_value (slice_index_or counts seat any) ≡ tries_at seat events

-- the second list goes on from the first with no event of the seat
abbrev pub IsIdle : ℕ → List Event → List Event → Type 0
IsIdle seat old now = IsPrefix old now × (tries_at seat now ≡ tries_at seat old)

-- the second list goes on from the first with so many events of the seat, and none of another
pub record GoesOn (seat count : ℕ) (old now : List Event) : Type 0 where
  pub later : List Event
  pub is : now ≡ old ++ later
  pub here : tries_at seat later ≡ count
  pub apart : (other : ℕ) → other ≢ seat → tries_at other later ≡ 0

-- the run's list, and how many seats there are
pub record Listed : Type 0 where
  pub events : List Event
  pub seats : ℕ
