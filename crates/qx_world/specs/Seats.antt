-- What steps do at a seat of any server, by what a step that was taken does there, and one that was not.
use Rattle.std.specs.Prelude.{◌≡◌, ◌==◌, ◌⊎◌, ℕ, Bool, true, false, List, [], ◌∷◌, if◌then◌else◌}
use Rattle.qx_types.specs.declared.outcome.Outcome.{Outcome}
use Rattle.qx_types.specs.declared.step.Step.{Step}
use Rattle.qx_types.specs.declared.step.Step.TheVariants.{Receive, Perform}
use Rattle.qx_machine.specs.Machine.{World, step}

-- the world after a step that was taken, or was not
abbrev pub world_then : World → Step → Bool → World
world_then w e taken = if taken then (step w e).world else w

-- a worker's own step
abbrev pub is_of_worker : ℕ → Step → Bool
is_of_worker worker (Receive by manager) = by.0 == worker
is_of_worker worker (Perform by moment) = by.0 == worker
is_of_worker worker _ = false

module _ {Seat : Type 0} (adds : Seat → Seat → Step → Outcome → Type 0) (keeps : Seat → Seat → Type 0) where
  -- two steps, one after the other
  abbrev pub AddsTwo : Seat → Seat → Step → Outcome → Step → Outcome → Type 0
  AddsTwo old new e outcome next told = (between : Seat) × adds old between e outcome × adds between new next told

  -- one of a worker's own steps was taken, or one was not
  abbrev pub WorksOnce : ℕ → Seat → Seat → Type 0
  WorksOnce worker old new = keeps old new ⊎ ((e : Step) × (outcome : Outcome) × (is_of_worker worker e ≡ true) × adds old new e outcome)

  -- the same once after the other, with these seats behind each
  abbrev pub WorksBy : ℕ → Seat → List Seat → Seat → Type 0
  WorksBy worker old [] new = new ≡ old
  WorksBy worker old (between ∷ seats) new = WorksOnce worker old between × WorksBy worker between seats new

  -- so many times, or never
  abbrev pub Works : ℕ → Seat → Seat → Type 0
  Works worker old new = (seats : List Seat) × WorksBy worker old seats new
