-- A run whose steps are taken at seats: which steps were taken, and what was done at a seat.
use Rattle.std.specs.Prelude.{◌≡◌, ◌==◌, ◌++◌, ℕ, Bool, false, List, [], ◌∷◌, if◌then◌else◌, map}
use Rattle.qx_types.specs.declared.step.Step.{Step}
use Rattle.qx_types.specs.declared.outcome.Outcome.{Outcome}
use Rattle.qx_isolation.specs.declared.rows.Entry.{Entry}
use Rattle.qx_machine.specs.Machine.{World, step}
use Rattle.qx_tied.specs.declared.event.Event.{Event}
use Rattle.qx_tied.specs.declared.event.Event.TheVariants.{Tried, CameBack}
use Rattle.qx_tied.specs.declared.event.Tagged.{Tagged}

abbrev pub tagged : ℕ → Step → Tagged
tagged seat e = record { seat = seat; step = e }

abbrev pub entry : Step → Outcome → Entry
entry e outcome = record { step = e; outcome = outcome }

-- the first event is that what was tried just before at the seat came back
abbrev pub came_back : ℕ → List Event → Bool
came_back seat (CameBack at ∷ events) = at == seat
came_back seat _ = false

-- the steps that were taken: those that were tried and did not come back
abbrev pub taken : List Event → List Tagged
taken [] = []
taken (Tried t ∷ events) = if came_back t.seat events then taken events else t ∷ taken events
taken (CameBack seat ∷ events) = taken events

-- without their seats
abbrev pub steps_of : List Tagged → List Step
steps_of steps = map (λ t. t.step) steps

-- the entries of one seat in the run of these steps from a world: each step with its outcome in the world as it was then
abbrev pub own_from : ℕ → World → List Tagged → List Entry
own_from seat w [] = []
own_from seat w (t ∷ steps) =
    if t.seat == seat then entry t.step (step w t.step).outcome ∷ own_from seat (step w t.step).world steps else own_from seat (step w t.step).world steps

-- a seat: its number, and what it knows of the run's list
pub record Known : Type 0 where
  pub seat : ℕ
  pub events : List Event

-- what was done at a seat of a run that began with this world
abbrev pub done_at : World → Known → List Entry
done_at began known = own_from known.seat began (taken known.events)

-- the step was done at the seat, with this outcome
abbrev pub AddsEntry : World → Known → Known → Step → Outcome → Type 0
AddsEntry began old new e outcome = (new.seat ≡ old.seat) × (done_at began new ≡ done_at began old ++ entry e outcome ∷ [])

-- nothing was done there
abbrev pub AddsNone : World → Known → Known → Type 0
AddsNone began old new = (new.seat ≡ old.seat) × (done_at began new ≡ done_at began old)
