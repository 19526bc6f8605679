-- A run whose steps are taken at seats, and what a step makes of it.
use Rattle.std.specs.Prelude.{◌≡◌, ◌++◌, ℕ, List, [], ◌∷◌}
use Rattle.qx_types.specs.declared.step.Step.{Step}
use Rattle.qx_machine.specs.Machine.{World}
use Rattle.qx_running.specs.Running as running
use Rattle.qx_running.specs.Running.{CameBy, Now, world_by}
use Rattle.qx_tied.specs.declared.event.Tagged.{Tagged}
use Rattle.qx_tied.specs.Tied.{steps_of, tagged}

-- the run, the steps that were taken with their seats, and how many seats there are
pub record TiedRun : Type 0 where
  pub run : Now
  pub steps : List Tagged
  pub seats : ℕ

-- these steps led to the run's world from the one that it began with, to which others had led from boot; and its recorder has the last
-- of them
abbrev pub IsRunFrom : World → TiedRun → Type 0
IsRunFrom began tied = (before : List Step) × (began ≡ world_by tied.run.world before) × CameBy before (steps_of tied.steps) tied.run

-- after one step more, at this seat
abbrev pub next : TiedRun → ℕ → Step → TiedRun
next tied seat e = record { run = running.next tied.run e; steps = tied.steps ++ tagged seat e ∷ []; seats = tied.seats }
