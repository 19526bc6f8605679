-- The trace of a run: its configuration, its steps, and for how many more it has memory.
use Rattle.std.specs.Prelude.{◌≡◌, ℕ, ◌+◌, ◌≤◌, Bool, List, [], ◌∷◌, ◌++◌, Option, if◌then◌else◌}
use Rattle.qx_types.specs.Configuration.{Configuration}
use Rattle.qx_types.specs.declared.outcome.Outcome.{Outcome}
use Rattle.qx_types.specs.declared.step.Step.{Step}
use Rattle.qx_machine.specs.Machine.{World, owner, step}
use Rattle.qx_machine.specs.Runs.{Run, run}

-- a configuration and the steps taken from boot; `room` more can be stored without more memory for the trace itself
pub record Trace : Type 0 where
  pub config : Configuration
  pub steps : List Step
  pub room : ℕ

-- the run that a trace is the trace of
abbrev pub run_of : Trace → Run
run_of trace = run trace.config trace.steps

-- by or for whom each step is taken, from a world on
abbrev pub owners_from : World → List Step → List (Option ℕ)
owners_from w [] = []
owners_from w (e ∷ steps) = owner w e ∷ owners_from (step w e).world steps

-- after a call that stores a step, or does not
pub record IsAfter (before : Trace) (e : Step) (stored : Bool) (after : Trace) : Type 0 where
  pub config : after.config ≡ before.config
  pub steps : after.steps ≡ (if stored then before.steps ++ e ∷ [] else before.steps)
  pub room : before.room ≤ (if stored then after.room + 1 else after.room)

-- what a step would give now
abbrev pub outcome_now : Trace → Step → Outcome
outcome_now trace e = (step (run_of trace).world e).outcome

-- the outcome of the last step
abbrev pub IsLast : Trace → Outcome → Type 0
IsLast trace outcome = (earlier : List Step) (e : Step) → trace.steps ≡ earlier ++ e ∷ [] → outcome ≡ (step (run trace.config earlier).world e).outcome
