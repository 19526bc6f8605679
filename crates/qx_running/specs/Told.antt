-- What is told by a server whose steps are not stored: of a world to which a run came.
use Rattle.std.specs.Prelude.{◌≡◌}
use Rattle.qx_types.specs.declared.outcome.Outcome.{Outcome}
use Rattle.qx_types.specs.declared.step.Step.{Step}
use Rattle.qx_machine.specs.Machine.{World, step}
use Rattle.qx_world.specs.Steps.{IsReached}

-- the step has this outcome in a world to which a run came
abbrev pub IsTold : Step → Outcome → Type 0
IsTold e outcome = (w : World) × IsReached w × (outcome ≡ (step w e).outcome)
