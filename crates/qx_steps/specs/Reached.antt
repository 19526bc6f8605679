-- Worlds to which runs come.
use Rattle.std.specs.Prelude.{◌≡◌, List}
use Rattle.qx_types.specs.declared.step.Step.{Step}
use Rattle.qx_machine.specs.Machine.{World}
use Rattle.qx_machine.specs.Runs.{run}

-- some steps lead to the world from boot
abbrev pub IsReached : World → Type 0
IsReached w = (steps : List Step) × (w ≡ (run w.config steps).world)
