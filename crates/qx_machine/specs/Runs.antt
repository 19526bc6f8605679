-- Runs of the machine from boot, what a user receives in one, and the run without what is not the user's.
use Rattle.std.specs.Prelude.{ℕ, List}
use Rattle.qx_types.specs.Configuration.{Configuration}
use Rattle.qx_types.specs.declared.step.Step.{Step}
use Rattle.qx_machine.specs.Machine.{machine}
use Rattle.qx_isolation.specs.System as system
pub use Rattle.qx_isolation.specs.System.{world_after, entries_from, seen_by, received, is_owner, erase_from}

abbrev pub Run : Type 0
Run = system.Run machine

abbrev pub run : Configuration → List Step → Run
run = system.run machine

abbrev pub erase : ℕ → Configuration → List Step → List Step
erase = system.erase machine
