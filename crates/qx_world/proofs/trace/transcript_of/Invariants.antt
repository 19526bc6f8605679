use Rattle.std.proofs.Common.{◌≡◌, take}
use Rattle.qx_machine.specs.Runs.{received}
use Rattle.qx_world.proofs.trace.transcript_of.Given as goal

abbrev pub invariant-loop-entry : goal.invariant-loop-entry
invariant-loop-entry l = l.transcript.items ≡ received l.user.0 (take l.entry-index l.entries)
