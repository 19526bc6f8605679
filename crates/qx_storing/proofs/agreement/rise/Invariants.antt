use Rattle.std.proofs.Common.{◌≡◌, drop}
use Rattle.qx_storing.specs.Notes.{rises_from}
use Rattle.qx_storing.proofs.agreement.rise.Given as goal

abbrev pub invariant-loop-note : goal.invariant-loop-note
invariant-loop-note l = rises_from 0 l.notes ≡ rises_from l.last (drop l.note-index l.notes)
