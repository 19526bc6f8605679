use Rattle.std.specs.List.{AllWithin}
use Rattle.qx_storing.specs.Notes.{StandsIn}
use Rattle.qx_storing.proofs.agreement.stand.Given as goal

abbrev pub invariant-loop-note : goal.invariant-loop-note
invariant-loop-note l = AllWithin (StandsIn l.entries) l.notes 0 l.note-index
