use Rattle.std.proofs.Common.{◌≡◌, take, length}
use Rattle.qx_storing.specs.inner.Marks.{AddsMarks}
use Rattle.qx_storing.proofs.agreement.mark.Given as goal

abbrev pub invariant-loop-note : goal.invariant-loop-note
invariant-loop-note l = record {
  len : length l.marks ≡ length l.initial.marks;
  adds : AddsMarks l.initial.marks (take l.note-index l.notes) l.marks;
}
