use Rattle.std.proofs.Common.{◌≡◌, ℕ, ◌+◌, ◌*◌, ◌≤◌, false}
use Rattle.qx_lines.specs.declared.marks.TheConstants.{WORDS}
use Rattle.qx_lines.specs.Marks.{is_marked}
use Rattle.qx_lines.proofs.marks.Marks.highest.Given as goal

abbrev pub invariant-words : goal.invariant-words
invariant-words g l = record {
  none : (priority : ℕ) → 64 * l.word ≤ priority → is_marked l.self.words priority ≡ false;
  looked : l.looks + l.word ≡ l.initial.looks + WORDS;
}
