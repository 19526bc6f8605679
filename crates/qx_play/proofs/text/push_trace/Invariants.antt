use Rattle.std.proofs.Common.{◌≡◌, ◌++◌, ◌+◌, drop}
use Rattle.qx_play.specs.Printed.{entries_text, trace_text}
use Rattle.qx_play.proofs.text.push_trace.Given as goal

abbrev pub invariant-lines : goal.invariant-lines
invariant-lines l = l.text.items ++ entries_text l.config (l.index + 1) (drop l.index l.entries) ≡ l.initial.text.items ++ trace_text l.config l.entries
