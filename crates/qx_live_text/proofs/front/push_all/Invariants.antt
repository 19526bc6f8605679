use Rattle.std.proofs.Common.{◌≡◌, ◌++◌, drop}
use Rattle.qx_play.specs.Printed.{transcript_text}
use Rattle.qx_live_text.proofs.front.push_all.Given as goal

-- the text so far, with that of what is left, is the whole
abbrev pub invariant-lines : goal.invariant-lines
invariant-lines l = l.text.items ++ transcript_text l.config (drop l.one-index l.seen) ≡ l.initial.text.items ++ transcript_text l.config l.seen
