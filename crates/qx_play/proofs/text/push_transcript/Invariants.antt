use Rattle.std.proofs.Common.{◌≡◌, ◌++◌, drop}
use Rattle.qx_machine.specs.Runs.{received}
use Rattle.qx_play.specs.Printed.{transcript_text}
use Rattle.qx_play.proofs.text.push_transcript.Given as goal

abbrev pub invariant-lines : goal.invariant-lines
invariant-lines l = l.text.items ++ transcript_text l.config (received l.user.0 (drop l.entry-index l.entries)) ≡ l.initial.text.items ++ transcript_text l.config (received l.user.0 l.entries)
