use Rattle.std.proofs.Common.{◌≡◌, ◌+◌, drop, map}
use Rattle.qx_script.specs.Script.{script_from, unread}
use Rattle.qx_words.specs.Words.{lines_of}
use Rattle.qx_script.proofs.script.parse.Given as goal

abbrev pub invariant-lines : goal.invariant-lines
invariant-lines l =
    script_from l.reading (l.index + 1) (map (λ line. line.now) (drop l.index l.line-items)) ≡ script_from unread 1 (lines_of l.text)
