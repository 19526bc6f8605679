use Rattle.std.proofs.Common.{◌≡◌, true}
use Rattle.qx_live_text.specs.Fronts.{IsReady, front_of}
use Rattle.qx_live_text.proofs.Texts.{GoesOn}
use Rattle.qx_live_text.proofs.serve.serve.Given as goal

-- the lines before what is left were answered
abbrev pub invariant-lines : goal.invariant-lines
invariant-lines g l =
    let known = g.R.Read.remaining in
    let contents = g.W.Write.contents in
    IsReady l.initial.front → l.had_memory ≡ true
    → IsReady l.front × GoesOn (front_of l.initial.front) (known l.initial.reader) (known l.reader) (contents l.initial.writer) (contents l.writer) (front_of l.front)
