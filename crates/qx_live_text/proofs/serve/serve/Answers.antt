use Rattle.std.proofs.Common.{rules, ◌≡◌, ◌++◌, ◌<◌, length, refl, subst, true}
use Rattle.std.specs.Prelude.{IfSome}
use Rattle.std.specs.Io.BufRead.{strip_last, take_through}
use Rattle.qx_live_text.specs.Front.{answer}
use Rattle.qx_live_text.specs.Fronts.{front_of}
use Rattle.qx_live_text.proofs.Texts.{goes_more}
use Rattle.qx_live_text.proofs.serve.serve.Goals as goal

pub lines-preserved : goal.lines-preserved
lines-preserved g c = λ ready all.
    let known = g.R.Read.remaining in
    let contents = g.W.Write.contents in
    let had : c.lines.had_memory ≡ true = search rules in
    let now : c.in_ok-answer_line.field-0 ≡ true = search rules in
    let before = c.lines.invariant ready had in
    let front = front_of c.lines.front in
    let line = c.without_newline.result.now in
    let read = c.read_until.new.buf.items in
    let bytes : IfSome (known c.lines.reader) (λ xs. read ≡ take_through 10 xs) = subst (λ old. IfSome (known c.lines.reader) (λ xs. read ≡ old ++ take_through 10 xs)) c.clear.ensures.items c.in-Ok.ensures.bytes in
    let some : 0 < length read = search rules in
    let line_is : line ≡ strip_last 10 read = search rules in (
      c.in_ok-answer_line.ensures.ready before.0 now,
      goes_more (front_of c.args.front.now) (known c.args.reader.now) (known c.lines.reader) (known c.read_until.new.self) (contents c.args.writer.now) (contents c.lines.writer) (contents c.answer_line.new.writer)
          front (front_of c.answer_line.new.front) read line (answer front line).text before.1 bytes c.in-Ok.ensures.rest some line_is (c.in_ok-answer_line.ensures.front before.0 now) refl (c.in_ok-answer_line.ensures.text before.0 now),
    )
