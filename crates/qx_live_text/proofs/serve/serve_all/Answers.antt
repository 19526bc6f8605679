use Rattle.std.proofs.Common.{◌≡◌, true}
use Rattle.qx_live_text.specs.Fronts.{IsReady, front_of}
use Rattle.qx_live_text.proofs.Texts.{both_answered}
use Rattle.qx_live_text.proofs.serve.serve_all.Goals as goal

pub returns-in-Ok-serve : goal.returns-in-Ok-serve
returns-in-Ok-serve g c =
    let contents = g.W.Write.contents in
    let ready : IsReady c.new-front.result = c.new-front.ensures.ready in
    let had : c.in-Ok.had_memory ≡ true = c.if-had_memory.true in
    let all : c.in-Ok-serve.all ≡ true = c.if-all.true in
    record {
      answered = λ done. both_answered c.args.keeps (front_of c.new-front.result) (front_of c.serve.new.front) c.args.first.now (g.R.Read.remaining c.args.reader.now) (contents c.args.writer.now)
          (contents c.serve.new.writer) _ c.new-front.ensures.unasked (c.in-Ok.ensures.answered ready had) (c.in-Ok.ensures.front ready had)
          (c.in-Ok-serve.ensures.answered (c.in-Ok.ensures.ready ready had) all);
    }
