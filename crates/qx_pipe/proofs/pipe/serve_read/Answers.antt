use Rattle.std.proofs.Common.{◌≡◌, ◌∙◌, None, Some, is_some, sym, ap, take, drop, arith}
use Rattle.qx_types.specs.declared.outcome.Answer.TheVariants.{Reply}
use Rattle.qx_machine.specs.Pipes.{read_told}
use Rattle.qx_machine.specs.Waiting.{offered, wanted}
use Rattle.qx_shared.specs.Shared.{after_own, pipe_at, went_in, with_pipe_after}
use Rattle.qx_pipe.proofs.TurnLemmas.{none-told, pipe-gets}
use Rattle.qx_pipe.proofs.pipe.serve_read.Goals as goal

pub returns-clause-served : goal.returns-clause-served
returns-clause-served c =
    let shared = c.args.shared.now in
    let user = c.args.user.0 in
    let p = pipe_at shared user c.args.inode in
    let call = c.args.call in
    let count = c.min-count.result in
    let pipe : p.device ≡ None = sym c.requires.device ∙ none-told c.args.device (sym c.is_some.ensures ∙ c.if-is_some.false) in
    let told_is : read_told wanted offered p.device p.bytes call ≡ Some (Reply count (take count p.bytes), drop count p.bytes) = pipe-gets p pipe call count (omega arith) (omega arith) in
    record {
      some = ap is_some told_is;
      after = c.hand_bytes.ensures.passed ∙ ap (λ told. with_pipe_after shared user c.args.inode (after_own call p told)) (sym told_is);
      went = c.hand_bytes.ensures.written ∙ ap (λ told. went_in (after_own call p told).answers) (sym told_is);
    }
