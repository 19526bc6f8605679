use Rattle.std.proofs.Common.{rules, ◌≡◌, ◌∙◌, Err, refl, sym, ap}
use Rattle.qx_iofunc.specs.Store.{Store}
use Rattle.qx_pipes.proofs.PipesLemmas.{free-follows, free-follows-none, free-refused}
use Rattle.qx_pipes.proofs.blocks.close.Goals as goal
use Rattle.qx_pipes.specs.Pipes.{seen}

pub returns-then-has_pipe-clause-left : goal.returns-then-has_pipe-clause-left
returns-then-has_pipe-clause-left c = λ r.
    let user = c.user-user.ensures in
    let closed = rw c.kind_of.ensures at c.in_ok-closed.ensures in
    let did = rw user at c.release-filled.ensures in
    free-follows _ _ _ _ r c.args.device c.args.number c.args.moment _ c.requires.user closed.block _ _ _ _ _ (sym (rw user at c.if-has_pipe.ensures.is)) (ap (λ (s : Store). s.stored) closed.closed) closed.gone (search rules) (did.after, did.filled) (ap (λ (s : Store). s.stored) c.set_size.ensures)
    (rw user at c.remove.ensures)

pub returns-else-has_pipe-clause-left : goal.returns-else-has_pipe-clause-left
returns-else-has_pipe-clause-left c = λ r. let closed = rw c.kind_of.ensures at c.in_ok-closed.ensures in free-follows-none _ _ _ _ r c.args.device c.args.number c.args.moment _ c.requires.user closed.block (search rules) (ap (λ (s : Store). s.stored) closed.closed) refl

pub returns-in_err-closed-clause-done : goal.returns-in_err-closed-clause-done
returns-in_err-closed-clause-done c = λ r.
    let failed : c.from_residual.result ≡ Err c.in_err-closed.field-0.0 = search rules in
    failed ∙ free-refused c.args.device (seen r c.args.store.now.stored c.args.shared.now) c.args.number c.args.moment _ (rw c.kind_of.ensures at c.in_err-closed.ensures.block)
