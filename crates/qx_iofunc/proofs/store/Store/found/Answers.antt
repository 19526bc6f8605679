use Rattle.std.proofs.Common.{◌≡◌, ◌∙◌, Ok, Err, ap, subst, sym}
use Rattle.std.proofs.lemmas.Result.{err_from_is_err_and}
use Rattle.qx_iofunc.proofs.OpenLemmas.{existing_allowed, existing_judged}
use Rattle.qx_iofunc.specs.declared.store.Store.TheInside.{Inside}
use Rattle.qx_iofunc.specs.Makes.{may_open}
use Rattle.qx_iofunc.specs.Store.{Store, with_stored}
use Rattle.qx_iofunc.proofs.store.Store.found.Goals as goal

pub returns-in_err-block-clause-opens : goal.returns-in_err-block-clause-opens
returns-in_err-block-clause-opens c = λ r over own mode moment.
    let view = ap (λ (inside : Inside). inside.tables) c.self-inside.view_is ∙ c.self.view_is in
    let error = err_from_is_err_and c.from_residual.result c.from_residual.ensures.1 in
    let may = subst (λ (store : Store). Err c.in_err-block.field-0.0 ≡ may_open store.stored.inodes store.stored.user c.args.inode c.args.flags) view c.in_err-block.ensures.may in
    rw (error.1, error.2) (existing_judged (with_stored r c.args.self.now.stored) over c.args.inode (record { flags = c.args.flags; mode = mode; moment = moment }) (Err c.in_err-block.field-0.0) (sym may))

pub returns-clause-allowed : goal.returns-clause-allowed
returns-clause-allowed c =
    let view = ap (λ (inside : Inside). inside.tables) c.self-inside.view_is ∙ c.self.view_is in
    let block = c.in_ok-block.block in
    let may = subst (λ (store : Store). Ok block ≡ may_open store.stored.inodes store.stored.user c.args.inode c.args.flags) view c.in_ok-block.ensures.may in
    record {
      free = tt;
      judged = sym may;
      opens = λ r over own mode moment. existing_allowed (with_stored r c.args.self.now.stored) over c.args.inode (record { flags = c.args.flags; mode = mode; moment = moment }) block (sym may);
    }
