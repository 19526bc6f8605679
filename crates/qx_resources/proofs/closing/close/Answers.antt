use Rattle.std.proofs.Common.{rules, ◌≡◌, ◌∙◌, false, [], Err, subst, sym}
use Rattle.std.proofs.lemmas.Bool.{cond-false}
use Rattle.qx_iofunc.specs.Store.{Store}
use Rattle.qx_machine.specs.Defaults.{close_dup, close_ocb}
use Rattle.qx_machine.specs.Inodes.{is_shared}
use Rattle.qx_machine.specs.Managers.{own_kind}
use Rattle.qx_isolation.specs.Rows.{row_at}
use Rattle.qx_resmgr.specs.Deeds.{Did}
use Rattle.qx_resources.proofs.KeptLemmas.{close-refused}
use Rattle.qx_resources.specs.State.{state, told}
use Rattle.qx_resources.specs.inner.State.{Came}
use Rattle.qx_resources.specs.contracts.resources.Resources.{the_view}
use Rattle.qx_resources.proofs.closing.close.Goals as goal

pub returns-in_err-close_ocb-clause-did : goal.returns-in_err-close_ocb-clause-did
returns-in_err-close_ocb-clause-did c =
    let tables = c.args.tables.now in
    let own = own_kind c.args.manager in
    let opened = c.in_ok-opened.opened in
    let error = c.in_err-close_ocb.field-0.0 in
    let k = the_view c.state.inside in
    let last : is_shared (row_at k.inodes.blocks opened.number) ≡ false = sym c.if-close_dup.ensures.shared in
    let same : c.close_dup.new.self ≡ c.state.inside.store = c.close_dup.ensures.left ∙ cond-false (is_shared (row_at k.inodes.blocks opened.number)) _ _ last in
    let failed : c.from_residual-in_err-close_ocb.result ≡ Err error = search rules in
    rw (failed, c.in_ok-opened.was)
    (subst (λ k. Did state k tables c.close_ocb.new.state c.close_ocb.new.tables [] (Err error) (close_dup own (told k tables) opened)) c.state.view_is
    (close-refused k c.close_ocb.new.state tables c.close_ocb.new.tables own opened last error
    (subst (λ (store : Store). let k = the_view (record { store = store }) in Came k tables c.close_ocb.new.state c.close_ocb.new.tables (Err error) (close_ocb own (told k tables) opened.number opened.moment)) same c.in_err-close_ocb.ensures)))
