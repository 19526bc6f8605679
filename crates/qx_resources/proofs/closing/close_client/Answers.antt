use Rattle.std.proofs.Common.{◌∙◌, ap, slice_get, sym}
use Rattle.qx_machine.specs.Inodes.{Inodes, blocks_of_client}
use Rattle.qx_resources.proofs.DisconnectLemmas.{leads-end, leads-on, leads-past}
use Rattle.qx_resources.specs.State.{Kept}
use Rattle.qx_resources.proofs.closing.close_client.Goals as goal

pub numbers-preserved-then-is_err : goal.numbers-preserved-then-is_err
numbers-preserved-then-is_err c =
    let past = leads-past c.args.client c.args.moment c.args.state.now c.args.tables.now _ c.numbers.state c.close_ocb.new.state c.numbers.tables c.close_ocb.new.tables c.numbers.kept c.in-Some.number c.numbers.invariant.has c.numbers.invariant.leads
    c.inodes.result.now.inodes (c.inodes.ensures ∙ ap (λ (k : Kept). k.inodes) c.state.view_is) c.in-Some.ensures.number c.close_ocb.result c.if-is_err.ensures.value c.close_ocb.ensures in
    record { has = past.has_user; leads = past.leads_on }

pub numbers-smaller : goal.numbers-smaller
numbers-smaller c =
    let on = leads-on c.args.client c.args.moment c.args.state.now c.args.tables.now _ c.numbers.state c.close_ocb.new.state c.numbers.tables c.close_ocb.new.tables c.numbers.kept c.in-Some.number c.numbers.invariant.has c.numbers.invariant.leads
    c.inodes.result.now.inodes (c.inodes.ensures ∙ ap (λ (k : Kept). k.inodes) c.state.view_is) c.in-Some.ensures.number c.in-Some.ensures.once c.close_ocb.result c.if-is_err.ensures.value c.close_ocb.ensures in
    on.fewer

pub numbers-preserved : goal.numbers-preserved
numbers-preserved c =
    let on = leads-on c.args.client c.args.moment c.args.state.now c.args.tables.now _ c.numbers.state c.close_ocb.new.state c.numbers.tables c.close_ocb.new.tables c.numbers.kept c.in-Some.number c.numbers.invariant.has c.numbers.invariant.leads
    c.inodes.result.now.inodes (c.inodes.ensures ∙ ap (λ (k : Kept). k.inodes) c.state.view_is) c.in-Some.ensures.number c.in-Some.ensures.once c.close_ocb.result c.if-is_err.ensures.value c.close_ocb.ensures in
    record { has = on.has_user; leads = on.leads_on }

pub returns : goal.returns
returns c =
    let same = c.inodes.ensures ∙ ap (λ (k : Kept). k.inodes) c.state.view_is in
    leads-end c.args.client c.args.moment c.args.state.now c.args.tables.now _ c.numbers.state c.numbers.tables c.numbers.kept c.numbers.invariant.leads (ap (λ (inodes : Inodes). slice_get (blocks_of_client inodes c.args.client) c.numbers.kept) (sym same) ∙ sym c.in_default.ensures.number)
