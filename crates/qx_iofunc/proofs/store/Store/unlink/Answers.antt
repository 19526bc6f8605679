use Rattle.std.proofs.Common.{sym, ◌∙◌}
use Rattle.qx_iofunc.proofs.OpenLemmas.{at_spot, none_in, writable_row}
use Rattle.qx_iofunc.proofs.StoreLemmas.{StoreFits, unlinked_fits}
use Rattle.qx_iofunc.specs.Store.{Stored}
use Rattle.qx_machine.specs.Names as of_names
use Rattle.qx_names.specs.Spots.{spot_of}
use Rattle.qx_base.specs.declared.errno.Errno.TheVariants.{EBUSY}
use Rattle.qx_iofunc.proofs.store.Store.unlink.Goals as goal

pub take_name-is_gone-requires-clause-named : goal.take_name-is_gone-requires-clause-named
take_name-is_gone-requires-clause-named c =
    let t = c.self-inside.inside.0.0 in
    sym (at_spot t.inodes.inodes t.names t.user.0 c.args.root c.args.rest.now EBUSY (spot_of t.names c.in_ok-at.at) c.in_ok-at.ensures.spot) ∙ c.in-Some.is

pub take_name-is_gone-requires-clause-empty : goal.take_name-is_gone-requires-clause-empty
take_name-is_gone-requires-clause-empty c =
    none_in (of_names.names_in c.self-inside.inside.0.0.names c.in-Some.inode) (sym c.if-not-is_empty.ensures.empty)

pub invariant_of-self : goal.invariant_of-self
invariant_of-self c =
    let t = c.self-inside.inside.0.0 in
    let s : Stored = record { user = t.user.0; inodes = t.inodes.inodes; names = t.names; files = t.files.files; limits = t.limits } in
    let fits : StoreFits s = rw (← c.self-inside.view_is) at c.self.invariant in
    let at : of_names.Spot = spot_of s.names c.in_ok-at.at in
    let parent_is = writable_row s.inodes s.user at.parent c.in_ok-parent.parent (sym c.in_ok-parent.ensures.writable) in
    rw (c.take_name-is_gone.ensures.taken, c.set_attribute.ensures.set, c.changed.ensures)
    (unlinked_fits c.args.own at.parent at.key c.in-Some.inode c.in_ok-parent.parent c.in-Some-attr.attr.now.attribute c.args.moment s parent_is (sym c.in-Some-attr.ensures.attribute) (sym c.if-not-is_own.ensures) c.take_name-is_gone.ensures.unnamed fits)
