use Rattle.std.proofs.Common.{refl, sym}
use Rattle.qx_iofunc.proofs.StoreLemmas.{kept_fits}
use Rattle.qx_iofunc.proofs.store.Store.chmod.Goals as goal

-- a mode is no part of a size
pub invariant_of-self : goal.invariant_of-self
invariant_of-self c =
    let t = c.self-inside.inside.0.0 in
    rw c.set_attribute.ensures.set
    (kept_fits t.inodes.inodes t.names t.files.files c.in-Some.block.now.inode c.in-Some-attr.attr.now.attribute _ (sym c.in-Some-attr.ensures.attribute) refl refl (rw (← c.self-inside.view_is) at c.self.invariant))
