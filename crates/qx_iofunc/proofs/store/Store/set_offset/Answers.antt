use Rattle.std.proofs.Common.{refl}
use Rattle.qx_iofunc.proofs.StoreLemmas.{block_changed_fits}
use Rattle.qx_machine.specs.Inodes.{moved_to}
use Rattle.qx_iofunc.proofs.store.Store.set_offset.Goals as goal

pub invariant_of-self : goal.invariant_of-self
invariant_of-self c =
    let t = c.self-inside.inside.0.0 in
    rw c.set_offset.ensures.moved (block_changed_fits t.inodes t.names t.files.files c.args.number (rw (← c.self-inside.view_is) at c.self.invariant) (moved_to c.args.offset) (λ block. refl))
