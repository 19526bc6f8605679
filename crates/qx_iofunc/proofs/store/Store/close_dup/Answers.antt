use Rattle.qx_iofunc.proofs.StoreLemmas.{close_dup_fits}
use Rattle.qx_machine.specs.Inodes.{is_shared}
use Rattle.qx_isolation.specs.Rows.{row_at}
use Rattle.qx_iofunc.proofs.store.Store.close_dup.Goals as goal

pub invariant_of-self : goal.invariant_of-self
invariant_of-self c =
    let t = c.self-inside.inside.0.0 in
    rw c.close_dup.ensures.left (close_dup_fits t.inodes t.names t.files.files c.args.number (rw (← c.self-inside.view_is) at c.self.invariant) (is_shared (row_at t.inodes.inodes.blocks c.args.number)))
