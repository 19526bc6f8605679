use Rattle.qx_iofunc.proofs.StoreLemmas.{dup_fits}
use Rattle.qx_iofunc.proofs.store.Store.dup.Goals as goal

pub invariant_of-self : goal.invariant_of-self
invariant_of-self c =
    let t = c.self-inside.inside.0.0 in
    dup_fits t.inodes t.names t.files.files c.args.number (rw (← c.self-inside.view_is) at c.self.invariant) c.dup_block.new.self c.dup_block.result c.dup_block.ensures.shared c.dup_block.ensures.err
