use Rattle.std.proofs.Common.{sym}
use Rattle.qx_iofunc.proofs.StoreLemmas.{closed_fits, own_is}
use Rattle.qx_iofunc.specs.Store.{Stored}
use Rattle.qx_iofunc.proofs.store.Store.close.Goals as goal

pub invariant_of-self : goal.invariant_of-self
invariant_of-self c =
    let t = c.self-inside.inside.0.0 in
    let s : Stored = record { user = t.user.0; inodes = t.inodes.inodes; names = t.names; files = t.files.files; limits = t.limits } in
    let own = own_is s.inodes c.args.number c.args.own c.in_ok-block.block (sym c.in_ok-block.ensures.block) in
    rw (c.free.ensures.freed, c.close_block.ensures.closed) (closed_fits c.args.own c.args.number c.in_ok-block.block s own.0 own.1 (rw (← c.self-inside.view_is) at c.self.invariant))
