use Rattle.std.proofs.Common.{◌≤◌, length, arith, sym}
use Rattle.qx_queues.proofs.NodesLemmas.{nodes_at-no_user}
use Rattle.qx_queues.proofs.nodes.Nodes.threads.Goals as goal

pub returns-in_default : goal.returns-in_default
returns-in_default c =
    let past : length c.args.self.now ≤ c.args.proc.user.0 = rw (c.deref.ensures.value, c.self.view_is) at c.in_default.ensures.lookup.3 in
    record { own = λ number. sym (nodes_at-no_user c.args.self.now (record { proc = c.args.proc; tid = number }) past); few = omega arith }
