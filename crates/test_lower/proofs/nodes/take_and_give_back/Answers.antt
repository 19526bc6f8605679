use Rattle.qx_queues.proofs.SetLemmas.{contains-insert_same, server_exact, server_total}
use Rattle.test_lower.proofs.nodes.take_and_give_back.Goals as goal

pub disconnect-requires-clause-there : goal.disconnect-requires-clause-there
disconnect-requires-clause-there c = rw c.in_ok-add_server.ensures.ok (contains-insert_same server_total server_exact c.args.queues.now.servers (c.args.proc, 0))
