use Rattle.std.proofs.Common.{◌-◌}
use Rattle.qx_notify.proofs.PutLemmas.{nowhere-free, put-last}
use Rattle.qx_notify.proofs.lists.append.Goals as goal

pub returns-clause-put : goal.returns-clause-put
returns-clause-put c = rw (c.push_back.ensures, c.in_ok-node.ensures.made) (put-last c.args.table.now c.args.list c.in_ok-node.node c.args.event (c.args.table.now.room - 1) (λ other at. nowhere-free c.new_node.new.self c.in_ok-node.node c.in_ok-node.ensures.free other (rw c.in_ok-node.ensures.made at)))
