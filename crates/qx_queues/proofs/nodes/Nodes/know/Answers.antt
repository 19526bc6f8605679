use Rattle.std.proofs.Common.{◌∙◌, arith, sym}
use Rattle.qx_queues.proofs.NodesLemmas.{row_at-past}
use Rattle.qx_queues.proofs.nodes.Nodes.know.Goals as goal

pub returns : goal.returns
returns c = record { few = λ thread past. sym (c.threads-threads.ensures.own thread) ∙ row_at-past c.threads-threads.result.now thread (omega (arith, c.threads-threads.ensures.few)) }
