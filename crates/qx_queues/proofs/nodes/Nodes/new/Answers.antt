use Rattle.std.proofs.Common.{◌∙◌, ap, ◌++◌, ◌∷◌, []}
use Rattle.std.proofs.lemmas.List.{replicate_more}
use Rattle.qx_queues.specs.Nodes.{no_process_nodes}
use Rattle.qx_queues.proofs.nodes.Nodes.new.Goals as goal

pub loop-preserved : goal.loop-preserved
loop-preserved c = c.in_ok-push.ensures.items ∙ ap (λ l. l ++ no_process_nodes ∷ []) c.loop.invariant ∙ replicate_more c.loop.counter no_process_nodes
