use Rattle.std.proofs.Common.{arith}
use Rattle.std.proofs.lemmas.Grind.{common_steps}
use Rattle.std.proofs.lemmas.List.{replicate-append-replicate}
use Rattle.qx_process.proofs.threads.new_threads.Goals as goal

pub push-requires-in-loop : goal.push-requires-in-loop
push-requires-in-loop c = grind (arith, common_steps)

pub loop-preserved : goal.loop-preserved
loop-preserved c = grind (arith, common_steps, replicate-append-replicate)
