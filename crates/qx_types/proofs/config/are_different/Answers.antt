use Rattle.std.proofs.Common.{rules, arith}
use Rattle.std.proofs.lemmas.Grind.{common_steps}
use Rattle.qx_types.proofs.Different.{different_more, repeated_name}
use Rattle.qx_types.proofs.config.are_different.Goals as goal

pub returns-then-contains : goal.returns-then-contains
returns-then-contains c = grind (arith, common_steps, repeated_name)

pub loop-index-preserved : goal.loop-index-preserved
loop-index-preserved c =
    different_more _ _ _ c.loop-index-test.true c.index-names-index.is (search rules) c.loop-index.invariant
