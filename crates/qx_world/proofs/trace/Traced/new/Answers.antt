use Rattle.std.proofs.Common.{◌∙◌, ap}
use Rattle.qx_machine.proofs.Runs.{boot-config}
use Rattle.qx_world.proofs.TraceLemmas.{is_run-boot}
use Rattle.qx_world.proofs.trace.Traced.new.Goals as goal

pub invariant_of-result : goal.invariant_of-result
invariant_of-result c = rw (c.new-2.ensures.items, c.new-3.ensures.items) (is_run-boot _ _ c.in_ok-new.ensures)

pub returns-clause-config : goal.returns-clause-config
returns-clause-config c = ap (λ world. world.config) c.in_ok-new.ensures ∙ boot-config _
