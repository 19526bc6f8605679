use Rattle.std.proofs.Common.{sym}
use Rattle.std.proofs.lemmas.Option.{slice_get_read}
use Rattle.qx_types.specs.Managers.{manager_count}
use Rattle.qx_queues.proofs.queues.Queues.first.Goals as goal

pub first_of-requires-clause-line : goal.first_of-requires-clause-line
first_of-requires-clause-line c = c.self.invariant.1.line c.number.result c.index.result.now (slice_get_read c.self.inside.lines.items manager_count c.number.result c.index.result.now (sym c.self.invariant.0) c.number.ensures.few c.index.ensures)
