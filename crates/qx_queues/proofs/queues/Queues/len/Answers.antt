use Rattle.std.proofs.Common.{◌≡◌, Some, slice_get, sym, ◌∙◌}
use Rattle.std.proofs.lemmas.List.{length-map}
use Rattle.std.proofs.lemmas.Option.{slice_get_read}
use Rattle.qx_types.specs.Managers.{manager_count}
use Rattle.qx_lines.specs.Line.{nodes_in}
use Rattle.qx_queues.specs.inner.Kept.{entry_of_node}
use Rattle.qx_queues.proofs.KeptLemmas.{line_at-shown}
use Rattle.qx_queues.proofs.queues.Queues.len.Goals as goal

pub returns : goal.returns
returns c =
    let is : slice_get c.self.inside.lines.items c.number.result ≡ Some c.index.result.now = slice_get_read c.self.inside.lines.items manager_count c.number.result c.index.result.now (sym c.self.invariant.0) c.number.ensures.few c.index.ensures in
    rw (← c.self.view_is, ← c.number.ensures.number, line_at-shown c.self.inside.table _ c.number.result _ is) (record { count = c.len.ensures ∙ (c.self.invariant.1.line c.number.result c.index.result.now is).counted ∙ sym (length-map (nodes_in c.self.inside.table c.index.result.now) (entry_of_node c.self.inside.table)) })
