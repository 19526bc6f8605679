use Rattle.std.proofs.Common.{◌∙◌, map}
use Rattle.qx_queues.specs.inner.Kept.{entries}
use Rattle.qx_queues.proofs.MarkLemmas.{next_at, next_none, shows}
use Rattle.qx_queues.proofs.queues.Queues.next_from.Goals as goal

pub returns-in_err-lowest_from : goal.returns-in_err-lowest_from
returns-in_err-lowest_from c =
    let table = c.self.inside.table in
    let lines = c.self.inside.lines.items in
    c.from_residual.ensures ∙ rw (← c.self.view_is) (next_none c.self.inside.marks lines (map (entries table) lines) (λ n. shows table lines n c.self.invariant.1.line) c.self.invariant.3 c.args.number c.in_err-lowest_from.ensures.none)

pub returns : goal.returns
returns c =
    let table = c.self.inside.table in
    let lines = c.self.inside.lines.items in
    rw (← c.self.view_is) (next_at c.self.inside.marks lines (map (entries table) lines) (λ n. shows table lines n c.self.invariant.1.line) c.self.invariant.3 c.args.number c.in_ok-lowest_from.field-0 c.in_ok-lowest_from.ensures.lowest c.of_number.result c.of_number.ensures)
