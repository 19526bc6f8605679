use Rattle.std.proofs.Common.{◌<◌, length, refl, ap, subst, sym, arith}
use Rattle.qx_lists.specs.Table.{ContainsList, IsIn, nodes_of}
use Rattle.qx_lists.proofs.ListLemmas.{contains_without}
use Rattle.qx_lists.proofs.WalkLemmas.{length-without}
use Rattle.qx_lists.proofs.TableFacts.{ContainsList-with_nodes_same}
use Rattle.qx_lines.specs.Line.{nodes_in}
use Rattle.qx_lines.specs.inner.Line.{list_of}
use Rattle.qx_lines.proofs.LineFacts.{elsewhere-changed, in_line_there, in_own_list, line-remarked, nodes_in-distinct, nodes_in-removed}
use Rattle.qx_lines.proofs.Line.remove.Goals as goal

pub priority_of-priority-requires : goal.priority_of-priority-requires
priority_of-priority-requires g c = in_line_there g.T.Ranked.rank c.args.table.now c.args.self.now c.requires.of c.know.ensures.there c.args.node c.requires.in_line

pub unlink-requires : goal.unlink-requires
unlink-requires g c = subst (λ priority. IsIn c.args.table.now (list_of c.args.self.now priority) c.args.node) (sym c.priority_of-priority.ensures.rank) (in_own_list g.T.Ranked.rank c.args.table.now c.args.self.now c.requires.of c.args.node c.requires.in_line).1

pub mark-requires-clause-list : goal.mark-requires-clause-list
mark-requires-clause-list g c = subst (λ table. ContainsList table (list_of c.args.self.now c.priority_of-priority.result)) (sym c.unlink.ensures.unlinked) (ContainsList-with_nodes_same c.args.table.now _ _)

pub returns-clause-removed : goal.returns-clause-removed
returns-clause-removed g c =
    nodes_in-removed g.T.Ranked.rank c.args.table.now c.unlink.new.self c.args.self.now c.requires.of c.priority_of-priority.result (omega (arith, c.priority_of-priority.ensures.within, c.requires.of.whole)) _ c.unlink.ensures.unlinked c.mark.new.self c.args.node c.mark.ensures.marked.lists refl c.priority_of-priority.ensures.rank

pub returns-clause-of : goal.returns-clause-of
returns-clause-of g c =
    let within : c.priority_of-priority.result < length c.args.self.now.lists = omega (arith, c.priority_of-priority.ensures.within, c.requires.of.whole) in
    let gone = nodes_in-removed g.T.Ranked.rank c.args.table.now c.unlink.new.self c.args.self.now c.requires.of c.priority_of-priority.result within _ c.unlink.ensures.unlinked c.mark.new.self c.args.node c.mark.ensures.marked.lists refl c.priority_of-priority.ensures.rank in
    let shorter = length-without (nodes_in c.args.table.now c.args.self.now) c.args.node (nodes_in-distinct g.T.Ranked.rank c.args.table.now c.args.self.now c.requires.of c.know.ensures.distinct) c.requires.in_line in
    line-remarked g.T.Ranked.rank c.args.table.now c.unlink.new.self c.args.self.now c.requires.of c.priority_of-priority.result within _ c.unlink.ensures.unlinked c.mark.new.self _ c.mark.ensures.marked
    (omega (arith, shorter, ap length gone, c.requires.of.counted, c.mark.ensures.marked.len))
    (λ node at. contains_without c.args.node node (nodes_of c.args.table.now (list_of c.args.self.now c.priority_of-priority.result)) at)

pub returns-clause-elsewhere : goal.returns-clause-elsewhere
returns-clause-elsewhere g c =
    elsewhere-changed g.T.Ranked.rank c.args.table.now c.unlink.new.self c.args.self.now c.requires.of c.priority_of-priority.result (omega (arith, c.priority_of-priority.ensures.within, c.requires.of.whole)) _ c.unlink.ensures.unlinked
