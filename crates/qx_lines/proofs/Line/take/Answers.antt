use Rattle.std.proofs.Common.{◌≡◌, ◌/◌, length, slice_get, drop, refl, ap, subst, sym, ◌∙◌, arith, length-drop}
use Rattle.std.proofs.lemmas.Option.{slice_get_within}
use Rattle.qx_lists.specs.Table.{ContainsList, nodes_of}
use Rattle.qx_lists.proofs.ListLemmas.{contains_rest, contains_slice_first}
use Rattle.qx_lists.proofs.TableFacts.{ContainsList-with_nodes_same}
use Rattle.qx_lines.specs.Line.{nodes_in, rank_at}
use Rattle.qx_lines.specs.inner.Line.{list_of}
use Rattle.qx_lines.proofs.LineFacts.{elsewhere-changed, first_is, highest_some, highest_within, line-remarked, nodes_in-none, nodes_in-taken, ranked_at}
use Rattle.qx_lines.proofs.Line.take.Goals as goal

pub returns-in_err-priority-clause-first : goal.returns-in_err-priority-clause-first
returns-in_err-priority-clause-first g c = c.from_residual.ensures ∙ sym (ap (λ nodes. slice_get nodes 0) (nodes_in-none g.T.Ranked.rank c.args.table.now c.args.self.now c.requires.of c.in_err-priority.ensures.none))

pub returns-in_err-priority-clause-rest : goal.returns-in_err-priority-clause-rest
returns-in_err-priority-clause-rest g c = let none = nodes_in-none g.T.Ranked.rank c.args.table.now c.args.self.now c.requires.of c.in_err-priority.ensures.none in none ∙ sym (ap (drop 1) none)

pub assert_unchecked-requires : goal.assert_unchecked-requires
assert_unchecked-requires g c = absurd (highest_some g.T.Ranked.rank c.args.table.now c.args.self.now c.requires.of c.in_ok-priority.priority c.in_ok-priority.ensures.highest (sym c.pop_front.ensures.first ∙ c.in_default.is))

pub mark-requires-clause-list : goal.mark-requires-clause-list
mark-requires-clause-list g c = subst (λ table. ContainsList table (list_of c.args.self.now c.in_ok-priority.priority)) (sym c.pop_front.ensures.rest) (ContainsList-with_nodes_same c.args.table.now _ _)

pub overflow_sub-self : goal.overflow_sub-self
overflow_sub-self g c =
    let first = first_is g.T.Ranked.rank c.args.table.now c.args.self.now c.requires.of c.in_ok-priority.priority c.in_ok-priority.ensures.highest in
    let within = slice_get_within (nodes_in c.args.table.now c.args.self.now) 0 c.in-Some.node (sym first ∙ sym c.pop_front.ensures.first ∙ c.in-Some.is) in
    omega (arith, within, c.requires.of.counted, c.mark.ensures.marked.len)

pub returns-clause-first : goal.returns-clause-first
returns-clause-first g c = sym c.in-Some.is ∙ c.pop_front.ensures.first ∙ first_is g.T.Ranked.rank c.args.table.now c.args.self.now c.requires.of c.in_ok-priority.priority c.in_ok-priority.ensures.highest

pub returns-clause-rest : goal.returns-clause-rest
returns-clause-rest g c =
    let within = highest_within g.T.Ranked.rank c.args.table.now c.args.self.now c.requires.of c.in_ok-priority.priority c.in_ok-priority.ensures.highest in
    nodes_in-taken g.T.Ranked.rank c.args.table.now c.pop_front.new.self c.args.self.now c.requires.of c.in_ok-priority.priority within _ c.pop_front.ensures.rest c.mark.new.self c.in-Some.node c.mark.ensures.marked.lists refl (sym c.pop_front.ensures.first ∙ c.in-Some.is) c.in_ok-priority.ensures.highest.highest

pub returns-clause-of : goal.returns-clause-of
returns-clause-of g c =
    let within = highest_within g.T.Ranked.rank c.args.table.now c.args.self.now c.requires.of c.in_ok-priority.priority c.in_ok-priority.ensures.highest in
    let rest = nodes_in-taken g.T.Ranked.rank c.args.table.now c.pop_front.new.self c.args.self.now c.requires.of c.in_ok-priority.priority within _ c.pop_front.ensures.rest c.mark.new.self c.in-Some.node c.mark.ensures.marked.lists refl (sym c.pop_front.ensures.first ∙ c.in-Some.is) c.in_ok-priority.ensures.highest.highest in
    let shorter = length-drop 1 (nodes_in c.args.table.now c.args.self.now) in
    line-remarked g.T.Ranked.rank c.args.table.now c.pop_front.new.self c.args.self.now c.requires.of c.in_ok-priority.priority within _ c.pop_front.ensures.rest c.mark.new.self _ c.mark.ensures.marked
    (omega (arith, shorter, ap length rest, c.requires.of.counted, c.mark.ensures.marked.len))
    (λ node at. contains_rest node (nodes_of c.args.table.now (list_of c.args.self.now c.in_ok-priority.priority)) at)

pub returns-clause-elsewhere : goal.returns-clause-elsewhere
returns-clause-elsewhere g c =
    let within = highest_within g.T.Ranked.rank c.args.table.now c.args.self.now c.requires.of c.in_ok-priority.priority c.in_ok-priority.ensures.highest in
    elsewhere-changed g.T.Ranked.rank c.args.table.now c.pop_front.new.self c.args.self.now c.requires.of c.in_ok-priority.priority within _ c.pop_front.ensures.rest

pub returns-clause-looks : goal.returns-clause-looks
returns-clause-looks g c =
    let within = highest_within g.T.Ranked.rank c.args.table.now c.args.self.now c.requires.of c.in_ok-priority.priority c.in_ok-priority.ensures.highest in
    let first = contains_slice_first (nodes_of c.args.table.now (list_of c.args.self.now c.in_ok-priority.priority)) c.in-Some.node (sym c.pop_front.ensures.first ∙ c.in-Some.is) in
    let own : rank_at g.T.Ranked.rank c.args.table.now c.in-Some.node ≡ c.in_ok-priority.priority = ranked_at g.T.Ranked.rank c.args.table.now c.args.self.now.lists c.requires.of.ranked c.in_ok-priority.priority c.in-Some.node within first in
    omega (arith, ap (λ n. n / 64) own, c.in_ok-priority.ensures.looks, c.in-Some.ensures.looks, c.mark.ensures.looks)
