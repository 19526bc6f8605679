use Rattle.std.proofs.Common.{◌≡◌, ◌<◌, ◌+◌, ◌++◌, ◌∷◌, ℕ, [], is_some, slice_get, inl, inr, length, refl, ap, sym, ◌∙◌, arith}
use Rattle.std.proofs.lemmas.List.Elements.{Contains-push_cases}
use Rattle.qx_lists.specs.Table.{nodes_of}
use Rattle.qx_lines.specs.Line.{nodes_in, rank_at}
use Rattle.qx_lines.specs.inner.Line.{list_of}
use Rattle.qx_lines.proofs.NodeLemmas.{length-into}
use Rattle.qx_lines.proofs.LineFacts.{elsewhere-changed, line-changed, nodes_in-room, nodes_in-put, ranked_at}
use Rattle.qx_lines.proofs.Line.put.Goals as goal

some_pushed : (nodes : _) (node : ℕ) → is_some (slice_get (nodes ++ node ∷ []) 0) ≡ is_some (slice_get (node ∷ nodes) 0)
some_pushed [] node = refl
some_pushed (x ∷ nodes) node = refl

pub returns-clause-put : goal.returns-clause-put
returns-clause-put g c =
    nodes_in-put g.T.Ranked.rank c.args.table.now c.push_back.new.self c.args.self.now c.requires.of c.priority_of-priority.result (omega (arith, c.priority_of-priority.ensures.within, c.requires.of.whole)) _ c.push_back.ensures.pushed (record { lists = c.args.self.now.lists; marks = c.set.new.self; len = c.args.self.now.len + 1 }) c.args.node refl refl c.priority_of-priority.ensures.rank

pub returns-clause-of : goal.returns-clause-of
returns-clause-of g c =
    let rank = rank_at g.T.Ranked.rank c.args.table.now in
    let within : c.priority_of-priority.result < length c.args.self.now.lists = omega (arith, c.priority_of-priority.ensures.within, c.requires.of.whole) in
    let put = nodes_in-put g.T.Ranked.rank c.args.table.now c.push_back.new.self c.args.self.now c.requires.of c.priority_of-priority.result within _ c.push_back.ensures.pushed (record { lists = c.args.self.now.lists; marks = c.set.new.self; len = c.args.self.now.len + 1 }) c.args.node refl refl c.priority_of-priority.ensures.rank in
    let longer = length-into rank (nodes_in c.args.table.now c.args.self.now) c.args.node in
    line-changed g.T.Ranked.rank c.args.table.now c.push_back.new.self c.args.self.now c.requires.of c.priority_of-priority.result within _ c.push_back.ensures.pushed _ refl
    (omega (arith, longer, ap length put, c.requires.of.counted))
    (c.set.ensures.set ∙ sym (some_pushed (nodes_of c.args.table.now (list_of c.args.self.now c.priority_of-priority.result)) c.args.node))
    c.set.ensures.others
    (λ node at. elim (Contains-push_cases (nodes_of c.args.table.now (list_of c.args.self.now c.priority_of-priority.result)) c.args.node node at) [
      | inl before ↦ ranked_at g.T.Ranked.rank c.args.table.now c.args.self.now.lists c.requires.of.ranked c.priority_of-priority.result node within before
      | inr same ↦ sym (ap rank same) ∙ sym c.priority_of-priority.ensures.rank
    ])

pub overflow_add-self : goal.overflow_add-self
overflow_add-self g c =
    let room = nodes_in-room g.T.Ranked.rank c.args.table.now c.args.self.now c.requires.of c.know.ensures.distinct c.know.ensures.there c.args.node c.requires.free in
    omega (arith, room, c.requires.of.counted, c.know.ensures.counted)

pub returns-clause-elsewhere : goal.returns-clause-elsewhere
returns-clause-elsewhere g c =
    elsewhere-changed g.T.Ranked.rank c.args.table.now c.push_back.new.self c.args.self.now c.requires.of c.priority_of-priority.result (omega (arith, c.priority_of-priority.ensures.within, c.requires.of.whole)) _ c.push_back.ensures.pushed
