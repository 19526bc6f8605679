use Rattle.std.proofs.Common.{◌≡◌, ℕ, ◌+◌, Option, None, Some, MatchOption, slice_get, refl, ap, sym, ◌∙◌, arith}
use Rattle.qx_lists.specs.Table.{nodes_of}
use Rattle.qx_lists.proofs.ListLemmas.{contains_slice_first}
use Rattle.qx_lines.specs.Line.{rank_at}
use Rattle.qx_lines.specs.Marks.{words_down_to}
use Rattle.qx_lines.specs.inner.Line.{list_of}
use Rattle.qx_lines.specs.declared.marks.TheConstants.{WORDS}
use Rattle.qx_lines.proofs.LineFacts.{nodes_in-none, first_is, highest_some, highest_within, ranked_at}
use Rattle.qx_lines.proofs.Line.first.Goals as goal

looked : (first : Option ℕ) (new old priority : ℕ) (rank : ℕ → ℕ) → (first ≡ None → ⊥) → ((node : ℕ) → first ≡ Some node → rank node ≡ priority) → new ≡ old + words_down_to priority + 2 → MatchOption first (new ≡ old + WORDS) (λ node. new ≡ old + words_down_to (rank node) + 2)
looked None new old priority rank some own is = absurd (some refl)
looked (Some node) new old priority rank some own is = is ∙ ap (λ p. old + words_down_to p + 2) (sym (own node refl))

pub returns-in_err-priority-clause-first : goal.returns-in_err-priority-clause-first
returns-in_err-priority-clause-first g c = c.from_residual.ensures ∙ sym (ap (λ nodes. slice_get nodes 0) (nodes_in-none g.T.Ranked.rank c.args.table.now c.args.self.now c.requires c.in_err-priority.ensures.none))

pub returns-clause-first : goal.returns-clause-first
returns-clause-first g c = c.first.ensures.first ∙ first_is g.T.Ranked.rank c.args.table.now c.args.self.now c.requires c.in_ok-priority.priority c.in_ok-priority.ensures.highest

pub returns-clause-looks : goal.returns-clause-looks
returns-clause-looks g c =
    let within = highest_within g.T.Ranked.rank c.args.table.now c.args.self.now c.requires c.in_ok-priority.priority c.in_ok-priority.ensures.highest in
    looked c.first.result c.first.new.looks c.args.looks.now c.in_ok-priority.priority (rank_at g.T.Ranked.rank c.args.table.now)
    (λ none. highest_some g.T.Ranked.rank c.args.table.now c.args.self.now c.requires c.in_ok-priority.priority c.in_ok-priority.ensures.highest (sym c.first.ensures.first ∙ none))
    (λ node is. ranked_at g.T.Ranked.rank c.args.table.now c.args.self.now.lists c.requires.ranked c.in_ok-priority.priority node within (contains_slice_first (nodes_of c.args.table.now (list_of c.args.self.now c.in_ok-priority.priority)) node (sym c.first.ensures.first ∙ is)))
    (omega (arith, c.in_ok-priority.ensures.looks, c.first.ensures.looks))
