use Rattle.std.proofs.Common.{◌≡◌, ◌<◌, ℕ, List, [], Contains, unwrap_or, is_some, length, get_or, slice_get, refl, ap, sym, ◌∙◌, arith}
use Rattle.std.specs.FinMap as map
use Rattle.qx_lists.specs.Table.{Table, ContainsList, nodes_of}
use Rattle.qx_lines.specs.inner.Line.{AreNew, with_empty}
use Rattle.qx_lines.proofs.BucketLemmas.{last_first-none}
use Rattle.qx_lines.proofs.NewLemmas.{empty-with_empty, other-with_empty, was_new, apart_new, contained-with_empty}
use Rattle.qx_lines.proofs.LineFacts.{in_none, marked_from, ranked_from}
use Rattle.qx_lines.proofs.MarkLemmas.{marked_zero}
use Rattle.qx_lines.proofs.Line.new.Goals as goal

listed : {T : Type 0} (t new : Table T) (news : List ℕ) (list : ℕ) → new ≡ record t { lists = with_empty t.lists news } → AreNew t.lists news → Contains news list → ContainsList new list
listed t new news list is are own = ap (λ table. is_some (map.get table.lists list)) is ∙ contained-with_empty t.lists news list are own

pub returns-clause-was_new : goal.returns-clause-was_new
returns-clause-was_new g c = λ list own. was_new c.args.table.now.lists c.add_lists.new.lists list c.in_ok-add_lists.ensures.were_new own

pub returns-clause-empty : goal.returns-clause-empty
returns-clause-empty g c = last_first-none (nodes_of c.add_lists.new.table) c.add_lists.new.lists (λ i within.
    ap (λ table. nodes_of table (get_or c.add_lists.new.lists i 0)) c.in_ok-add_lists.ensures.made ∙ ap (λ o. unwrap_or o []) (empty-with_empty c.args.table.now.lists c.add_lists.new.lists c.in_ok-add_lists.ensures.were_new i within))

pub returns-clause-elsewhere : goal.returns-clause-elsewhere
returns-clause-elsewhere g c = record {
  values = ap (λ table. table.values) c.in_ok-add_lists.ensures.made;
  room = ap (λ table. table.room) c.in_ok-add_lists.ensures.made;
  lists = λ list not_own. ap (λ table. map.get table.lists list) c.in_ok-add_lists.ensures.made ∙ other-with_empty c.args.table.now.lists c.add_lists.new.lists list not_own;
}

pub returns-clause-of : goal.returns-clause-of
returns-clause-of g c =
    let empty : (i : ℕ) → i < length c.add_lists.new.lists → nodes_of c.add_lists.new.table (get_or c.add_lists.new.lists i 0) ≡ [] = λ i within.
    ap (λ table. nodes_of table (get_or c.add_lists.new.lists i 0)) c.in_ok-add_lists.ensures.made ∙ ap (λ o. unwrap_or o []) (empty-with_empty c.args.table.now.lists c.add_lists.new.lists c.in_ok-add_lists.ensures.were_new i within) in
    record {
      whole = omega arith;
      there = λ list own. listed c.args.table.now c.add_lists.new.table c.add_lists.new.lists list c.in_ok-add_lists.ensures.made c.in_ok-add_lists.ensures.were_new own;
      apart = apart_new c.args.table.now.lists c.add_lists.new.lists c.in_ok-add_lists.ensures.were_new;
      counted = ap length (sym (last_first-none (nodes_of c.add_lists.new.table) c.add_lists.new.lists empty));
      marked = marked_from _ c.add_lists.new.table c.add_lists.new.lists (λ i within. marked_zero _ i refl ∙ ap (λ nodes. is_some (slice_get nodes 0)) (sym (empty i within)));
      ranked = ranked_from _ c.add_lists.new.table c.add_lists.new.lists (λ i node within at. absurd (in_none node _ (empty i within) at));
    }
