-- The search for a number that is free, and a change of one node.
use Rattle.std.proofs.Common.{◌≡◌, ◌∙◌, ℕ, ◌+◌, ◌<◌, ◌≤◌, Bool, true, false, cond, List, length, drop, get_or, sym, ap, Option, None}
use Rattle.std.specs.Prelude.{option_map}
use Rattle.std.proofs.Math.ListN.{set}
use Rattle.std.proofs.lemmas.List.{at_drop_all, at_drop_more}
use Rattle.qx_isolation.specs.Rows.{with_row}
use Rattle.qx_rows.proofs.RowLemmas.{row_at-get_or, row_at-place}
use Rattle.qx_fuse_tables.specs.declared.change.Node.{Node}
use Rattle.qx_fuse_tables.specs.Handles.{HandleRows}
use Rattle.qx_fuse_tables.specs.Nodes.{NodeRows, first_idle, is_idle, is_unneeded}

-- what the search finds at a place
unneeded-place : (nodes : NodeRows) (handles : HandleRows) (n : ℕ) (is : Bool) → is_idle nodes handles n ≡ is → is_unneeded nodes handles n (get_or nodes n None) ≡ is
unneeded-place nodes handles n is e = ap (λ (place : Option Node). is_unneeded nodes handles n place) (sym (row_at-get_or nodes n)) ∙ e

one_step : (nodes : NodeRows) (handles : HandleRows) (n : ℕ) (is : Bool) → n < length nodes → is_idle nodes handles n ≡ is
    → first_idle nodes handles n (drop n nodes) ≡ cond is n (first_idle nodes handles (n + 1) (drop (n + 1) nodes))
one_step nodes handles n is lt e =
    at_drop_more (first_idle nodes handles n) nodes n None lt
    ∙ ap (λ (b : Bool). cond b n (first_idle nodes handles (n + 1) (drop (n + 1) nodes))) (unneeded-place nodes handles n is e)

-- a place that is needed is passed
pub first_idle_more : (nodes : NodeRows) (handles : HandleRows) (n : ℕ) → n < length nodes → is_idle nodes handles n ≡ false
    → first_idle nodes handles n (drop n nodes) ≡ first_idle nodes handles (n + 1) (drop (n + 1) nodes)
first_idle_more nodes handles n lt e = one_step nodes handles n false lt e

-- and the first that is not is found
pub first_idle_here : (nodes : NodeRows) (handles : HandleRows) (n : ℕ) → n < length nodes → is_idle nodes handles n ≡ true → first_idle nodes handles n (drop n nodes) ≡ n
first_idle_here nodes handles n lt e = one_step nodes handles n true lt e

-- behind the last one all are free
pub first_idle_end : (nodes : NodeRows) (handles : HandleRows) (n : ℕ) → length nodes ≤ n → first_idle nodes handles n (drop n nodes) ≡ n
first_idle_end nodes handles n le = at_drop_all (first_idle nodes handles n) nodes n le

-- a place that was read, changed and written back
pub changed_row : {A : Type 0} (xs : List (Option A)) (n : ℕ) (f : A → A) (x y : Option A) → n < length xs → x ≡ get_or xs n x → y ≡ option_map f x → set xs n y ≡ with_row xs n f
changed_row xs n f x y lt read is = ap (λ z. set xs n z) (is ∙ ap (option_map f) (sym (row_at-place xs n x lt read)))
