-- The lists that are a line's own, and the nodes in them.
use Rattle.std.proofs.Common.{◌≡◌, ℕ, true, false, List, [], ◌∷◌, Contains, get_or, refl, sym, ◌∙◌, subst, arith}
use Rattle.std.proofs.lemmas.Bool.{eqb-true}
use Rattle.std.proofs.lemmas.Cmp.{nat_eq_equiv}
use Rattle.std.proofs.lemmas.List.Elements.{Contains-get_or}
use Rattle.std.proofs.lemmas.Map.Views.{Contains-from_any, list_any-from_Contains}
use Rattle.qx_lists.specs.Table.{Table, IsIn, nodes_of}
use Rattle.qx_lists.proofs.ListLemmas.{contains_first}
use Rattle.qx_lines.specs.declared.Line.{Line}
use Rattle.qx_lines.specs.Line.{IsInLine, IsOwn, nodes_in}
use Rattle.qx_lines.proofs.BucketLemmas.{contains_last_first, last_first-contains, last_first-none}
use Rattle.qx_lines.proofs.NewLemmas.{get_or_any}
use Rattle.qx_queues.specs.inner.Kept.{is_own}

pub own_list : (line : Line) (list : ℕ) → is_own list line ≡ true → IsOwn line list
own_list line list is = Contains-from_any eqb-true list line.lists is

pub is_own-list : (line : Line) (list : ℕ) → IsOwn line list → is_own list line ≡ true
is_own-list line list own = list_any-from_Contains nat_eq_equiv list line.lists own

pub not_own : (line : Line) (list : ℕ) → is_own list line ≡ false → IsOwn line list → ⊥
not_own line list off own = let clash : true ≡ false = sym (is_own-list line list own) ∙ off in cc

module _ {T : Type 0} (t : Table T) (line : Line) where
  -- a node of the line stands in one of its lists
  pub in_own : (node : ℕ) → IsInLine t line node → (list : ℕ) × IsOwn line list × IsIn t list node
  in_own node at = let found = contains_last_first (nodes_of t) line.lists node at in (get_or line.lists found.0 0, Contains-get_or line.lists found.0 0 found.1, found.2)

  pub own_in : (list node : ℕ) → IsOwn line list → IsIn t list node → IsInLine t line node
  own_in list node own at = last_first-contains (nodes_of t) line.lists own.0 node own.1 (subst (λ l. IsIn t l node) (sym own.2 ∙ get_or_any line.lists own.0 0 list own.1) at)

  pub in_no_line : {node : ℕ} → ((list : ℕ) → IsIn t list node → ⊥) → IsInLine t line node → ⊥
  in_no_line {node} none at = let own = in_own node at in none own.0 own.2

  -- where no list has a node, the line has none, and the other way round
  pub nodes_in-none : ((list : ℕ) → nodes_of t list ≡ []) → nodes_in t line ≡ []
  nodes_in-none none = last_first-none (nodes_of t) line.lists (λ i within. none (get_or line.lists i 0))

  pub own-none : nodes_in t line ≡ [] → (list : ℕ) → IsOwn line list → nodes_of t list ≡ []
  own-none none list own = of (nodes_of t list) (λ node at. own_in list node own at)
    where
      of : (nodes : List ℕ) → ((node : ℕ) → Contains nodes node → IsInLine t line node) → nodes ≡ []
      of [] inside = refl
      of (x ∷ xs) inside = let here : Contains [] x = rw none at (inside x (contains_first x xs)) in absurd (omega (arith, here.1))
