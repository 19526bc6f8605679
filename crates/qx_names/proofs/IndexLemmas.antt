-- The nodes of a list, by their places in an index.
use Rattle.std.specs.Prelude.{ℕ, zero, suc, List, [], ◌∷◌, Contains, None, Some, insert, map as mapped, nat_eq, option_map, remove, slice_get, unwrap_or}
use Rattle.std.specs.FinMap as map
use Rattle.std.specs.List.{IsDistinct}
use Rattle.std.proofs.Common.{◌≡◌, inl, inr, true, ap, ap₂, arith, refl, subst, sym, ◌∙◌}
use Rattle.std.proofs.lemmas.Bool.Decides.{nat_tests}
use Rattle.std.proofs.lemmas.Option.{slice_get-map}
use Rattle.qx_lists.specs.Table.{Table, put_before, without}
use Rattle.qx_lists.proofs.ListLemmas.{contains_cases, contains_first, contains_later}
use Rattle.qx_lists.proofs.WalkLemmas.{differs_at, without-absent}
use Rattle.qx_names.specs.inner.Children.{Entry, entry_of}

-- a node before that of a place is at the place
pub put_before-index : (nodes : List ℕ) (i node at : ℕ) → IsDistinct nat_eq nodes → slice_get nodes i ≡ Some at → put_before node at nodes ≡ insert nodes i node
unfolding IsDistinct
put_before-index [] i node at distinct is = let clash : None ≡ Some at = is in absurd (cc)
put_before-index (x ∷ xs) zero node at distinct is = let same : x ≡ at = cc in grind (arith, nat_tests)
put_before-index (x ∷ xs) (suc i) node at distinct is = rw (differs_at x xs i at distinct.0 is) (ap (λ zs. x ∷ zs) (put_before-index xs i node at distinct.1 is))

-- the list without the node of a place
pub without-index : (nodes : List ℕ) (i node : ℕ) → IsDistinct nat_eq nodes → slice_get nodes i ≡ Some node → without node nodes ≡ remove nodes i
unfolding IsDistinct
without-index [] i node distinct is = let clash : None ≡ Some node = is in absurd (cc)
without-index (x ∷ xs) zero node distinct is =
    let same : x ≡ node = cc in
    let itself : nat_eq node node ≡ true = grind (arith, nat_tests) in
    rw (same, itself) (let gone : without x xs ≡ xs = without-absent x xs distinct.0 in rw same at gone)
without-index (x ∷ xs) (suc i) node distinct is = rw (differs_at x xs i node distinct.0 is) (ap (λ zs. x ∷ zs) (without-index xs i node distinct.1 is))

-- what a list has with one put in
pub Contains-insert : (nodes : List ℕ) (i node other : ℕ) → Contains nodes other → Contains (insert nodes i node) other
Contains-insert nodes zero node other at = contains_later node other nodes at
Contains-insert [] (suc i) node other at = contains_later node other [] at
Contains-insert (x ∷ xs) (suc i) node other at = elim (contains_cases x other xs at) [
  | inl first ↦ subst (Contains (x ∷ insert xs i node)) (sym first) (contains_first x (insert xs i node))
  | inr later ↦ contains_later x other (insert xs i node) (Contains-insert xs i node other later)
]

pub insert-Contains : (nodes : List ℕ) (i node : ℕ) → Contains (insert nodes i node) node
insert-Contains nodes zero node = contains_first node nodes
insert-Contains [] (suc i) node = contains_first node []
insert-Contains (x ∷ xs) (suc i) node = contains_later x node (insert xs i node) (insert-Contains xs i node)

-- ---- what nodes stand for

module _ {B : Type 0} (f g : ℕ → B) where
  pub map-agree : (nodes : List ℕ) → ((node : ℕ) → Contains nodes node → g node ≡ f node) → mapped g nodes ≡ mapped f nodes
  map-agree [] agree = refl
  map-agree (x ∷ xs) agree = ap₂ (λ y ys. y ∷ ys) (agree x (contains_first x xs)) (map-agree xs (λ node at. agree node (contains_later x node xs at)))

  -- with one put in at a place
  pub map-insert : (nodes : List ℕ) (i node : ℕ) → ((other : ℕ) → Contains nodes other → g other ≡ f other) → mapped g (insert nodes i node) ≡ insert (mapped f nodes) i (g node)
  map-insert nodes zero node agree = ap (λ ys. g node ∷ ys) (map-agree nodes agree)
  map-insert [] (suc i) node agree = refl
  map-insert (x ∷ xs) (suc i) node agree = ap₂ (λ y ys. y ∷ ys) (agree x (contains_first x xs)) (map-insert xs i node (λ other at. agree other (contains_later x other xs at)))

  -- and with one taken out
  pub map-remove : (nodes : List ℕ) (i : ℕ) → ((other : ℕ) → Contains (remove nodes i) other → g other ≡ f other) → mapped g (remove nodes i) ≡ remove (mapped f nodes) i
  map-remove [] zero agree = refl
  map-remove [] (suc i) agree = refl
  map-remove (x ∷ xs) zero agree = map-agree xs agree
  map-remove (x ∷ xs) (suc i) agree = ap₂ (λ y ys. y ∷ ys) (agree x (contains_first x (remove xs i))) (map-remove xs i (λ other at. agree other (contains_later x other (remove xs i) at)))

-- the entry of the node of a place
pub entry-index : (t : Table Entry) (nodes : List ℕ) (i node : ℕ) (entry : Entry) → slice_get nodes i ≡ Some node → map.get t.values node ≡ Some entry → slice_get (mapped (entry_of t) nodes) i ≡ Some entry
entry-index t nodes i node entry is value = slice_get-map (entry_of t) nodes i ∙ ap (option_map (entry_of t)) is ∙ ap (λ o. Some (unwrap_or o ((0, []), 0))) value
