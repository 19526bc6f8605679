-- Walking a list of nodes that differ: the place of a node among them, and how long the list is without one.
use Rattle.std.proofs.Common.{◌==◌, ◌≡◌, inl, inr, ℕ, zero, suc, ◌+◌, ◌<◌, ◌≤◌, false, nat_eq, List, [], ◌∷◌, length, Contains, Option, Some, None, slice_get, refl, sym, arith}
use Rattle.std.specs.Prelude.{if◌then◌else◌}
use Rattle.std.specs.List.{IsDistinct, AllByRecursion}
use Rattle.std.proofs.lemmas.Bool.Decides.{eqb_tells, nat_tests}
use Rattle.std.proofs.lemmas.Option.{slice_get_within, get_or_from_slice_get}
use Rattle.qx_lists.specs.Table.{without, next_after}
use Rattle.qx_lists.proofs.ListLemmas.{contains_cases}

-- the nodes from a place on
abbrev pub nodes_from : Option ℕ → List ℕ → List ℕ
nodes_from None nodes = []
nodes_from (Some node) [] = []
nodes_from (Some node) (first ∷ rest) = if first == node then first ∷ rest else nodes_from (Some node) rest

pub differs_at : (x : ℕ) (xs : List ℕ) (i node : ℕ) → AllByRecursion (λ y. nat_eq x y ≡ false) xs → slice_get xs i ≡ Some node → nat_eq x node ≡ false
differs_at x [] i node all is = let clash : None ≡ Some node = is in absurd (cc)
differs_at x (y ∷ ys) zero node all is = let same : y ≡ node = cc in rw (← same) all.0
differs_at x (y ∷ ys) (suc i) node all is = differs_at x ys i node all.1 is

pub contains-index : (nodes : List ℕ) (i node : ℕ) → slice_get nodes i ≡ Some node → Contains nodes node
contains-index nodes i node is = (i, slice_get_within nodes i node is, get_or_from_slice_get nodes i node node is)

pub next_after-index : (nodes : List ℕ) (i node : ℕ) → IsDistinct nat_eq nodes → slice_get nodes i ≡ Some node → next_after node nodes ≡ slice_get nodes (suc i)
unfolding IsDistinct
next_after-index [] i node distinct is = let clash : None ≡ Some node = is in absurd (cc)
next_after-index (x ∷ xs) zero node distinct is = let same : x ≡ node = cc in grind (arith, nat_tests)
next_after-index (x ∷ xs) (suc i) node distinct is = rw (differs_at x xs i node distinct.0 is) (next_after-index xs i node distinct.1 is)

length-nodes_from : (nodes : List ℕ) (i node : ℕ) → IsDistinct nat_eq nodes → slice_get nodes i ≡ Some node → length (nodes_from (Some node) nodes) + i ≡ length nodes
unfolding IsDistinct
length-nodes_from [] i node distinct is = let clash : None ≡ Some node = is in absurd (cc)
length-nodes_from (x ∷ xs) zero node distinct is = let same : x ≡ node = cc in grind (arith, nat_tests)
length-nodes_from (x ∷ xs) (suc i) node distinct is = rw (differs_at x xs i node distinct.0 is) (omega (arith, length-nodes_from xs i node distinct.1 is))

-- fewer nodes come from the next place on
pub nodes_from-smaller : (nodes : List ℕ) (i node : ℕ) (next : Option ℕ) → IsDistinct nat_eq nodes → slice_get nodes i ≡ Some node → slice_get nodes (suc i) ≡ next → length (nodes_from next nodes) < length (nodes_from (Some node) nodes)
nodes_from-smaller nodes i node None distinct is next_is = let here = length-nodes_from nodes i node distinct is in omega (arith, here, slice_get_within nodes i node is)
nodes_from-smaller nodes i node (Some next) distinct is next_is = omega (arith, length-nodes_from nodes i node distinct is, length-nodes_from nodes (suc i) next distinct next_is)

pub past_the_end : (nodes : List ℕ) (i : ℕ) → slice_get nodes i ≡ None → length nodes ≤ i
past_the_end [] i is = omega arith
past_the_end (x ∷ xs) zero is = let clash : Some x ≡ None = is in absurd (cc)
past_the_end (x ∷ xs) (suc i) is = omega (arith, past_the_end xs i is)

pub without-absent : (x : ℕ) (xs : List ℕ) → AllByRecursion (λ y. nat_eq x y ≡ false) xs → without x xs ≡ xs
without-absent x [] all = refl
without-absent x (y ∷ ys) all = let first = all.0 in let rest = without-absent x ys all.1 in grind (arith, nat_tests)

pub length-without : (nodes : List ℕ) (node : ℕ) → IsDistinct nat_eq nodes → Contains nodes node → length (without node nodes) + 1 ≡ length nodes
unfolding IsDistinct
length-without [] node distinct at = absurd (omega (arith, at.1))
length-without (x ∷ xs) node distinct at = elim (eqb_tells x node) [
  | inl same ↦ rw same.0 (let gone : without node xs ≡ xs = rw (← same.1) (without-absent x xs distinct.0) in rw gone (omega arith))
  | inr differs ↦ elim (contains_cases x node xs at) [
    | inl first ↦ absurd (differs.1 (sym first))
    | inr later ↦ let rest = length-without xs node distinct.1 later in rw differs.0 (omega arith)
  ]
]
