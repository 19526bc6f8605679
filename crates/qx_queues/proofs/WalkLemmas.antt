-- A list of which some leave, from the first on.
use Rattle.std.proofs.Common.{◌≡◌, inl, inr, ℕ, zero, suc, ◌+◌, ◌<◌, Bool, true, false, nat_eq, List, [], ◌∷◌, length, get_or, map, option_map, below_more, Contains, Some, None, is_some, slice_get, refl, sym, ap, ◌∙◌, arith}
use Rattle.std.specs.Prelude.{filter}
use Rattle.std.specs.List.{IsDistinct, list_any}
use Rattle.std.proofs.lemmas.Bool.{cases_Bool}
use Rattle.std.proofs.lemmas.Bool.Decides.{eqb_tells, nat_tests}
use Rattle.std.proofs.lemmas.Option.{get_or_from_slice_get}
use Rattle.qx_lists.specs.Table.{without}
use Rattle.qx_lists.proofs.ListLemmas.{contains_first, contains_later}
use Rattle.qx_lists.proofs.WalkLemmas.{without-absent}
use Rattle.qx_machine.specs.Pipes.{staying}
use Rattle.qx_queues.specs.inner.Waits.{without_first}

-- none of the first nodes leaves
abbrev pub Stays : (ℕ → Bool) → List ℕ → ℕ → Type 0
Stays leaves nodes count = (k : ℕ) → k < count → leaves (get_or nodes k 0) ≡ false

pub stays-more : (leaves : ℕ → Bool) (nodes : List ℕ) (i node : ℕ) → Stays leaves nodes i → slice_get nodes i ≡ Some node → leaves node ≡ false → Stays leaves nodes (i + 1)
stays-more leaves nodes i node passed is stays = below_more _ _ passed (rw (get_or_from_slice_get nodes i node 0 is) stays)

-- the first one that leaves
pub first-leaves : (leaves : ℕ → Bool) (nodes : List ℕ) (i node : ℕ) → Stays leaves nodes i → slice_get nodes i ≡ Some node → leaves node ≡ true → slice_get (filter leaves nodes) 0 ≡ Some node
first-leaves leaves [] i node stayed is leaving = let clash : None ≡ Some node = is in absurd (cc)
first-leaves leaves (x ∷ xs) zero node stayed is leaving = let same : x ≡ node = cc in let test : leaves x ≡ true = rw same leaving in rw test is
first-leaves leaves (x ∷ xs) (suc i) node stayed is leaving = let first : leaves x ≡ false = stayed 0 (omega arith) in rw first (first-leaves leaves xs i node (λ k within. stayed (suc k) (omega arith)) is leaving)

pub none-leaves : (leaves : ℕ → Bool) (nodes : List ℕ) → Stays leaves nodes (length nodes) → filter leaves nodes ≡ []
none-leaves leaves [] stayed = refl
none-leaves leaves (x ∷ xs) stayed = let first : leaves x ≡ false = stayed 0 (omega arith) in rw first (none-leaves leaves xs (λ k within. stayed (suc k) (omega arith)))

-- the first, by what nodes stand for
pub first-mapped : {B : Type 0} (f : ℕ → B) (test : B → Bool) (nodes : List ℕ) → option_map f (slice_get (filter (λ node. test (f node)) nodes) 0) ≡ slice_get (filter test (map f nodes)) 0
first-mapped f test [] = refl
first-mapped f test (x ∷ xs) = elim (cases_Bool (test (f x))) [ inl is ↦ rw is refl | inr not ↦ rw not (first-mapped f test xs) ]

-- the first node that leaves, and the others
pub record Leads {B : Type 0} (f : ℕ → B) (test : B → Bool) (nodes : List ℕ) (node : ℕ) : Type 0 where
  pub there : Contains nodes node
  pub is : test (f node) ≡ true
  pub rest : map f (without node nodes) ≡ without_first test (map f nodes)

pub leads : {B : Type 0} (f : ℕ → B) (test : B → Bool) (nodes : List ℕ) (node : ℕ) → IsDistinct nat_eq nodes → slice_get (filter (λ node. test (f node)) nodes) 0 ≡ Some node → Leads f test nodes node
unfolding IsDistinct
leads f test [] node distinct first = let clash : None ≡ Some node = first in absurd (cc)
leads f test (x ∷ xs) node distinct first = elim (cases_Bool (test (f x))) [
  | inl is ↦
      let here : Some x ≡ Some node = rw is at first in
      let same : x ≡ node = cc in
      let itself : nat_eq x x ≡ true = grind (arith, nat_tests) in
      rw (← same) (record { there = contains_first x xs; is = is; rest = rw (is, itself, without-absent x xs distinct.0) refl })
  | inr not ↦
      let later = leads f test xs node distinct.1 (rw not at first) in
      elim (eqb_tells x node) [
        | inl same ↦ let clash : true ≡ false = sym later.is ∙ ap (λ n. test (f n)) (sym same.1) ∙ not in absurd (cc)
        | inr differs ↦ record { there = contains_later x node xs later.there; is = later.is; rest = rw (differs.0, not) (ap (λ rest. f x ∷ rest) later.rest) }
      ]
]

module _ {A : Type 0} (test : A → Bool) where
  -- the first that leaves, and the others
  pub record Leaves (all : List A) (first : A) : Type 0 where
    pub split : filter test all ≡ first ∷ filter test (without_first test all)
    pub stays : staying test (without_first test all) ≡ staying test all
    pub fewer : length (without_first test all) < length all

  pub leaves-first : (all : List A) (first : A) → slice_get (filter test all) 0 ≡ Some first → Leaves all first
  leaves-first [] first is = let clash : None ≡ Some first = is in absurd (cc)
  leaves-first (x ∷ xs) first is = elim (cases_Bool (test x)) [
    | inl leaving ↦
        let here : Some x ≡ Some first = rw leaving at is in
        let same : x ≡ first = cc in
        record { split = rw (leaving, same) refl; stays = rw leaving refl; fewer = rw leaving (omega arith) }
    | inr not ↦
        let later = leaves-first xs first (rw not at is) in
        record { split = rw not (rw not later.split); stays = rw not (rw not (ap (λ rest. x ∷ rest) later.stays)); fewer = rw not (omega (arith, later.fewer)) }
  ]

  -- where none leaves, all stay
  pub record Stay (all : List A) : Type 0 where
    pub none : filter test all ≡ []
    pub stays : staying test all ≡ all

  pub all-stay : (all : List A) → slice_get (filter test all) 0 ≡ None → Stay all
  all-stay [] is = record { none = refl; stays = refl }
  all-stay (x ∷ xs) is = elim (cases_Bool (test x)) [
    | inl leaving ↦ let clash : Some x ≡ None = rw leaving at is in absurd (cc)
    | inr not ↦ let later = all-stay xs (rw not at is) in record { none = rw not later.none; stays = rw not (ap (λ rest. x ∷ rest) later.stays) }
  ]

  -- whether some leave, by the first that does
  pub any-first : (all : List A) → list_any test all ≡ is_some (slice_get (filter test all) 0)
  any-first [] = refl
  any-first (x ∷ xs) = elim (cases_Bool (test x)) [ inl is ↦ rw is refl | inr not ↦ rw not (any-first xs) ]
