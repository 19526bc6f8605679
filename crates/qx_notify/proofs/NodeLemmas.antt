-- Lists of nodes: the first that a test passes, and what stands where one was taken out.
use Rattle.std.proofs.Common.{is_some, ◌==◌, ◌≡◌, ◌≢◌, inl, inr, ℕ, zero, suc, ◌+◌, ◌<◌, ◌≤◌, Bool, true, false, not, nat_eq, List, [], ◌∷◌, length, get_or, map, set, below_more, Contains, Some, None, slice_get, refl, sym, ◌∙◌, ap, ap₂, arith}
use Rattle.std.specs.Prelude.{filter}
use Rattle.std.specs.List.{IsDistinct}
use Rattle.std.proofs.lemmas.Bool.{cases_Bool}
use Rattle.std.proofs.lemmas.Bool.Decides.{eqb_tells, nat_tests}
use Rattle.std.proofs.lemmas.Option.{get_or_from_slice_get}
use Rattle.qx_lists.specs.Table.{without}
use Rattle.qx_lists.proofs.ListLemmas.{contains_first, contains_later}
use Rattle.qx_lists.proofs.WalkLemmas.{without-absent}
use Rattle.qx_machine.specs.declared.rows.Event.{Event}
use Rattle.qx_machine.specs.Events.{is_on}

-- none of the first nodes passes
abbrev pub Fails : (ℕ → Bool) → List ℕ → ℕ → Type 0
Fails test nodes count = (k : ℕ) → k < count → test (get_or nodes k 0) ≡ false

module _ (test : ℕ → Bool) where
  pub fails-more : (nodes : List ℕ) (i node : ℕ) → Fails test nodes i → slice_get nodes i ≡ Some node → test node ≡ false → Fails test nodes (i + 1)
  fails-more nodes i node failed is fails = below_more _ _ failed (rw (get_or_from_slice_get nodes i node 0 is) fails)

  pub first-passes : (nodes : List ℕ) (i node : ℕ) → Fails test nodes i → slice_get nodes i ≡ Some node → test node ≡ true → slice_get (filter test nodes) 0 ≡ Some node
  first-passes [] i node failed is passes = let clash : None ≡ Some node = is in absurd (cc)
  first-passes (x ∷ xs) zero node failed is passes = let same : x ≡ node = cc in let here : test x ≡ true = rw same passes in rw here is
  first-passes (x ∷ xs) (suc i) node failed is passes = let first : test x ≡ false = failed 0 (omega arith) in rw first (first-passes xs i node (λ k within. failed (suc k) (omega arith)) is passes)

  pub none-passes : (nodes : List ℕ) → Fails test nodes (length nodes) → filter test nodes ≡ []
  none-passes [] failed = refl
  none-passes (x ∷ xs) failed = let first : test x ≡ false = failed 0 (omega arith) in rw first (none-passes xs (λ k within. failed (suc k) (omega arith)))

-- ---- the event of a block

module _ (f : ℕ → Event) (block : ℕ) where
  -- the node of a block's one event, and the others
  pub record Found (nodes : List ℕ) (node : ℕ) : Type 0 where
    pub there : Contains nodes node
    pub is : is_on block (f node) ≡ true
    pub rest : map f (without node nodes) ≡ filter (λ event. not (is_on block event)) (map f nodes)
    pub fewer : length (filter (λ event. not (is_on block event)) (map f nodes)) + 1 ≡ length (map f nodes)

  all-others : (events : List Event) → length (filter (is_on block) events) ≤ 0 → filter (λ event. not (is_on block event)) events ≡ events
  all-others [] none = refl
  all-others (e ∷ es) none = elim (cases_Bool (is_on block e)) [
    | inl is ↦ absurd (let some : 1 ≤ length (filter (is_on block) (e ∷ es)) = rw is (omega arith) in omega arith)
    | inr not ↦ let later : length (filter (is_on block) es) ≤ 0 = rw not at none in rw not (ap (λ zs. e ∷ zs) (all-others es later))
  ]

  pub found : (nodes : List ℕ) (node : ℕ) → IsDistinct nat_eq nodes → slice_get (filter (λ n. is_on block (f n)) nodes) 0 ≡ Some node → length (filter (is_on block) (map f nodes)) ≤ 1 → Found nodes node
  unfolding IsDistinct
  found [] node distinct first once = let clash : None ≡ Some node = first in absurd (cc)
  found (x ∷ xs) node distinct first once = elim (cases_Bool (is_on block (f x))) [
    | inl is ↦
        let here : Some x ≡ Some node = rw is at first in
        let same : x ≡ node = cc in
        let itself : nat_eq x x ≡ true = grind (arith, nat_tests) in
        let alone : suc (length (filter (is_on block) (map f xs))) ≤ 1 = rw is at once in
        let others = all-others (map f xs) (omega arith) in
        rw (← same) (record { there = contains_first x xs; is = is; rest = rw (is, itself, without-absent x xs distinct.0) (sym others); fewer = rw is (omega (arith, ap length others)) })
    | inr not ↦
        let later = found xs node distinct.1 (rw not at first) (rw not at once) in
        elim (eqb_tells x node) [
          | inl same ↦ let clash : true ≡ false = sym later.is ∙ ap (λ n. is_on block (f n)) (sym same.1) ∙ not in absurd (cc)
          | inr differs ↦ record { there = contains_later x node xs later.there; is = later.is; rest = rw (differs.0, not) (ap (λ rest. f x ∷ rest) later.rest); fewer = rw not (omega (arith, later.fewer)) }
        ]
  ]

  pub none-found : (nodes : List ℕ) → slice_get (filter (λ n. is_on block (f n)) nodes) 0 ≡ None → filter (λ event. not (is_on block event)) (map f nodes) ≡ map f nodes
  none-found [] none = refl
  none-found (x ∷ xs) none = elim (cases_Bool (is_on block (f x))) [
    | inl is ↦ let clash : Some x ≡ None = rw is at none in absurd (cc)
    | inr not ↦ rw not (ap (λ zs. f x ∷ zs) (none-found xs (rw not at none)))
  ]

-- ---- what nodes stand for

module _ {B : Type 0} (f g : ℕ → B) where
  pub map-agree : (nodes : List ℕ) → ((node : ℕ) → Contains nodes node → f node ≡ g node) → map f nodes ≡ map g nodes
  map-agree [] agree = refl
  map-agree (x ∷ xs) agree = ap₂ (λ y ys. y ∷ ys) (agree x (contains_first x xs)) (map-agree xs (λ node at. agree node (contains_later x node xs at)))

module _ {A B : Type 0} (f g : A → B) (d : A) where
  pub map-each : (xs : List A) → ((k : ℕ) → k < length xs → g (get_or xs k d) ≡ f (get_or xs k d)) → map g xs ≡ map f xs
  map-each [] same = refl
  map-each (x ∷ xs) same = ap₂ (λ y ys. y ∷ ys) (same 0 (omega arith)) (map-each xs (λ k within. same (suc k) (omega arith)))

  -- all stand for the same but one
  pub map-one : (xs : List A) (i : ℕ) → i < length xs → ((k : ℕ) → k < length xs → k ≢ i → g (get_or xs k d) ≡ f (get_or xs k d)) → map g xs ≡ set (map f xs) i (g (get_or xs i d))
  map-one [] i within same = absurd (omega arith)
  map-one (x ∷ xs) zero within same = ap (λ ys. g x ∷ ys) (map-each xs (λ k at. same (suc k) (omega arith) (omega arith)))
  map-one (x ∷ xs) (suc i) within same = ap₂ (λ y ys. y ∷ ys) (same 0 (omega arith) (omega arith)) (map-one xs i (omega arith) (λ k at differs. same (suc k) (omega arith) (omega arith)))

-- whether nodes stand for anything
pub any-node : {B : Type 0} (f : ℕ → B) (nodes : List ℕ) → is_some (slice_get nodes 0) ≡ not (length (map f nodes) == 0)
any-node f [] = refl
any-node f (x ∷ xs) = let some : nat_eq (suc (length (map f xs))) 0 ≡ false = grind (arith, nat_tests) in rw some refl
