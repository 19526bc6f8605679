-- Lists of nodes: where a node stands, and the list without it.
use Rattle.std.proofs.Common.{◌≡◌, ◌≢◌, ◌⊎◌, inl, inr, ℕ, zero, suc, ◌<◌, true, false, nat_eq, IsSome, is_some, ◌≤◌, ◌-◌, cond, List, [], ◌∷◌, ◌++◌, length, get_or, Contains, Option, None, Some, unwrap_or, drop, slice_get, refl, sym, ◌∙◌, ap, arith}
use Rattle.std.proofs.lemmas.Bool.Decides.{eqb_tells}
use Rattle.std.specs.List.{IsDistinct, AllByRecursion}
use Rattle.std.specs.FinMap as map
use Rattle.std.specs.Ordering.{nat_cmp}
use Rattle.std.proofs.lemmas.Cmp.{nat_cmp_total}
use Rattle.qx_lists.proofs.MapLemmas.{get-remove_other}
use Rattle.qx_lists.specs.Table.{without, put_before, next_after, StandsNowhere}
use Rattle.qx_lists.proofs.PathLemmas.{Avoids, IsApart, first_place, last_place}

pub contains_first : (x : ℕ) (xs : List ℕ) → Contains (x ∷ xs) x
contains_first x xs = (0, omega arith, refl)

pub contains_later : (y x : ℕ) (xs : List ℕ) → Contains xs x → Contains (y ∷ xs) x
contains_later y x xs at = (suc at.0, omega (arith, at.1), at.2)

pub contains_cases : (y x : ℕ) (xs : List ℕ) → Contains (y ∷ xs) x → (x ≡ y) ⊎ Contains xs x
contains_cases y x xs at = by_index at.0 at.1 at.2
  where
    by_index : (k : ℕ) → k < suc (length xs) → get_or (y ∷ xs) k x ≡ x → (x ≡ y) ⊎ Contains xs x
    by_index zero within found = inl (sym found)
    by_index (suc k) within found = inr (k, omega arith, found)

-- a node of the list has a list before it and one behind it
pub record IsSplit (x : ℕ) (xs : List ℕ) : Type 0 where
  pub front : List ℕ
  pub back : List ℕ
  pub whole : xs ≡ front ++ x ∷ back

pub split_at : (x : ℕ) (xs : List ℕ) → Contains xs x → IsSplit x xs
split_at x [] at = absurd (omega (arith, at.1))
split_at x (y ∷ ys) at = elim (contains_cases y x ys at) [
  | inl same ↦ record { front = []; back = ys; whole = ap (λ z. z ∷ ys) (sym same) }
  | inr later ↦ let rest = split_at x ys later in record { front = y ∷ rest.front; back = rest.back; whole = ap (λ zs. y ∷ zs) rest.whole }
]

-- a list avoids a place where none of its nodes stands
pub avoids_from : (place : Option ℕ) (xs : List ℕ) → ((x : ℕ) → Contains xs x → Some x ≢ place) → Avoids place xs
avoids_from place [] differs = tt
avoids_from place (x ∷ xs) differs = (differs x (contains_first x xs), avoids_from place xs (λ y at. differs y (contains_later x y xs at)))

pub avoids_absent : (x : ℕ) (xs : List ℕ) → Avoids (Some x) xs → Contains xs x → ⊥
avoids_absent x [] avoids at = omega (arith, at.1)
avoids_absent x (y ∷ ys) avoids at = elim (contains_cases y x ys at) [
  | inl same ↦ avoids.0 (ap Some (sym same))
  | inr later ↦ avoids_absent x ys avoids.1 later
]

pub absent_without : (x : ℕ) (xs : List ℕ) → Contains (without x xs) x → ⊥
absent_without x [] at = omega (arith, at.1)
absent_without x (y ∷ ys) at = elim (eqb_tells y x) [
  | inl same ↦ absent_without x ys (rw same.0 at at)
  | inr differs ↦ let here : Contains (y ∷ without x ys) x = rw differs.0 at at in elim (contains_cases y x (without x ys) here) [ inl same ↦ differs.1 (sym same) | inr later ↦ absent_without x ys later ]
]

pub contains_without : (y x : ℕ) (xs : List ℕ) → Contains (without y xs) x → Contains xs x
contains_without y x [] at = at
contains_without y x (z ∷ zs) at = elim (eqb_tells z y) [
  | inl same ↦ contains_later z x zs (contains_without y x zs (rw same.0 at at))
  | inr differs ↦ let here : Contains (z ∷ without y zs) x = rw differs.0 at at in elim (contains_cases z x (without y zs) here) [ inl first ↦ rw first (contains_first z zs) | inr later ↦ contains_later z x zs (contains_without y x zs later) ]
]

-- what it is that no list has a node
module _ (lists : map.FinMap nat_cmp (List ℕ)) (node : ℕ) where
  pub stands_nowhere : StandsNowhere lists node → (list : ℕ) → Contains (unwrap_or (map.get lists list) []) node → ⊥
  unfolding StandsNowhere
  stands_nowhere h = h

  pub nowhere_from : ((list : ℕ) → Contains (unwrap_or (map.get lists list) []) node → ⊥) → StandsNowhere lists node
  unfolding StandsNowhere
  nowhere_from h = h

pub contains_put_before : (node at x : ℕ) (xs : List ℕ) → Contains (put_before node at xs) x → (x ≡ node) ⊎ Contains xs x
contains_put_before node at x [] stands = inr stands
contains_put_before node at x (y ∷ ys) stands = elim (eqb_tells y at) [
  | inl same ↦ let here : Contains (node ∷ y ∷ ys) x = rw same.0 at stands in contains_cases node x (y ∷ ys) here
  | inr differs ↦
      let here : Contains (y ∷ put_before node at ys) x = rw differs.0 at stands in
      elim (contains_cases y x (put_before node at ys) here) [
        | inl first ↦ inr (rw first (contains_first y ys))
        | inr later ↦ elim (contains_put_before node at x ys later) [ inl new ↦ inl new | inr old ↦ inr (contains_later y x ys old) ]
      ]
]

pub put_before_keeps : (node at x : ℕ) (xs : List ℕ) → Contains xs x → Contains (put_before node at xs) x
put_before_keeps node at x [] stands = stands
put_before_keeps node at x (y ∷ ys) stands = elim (eqb_tells y at) [
  | inl same ↦ rw same.0 (contains_later node x (y ∷ ys) stands)
  | inr differs ↦ rw differs.0 (elim (contains_cases y x ys stands) [
    | inl first ↦ rw first (contains_first y (put_before node at ys))
    | inr later ↦ contains_later y x (put_before node at ys) (put_before_keeps node at x ys later)
  ])
]

pub put_before_puts : (node at : ℕ) (xs : List ℕ) → Contains xs at → Contains (put_before node at xs) node
put_before_puts node at [] stands = absurd (omega (arith, stands.1))
put_before_puts node at (y ∷ ys) stands = elim (eqb_tells y at) [
  | inl same ↦ rw same.0 (contains_first node (y ∷ ys))
  | inr differs ↦ rw differs.0 (elim (contains_cases y at ys stands) [
    | inl first ↦ absurd (differs.1 (sym first))
    | inr later ↦ contains_later y node (put_before node at ys) (put_before_puts node at ys later)
  ])
]

pub without_keeps : (y x : ℕ) (xs : List ℕ) → Contains xs x → x ≢ y → Contains (without y xs) x
without_keeps y x [] stands differs = stands
without_keeps y x (z ∷ zs) stands differs = elim (eqb_tells z y) [
  | inl same ↦ rw same.0 (elim (contains_cases z x zs stands) [ inl first ↦ absurd (differs (first ∙ same.1)) | inr later ↦ without_keeps y x zs later differs ])
  | inr other ↦ rw other.0 (elim (contains_cases z x zs stands) [ inl first ↦ rw first (contains_first z (without y zs)) | inr later ↦ contains_later z x (without y zs) (without_keeps y x zs later differs) ])
]

pub contains_rest : (x : ℕ) (xs : List ℕ) → Contains (drop 1 xs) x → Contains xs x
contains_rest x [] stands = stands
contains_rest x (y ∷ ys) stands = contains_later y x ys stands

pub contains_slice_first : (xs : List ℕ) (x : ℕ) → slice_get xs 0 ≡ Some x → Contains xs x
contains_slice_first [] x is = absurd (cc)
contains_slice_first (y ∷ ys) x is = let same : y ≡ x = cc in rw (sym same) (contains_first y ys)

pub contains_next : (xs : List ℕ) (at x : ℕ) → next_after at xs ≡ Some x → Contains xs x
contains_next [] at x is = absurd (cc)
contains_next (y ∷ ys) at x is = elim (eqb_tells y at) [
  | inl same ↦ contains_later y x ys (contains_slice_first ys x (rw same.0 at is))
  | inr differs ↦ contains_later y x ys (contains_next ys at x (rw differs.0 at is))
]

without_kept : (x : ℕ) (xs : List ℕ) → Avoids (Some x) xs → without x xs ≡ xs
without_kept x [] avoids = refl
without_kept x (y ∷ ys) avoids = elim (eqb_tells y x) [
  | inl same ↦ absurd (avoids.0 (ap Some same.1))
  | inr differs ↦ rw differs.0 (ap (λ zs. y ∷ zs) (without_kept x ys avoids.1))
]

pub without-split : (x : ℕ) (front back : List ℕ) → Avoids (Some x) front → Avoids (Some x) back → without x (front ++ x ∷ back) ≡ front ++ back
without-split x [] back before behind = elim (eqb_tells x x) [
  | inl same ↦ rw same.0 (without_kept x back behind)
  | inr differs ↦ absurd (differs.1 refl)
]
without-split x (y ∷ ys) back before behind = elim (eqb_tells y x) [
  | inl same ↦ absurd (before.0 (ap Some same.1))
  | inr differs ↦ rw differs.0 (ap (λ zs. y ∷ zs) (without-split x ys back before.1 behind))
]

pub put_before-split : (n x : ℕ) (front back : List ℕ) → Avoids (Some x) front → put_before n x (front ++ x ∷ back) ≡ front ++ n ∷ x ∷ back
put_before-split n x [] back before = elim (eqb_tells x x) [
  | inl same ↦ rw same.0
  | inr differs ↦ absurd (differs.1 refl)
]
put_before-split n x (y ∷ ys) back before = elim (eqb_tells y x) [
  | inl same ↦ absurd (before.0 (ap Some same.1))
  | inr differs ↦ rw differs.0 (ap (λ zs. y ∷ zs) (put_before-split n x ys back before.1))
]

pub slice_get-first : (xs : List ℕ) → slice_get xs 0 ≡ first_place xs None
slice_get-first [] = refl
slice_get-first (x ∷ xs) = refl

pub next_after-split : (x : ℕ) (front back : List ℕ) → Avoids (Some x) front → next_after x (front ++ x ∷ back) ≡ first_place back None
next_after-split x [] back before = elim (eqb_tells x x) [
  | inl same ↦ rw same.0 (slice_get-first back)
  | inr differs ↦ absurd (differs.1 refl)
]
next_after-split x (y ∷ ys) back before = elim (eqb_tells y x) [
  | inl same ↦ absurd (before.0 (ap Some same.1))
  | inr differs ↦ rw differs.0 (next_after-split x ys back before.1)
]

last_contained : (p : Option ℕ) (xs : List ℕ) (x : ℕ) → Some x ≡ last_place p xs → (Some x ≡ p) ⊎ Contains xs x
last_contained p [] x is = inl is
last_contained p (y ∷ ys) x is = elim (last_contained (Some y) ys x is) [
  | inl first ↦ let same : x ≡ y = cc in inr (rw same (contains_first y ys))
  | inr later ↦ inr (contains_later y x ys later)
]

pub contains-last : (xs : List ℕ) (x : ℕ) → Some x ≡ last_place None xs → Contains xs x
contains-last xs x is = elim (last_contained None xs x is) [
  | inl none ↦ let clash : Some x ≡ None = none in cc
  | inr at ↦ at
]

pub contains-first : (xs : List ℕ) (x : ℕ) → Some x ≡ first_place xs None → Contains xs x
contains-first [] x is = let clash : Some x ≡ None = is in cc
contains-first (y ∷ ys) x is = let same : x ≡ y = cc in rw same (contains_first y ys)

differs_from_all : (x : ℕ) (xs : List ℕ) → Avoids (Some x) xs → AllByRecursion (λ y. nat_eq x y ≡ false) xs
differs_from_all x [] avoids = tt
differs_from_all x (y ∷ ys) avoids = (elim (eqb_tells x y) [ inl same ↦ absurd (avoids.0 (ap Some (sym same.1))) | inr differs ↦ differs.0 ], differs_from_all x ys avoids.1)

pub distinct_from_apart : (xs : List ℕ) → IsApart xs → IsDistinct nat_eq xs
unfolding IsDistinct
distinct_from_apart [] apart = tt
distinct_from_apart (x ∷ xs) apart = (differs_from_all x xs apart.0, distinct_from_apart xs apart.1)

-- a map has no fewer keys than a list of some of them that differ
pub length-keys : {X : Type 0} (m : map.FinMap nat_cmp X) (xs : List ℕ) → IsApart xs → ((x : ℕ) → Contains xs x → IsSome (map.get m x)) → length xs ≤ map.len m
length-keys m [] apart there = omega arith
length-keys {X} m (x ∷ xs) apart there =
    let here : IsSome (map.get m x) = there x (contains_first x xs) in
    let later = length-keys (map.remove m x) xs apart.1 (λ y at. elim (eqb_tells y x) [
      | inl same ↦ absurd (avoids_absent x xs apart.0 (rw same.1 at at))
      | inr differs ↦ rw (get-remove_other m x y differs.1) (there y (contains_later x y xs at))
    ]) in
    let shorter : map.len (map.remove m x) ≡ map.len m - 1 = map.len-remove nat_cmp_total m x ∙ ap (λ b. cond b (map.len m - 1) (map.len m)) here in
    let some : map.len m ≢ 0 = λ none. let empty : map.get m x ≡ None = rw (map.empty_of_len m none) (map.get-empty nat_cmp x) in let clash : is_some {T = X} None ≡ true = rw empty at here in cc in
    omega (arith, later, shorter, some)

avoids_from_differs : (x : ℕ) (xs : List ℕ) → AllByRecursion (λ y. nat_eq x y ≡ false) xs → Avoids (Some x) xs
avoids_from_differs x [] all = tt
avoids_from_differs x (y ∷ ys) all = (λ same. let equal : y ≡ x = cc in elim (eqb_tells x y) [ inl both ↦ let clash : true ≡ false = sym both.0 ∙ all.0 in cc | inr differs ↦ differs.1 (sym equal) ], avoids_from_differs x ys all.1)

pub apart_from_distinct : (xs : List ℕ) → IsDistinct nat_eq xs → IsApart xs
unfolding IsDistinct
apart_from_distinct [] distinct = tt
apart_from_distinct (x ∷ xs) distinct = (avoids_from_differs x xs distinct.0, apart_from_distinct xs distinct.1)

-- the rest of a list of nodes that differ is the list without its first
pub without-first : (nodes : List ℕ) (first : ℕ) → IsDistinct nat_eq nodes → slice_get nodes 0 ≡ Some first → without first nodes ≡ drop 1 nodes
unfolding IsDistinct
without-first [] first distinct is = let clash : None ≡ Some first = is in absurd (cc)
without-first (x ∷ xs) first distinct is =
    let same : first ≡ x = cc in
    ap (λ n. without n (x ∷ xs)) same ∙ without-split x [] xs tt (avoids_from_differs x xs distinct.0)

pub none_first : (nodes : List ℕ) → slice_get nodes 0 ≡ None → nodes ≡ []
none_first [] is = refl
none_first (x ∷ xs) is = let clash : Some x ≡ None = is in absurd (cc)
