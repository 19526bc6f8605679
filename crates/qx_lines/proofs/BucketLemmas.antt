-- Lists of nodes joined, those of the last list in front: one list among them, and what the joined list is as that one changes.
use Rattle.std.proofs.Common.{◌≡◌, ◌≢◌, inl, inr, ℕ, zero, suc, ◌+◌, ◌<◌, ◌≤◌, ◌==◌, not, List, [], ◌∷◌, ◌++◌, Contains, Some, None, slice_get, length, get_or, take, drop, reverse, flat_map, refl, sym, ◌∙◌, ap, subst, arith, length-drop}
use Rattle.std.proofs.lemmas.Bool.Decides.{eqb_tells, nat_tests}
use Rattle.std.proofs.lemmas.Grind.{flat_map-append}
use Rattle.std.proofs.lemmas.List.{append-nil, append_assoc, get_or-drop, get_or-take, length-take-le, reverse-append}
use Rattle.std.proofs.lemmas.List.Elements.{Contains-append_cases, Contains-append_left, Contains-append_right, filter-append}
use Rattle.qx_lists.specs.Table.{without}
use Rattle.qx_lists.proofs.ListLemmas.{contains_first, contains_later}
use Rattle.qx_lists.proofs.PathLemmas.{Avoids, IsApart}
use Rattle.qx_isolation.specs.Lines.{into}
use Rattle.qx_lines.specs.Line.{last_first}

module _ (nodes : ℕ → List ℕ) where
  pub last_first-cons : (list : ℕ) (lists : List ℕ) → last_first nodes (list ∷ lists) ≡ last_first nodes lists ++ nodes list
  last_first-cons list lists =
      ap (flat_map nodes) (reverse-append (list ∷ []) lists) ∙ flat_map-append nodes (reverse lists) (list ∷ []) ∙ ap (λ rest. last_first nodes lists ++ rest) (append-nil (nodes list))

  -- the nodes before those of one list, and behind them
  abbrev pub above : List ℕ → ℕ → List ℕ
  above lists at = last_first nodes (drop (suc at) lists)

  abbrev pub below : List ℕ → ℕ → List ℕ
  below lists at = last_first nodes (take at lists)

  pub last_first-split : (lists : List ℕ) (at : ℕ) → at < length lists → last_first nodes lists ≡ above lists at ++ (nodes (get_or lists at 0) ++ below lists at)
  last_first-split [] at within = absurd (omega arith)
  last_first-split (list ∷ lists) zero within = last_first-cons list lists ∙ ap (λ rest. last_first nodes lists ++ rest) (sym (append-nil (nodes list)))
  last_first-split (list ∷ lists) (suc at) within =
      let here = nodes (get_or lists at 0) in
      let front = above lists at in
      let back = below lists at in
      last_first-cons list lists
      ∙ ap (λ all. all ++ nodes list) (last_first-split lists at (omega arith))
      ∙ append_assoc front (here ++ back) (nodes list)
      ∙ ap (λ rest. front ++ rest) (append_assoc here back (nodes list) ∙ ap (λ rest. here ++ rest) (sym (last_first-cons list (take at lists))))

  pub contains_last_first : (lists : List ℕ) (node : ℕ) → Contains (last_first nodes lists) node → (i : ℕ) × (i < length lists) × Contains (nodes (get_or lists i 0)) node
  contains_last_first [] node at = absurd (omega (arith, at.1))
  contains_last_first (list ∷ lists) node at =
      let joined : Contains (last_first nodes lists ++ nodes list) node = subst (λ all. Contains all node) (last_first-cons list lists) at in
      elim (Contains-append_cases (last_first nodes lists) (nodes list) node joined) [
        | inl front ↦ let found = contains_last_first lists node front in (suc found.0, omega (arith, found.1), found.2)
        | inr last ↦ (0, omega arith, last)
      ]

  pub last_first-contains : (lists : List ℕ) (i node : ℕ) → i < length lists → Contains (nodes (get_or lists i 0)) node → Contains (last_first nodes lists) node
  last_first-contains lists i node within at =
      let here = nodes (get_or lists i 0) in
      let joined = Contains-append_right (above lists i) (here ++ below lists i) node (Contains-append_left here (below lists i) node at) in
      subst (λ all. Contains all node) (sym (last_first-split lists i within)) joined

  pub last_first-none : (lists : List ℕ) → ((i : ℕ) → i < length lists → nodes (get_or lists i 0) ≡ []) → last_first nodes lists ≡ []
  last_first-none [] none = refl
  last_first-none (list ∷ lists) none =
      last_first-cons list lists ∙ ap (λ rest. last_first nodes lists ++ rest) (none 0 (omega arith)) ∙ append-nil (last_first nodes lists) ∙ last_first-none lists (λ i within. none (suc i) (omega arith))

  -- where a node before or behind those of one list stands
  pub contains_above : (lists : List ℕ) (at node : ℕ) → Contains (above lists at) node → (i : ℕ) × (at < i) × (i < length lists) × Contains (nodes (get_or lists i 0)) node
  contains_above lists at node stands =
      let found = contains_last_first (drop (suc at) lists) node stands in
      (suc at + found.0, omega arith, omega (arith, found.1, length-drop (suc at) lists), subst (λ list. Contains (nodes list) node) (get_or-drop (suc at) lists found.0 0) found.2)

  pub contains_below : (lists : List ℕ) (at node : ℕ) → at < length lists → Contains (below lists at) node → (i : ℕ) × (i < at) × Contains (nodes (get_or lists i 0)) node
  contains_below lists at node within stands =
      let found = contains_last_first (take at lists) node stands in
      let before : found.0 < at = omega (arith, found.1, length-take-le at lists (omega arith)) in
      (found.0, before, subst (λ list. Contains (nodes list) node) (get_or-take at lists found.0 0 before) found.2)

-- lists that have the same nodes
pub last_first-same : (nodes new : ℕ → List ℕ) (lists : List ℕ) → ((i : ℕ) → i < length lists → new (get_or lists i 0) ≡ nodes (get_or lists i 0)) → last_first new lists ≡ last_first nodes lists
last_first-same nodes new [] same = refl
last_first-same nodes new (list ∷ lists) same =
    let rest : last_first new lists ≡ last_first nodes lists = last_first-same nodes new lists (λ i within. same (suc i) (omega arith)) in
    let first : new list ≡ nodes list = same 0 (omega arith) in
    last_first-cons new list lists ∙ ap (λ all. all ++ new list) rest ∙ ap (λ last. last_first nodes lists ++ last) first ∙ sym (last_first-cons nodes list lists)

-- one of the lists has other nodes
pub last_first-changed : (nodes new : ℕ → List ℕ) (lists : List ℕ) (at : ℕ) → at < length lists → ((i : ℕ) → i < length lists → i ≢ at → new (get_or lists i 0) ≡ nodes (get_or lists i 0)) → last_first new lists ≡ above nodes lists at ++ (new (get_or lists at 0) ++ below nodes lists at)
last_first-changed nodes new lists at within others =
    let front : above new lists at ≡ above nodes lists at =
    last_first-same nodes new (drop (suc at) lists) (λ i inside.
    rw (get_or-drop (suc at) lists i 0) (others (suc at + i) (omega (arith, inside, length-drop (suc at) lists)) (omega arith))) in
    let back : below new lists at ≡ below nodes lists at =
    last_first-same nodes new (take at lists) (λ i inside.
    let before : i < at = omega (arith, inside, length-take-le at lists (omega arith)) in
    rw (get_or-take at lists i 0 before) (others i (omega arith) (omega arith))) in
    last_first-split new lists at within ∙ ap (λ rest. rest ++ (new (get_or lists at 0) ++ below new lists at)) front ∙ ap (λ rest. above nodes lists at ++ (new (get_or lists at 0) ++ rest)) back

module _ (rank : ℕ → ℕ) where
  -- a node goes behind those of its own priority or a higher one, and before those of a lower one
  pub into-past : (front back : List ℕ) (node : ℕ) → ((x : ℕ) → Contains front x → rank node ≤ rank x) → into rank (front ++ back) node ≡ front ++ into rank back node
  into-past [] back node high = refl
  into-past (x ∷ front) back node high =
      let here : rank node ≤ rank x = high x (contains_first x front) in
      let rest = into-past front back node (λ y at. high y (contains_later x y front at)) in
      grind (arith, nat_tests)

  pub into-before : (back : List ℕ) (node : ℕ) → ((x : ℕ) → Contains back x → rank x < rank node) → into rank back node ≡ node ∷ back
  into-before [] node low = refl
  into-before (x ∷ back) node low = let here : rank x < rank node = low x (contains_first x back) in grind (arith, nat_tests)

  pub into-between : (front here back : List ℕ) (node : ℕ) → ((x : ℕ) → Contains front x → rank node ≤ rank x) → ((x : ℕ) → Contains here x → rank node ≤ rank x) → ((x : ℕ) → Contains back x → rank x < rank node) → front ++ ((here ++ node ∷ []) ++ back) ≡ into rank (front ++ (here ++ back)) node
  into-between front here back node high same low =
      ap (λ rest. front ++ rest) (append_assoc here (node ∷ []) back ∙ ap (λ rest. here ++ rest) (sym (into-before back node low)) ∙ sym (into-past here back node same)) ∙ sym (into-past front (here ++ back) node high)

-- a node that is not there need not be taken out
pub without_absent : (node : ℕ) (nodes : List ℕ) → (Contains nodes node → ⊥) → without node nodes ≡ nodes
without_absent node [] absent = refl
without_absent node (x ∷ nodes) absent = elim (eqb_tells x node) [
  | inl same ↦ absurd (absent (subst (λ y. Contains (x ∷ nodes) y) same.1 (contains_first x nodes)))
  | inr differs ↦ rw differs.0 (ap (λ rest. x ∷ rest) (without_absent node nodes (λ at. absent (contains_later x node nodes at))))
]

pub without-between : (node : ℕ) (front here back : List ℕ) → (Contains front node → ⊥) → (Contains back node → ⊥) → front ++ (without node here ++ back) ≡ without node (front ++ (here ++ back))
without-between node front here back none_before none_behind =
    let test = λ (other : ℕ). not (other == node) in
    sym (filter-append test front (here ++ back)
    ∙ ap (λ rest. without node front ++ rest) (filter-append test here back)
    ∙ ap (λ rest. rest ++ (without node here ++ without node back)) (without_absent node front none_before)
    ∙ ap (λ rest. front ++ (without node here ++ rest)) (without_absent node back none_behind))

-- the first node of joined lists goes
pub rest-joined : (here back : List ℕ) (node : ℕ) → slice_get here 0 ≡ Some node → drop 1 here ++ back ≡ drop 1 (here ++ back)
rest-joined [] back node is = let clash : None ≡ Some node = is in absurd (cc)
rest-joined (x ∷ here) back node is = refl

-- joined lists that share no node
avoids_joined : (x : ℕ) (xs ys : List ℕ) → Avoids (Some x) xs → (Contains ys x → ⊥) → Avoids (Some x) (xs ++ ys)
avoids_joined x [] [] one two = tt
avoids_joined x [] (y ∷ ys) one two = (λ same. let equal : y ≡ x = cc in two (rw equal (contains_first x ys)), avoids_joined x [] ys tt (λ at. two (contains_later y x ys at)))
avoids_joined x (y ∷ xs) ys one two = (one.0, avoids_joined x xs ys one.1 two)

pub apart_joined : (xs ys : List ℕ) → IsApart xs → IsApart ys → ((x : ℕ) → Contains xs x → Contains ys x → ⊥) → IsApart (xs ++ ys)
apart_joined [] ys one two none = two
apart_joined (x ∷ xs) ys one two none = (avoids_joined x xs ys one.0 (none x (contains_first x xs)), apart_joined xs ys one.1 two (λ y at. none y (contains_later x y xs at)))

pub apart_last_first : (nodes : ℕ → List ℕ) (lists : List ℕ) → ((i : ℕ) → i < length lists → IsApart (nodes (get_or lists i 0))) → ((i j node : ℕ) → i < length lists → j < length lists → Contains (nodes (get_or lists i 0)) node → Contains (nodes (get_or lists j 0)) node → i ≡ j) → IsApart (last_first nodes lists)
apart_last_first nodes [] each one = tt
apart_last_first nodes (list ∷ lists) each one =
    subst IsApart (sym (last_first-cons nodes list lists)) (apart_joined (last_first nodes lists) (nodes list)
    (apart_last_first nodes lists (λ i within. each (suc i) (omega arith)) (λ i j node in_i in_j at_i at_j. let same = one (suc i) (suc j) node (omega arith) (omega arith) at_i at_j in omega (arith, same)))
    (each 0 (omega arith))
    (λ x front last. let found = contains_last_first nodes lists x front in let same = one (suc found.0) 0 x (omega (arith, found.1)) (omega arith) found.2 last in omega (arith, same)))
