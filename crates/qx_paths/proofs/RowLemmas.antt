-- The mounts of all users in one table: whose each is, and that there is room for one more of whoever may have it.
use Rattle.std.proofs.Common.{◌≡◌, ℕ, zero, suc, ◌+◌, ◌*◌, ◌<◌, ◌≤◌, Bool, true, false, if◌then◌else◌, List, [], ◌∷◌, ◌++◌, length, map, slice_set, get_or, None, Some, refl, ap, sym, subst, ◌∙◌, arith, inl, inr}
use Rattle.std.specs.Prelude.{◌==◌, All, nat_lt, replicate}
use Rattle.std.specs.List.{count_by, filter, list_any, sum_by}
use Rattle.std.proofs.lemmas.Bool.{cases_eq, cases_lt, eq-eqb, ltb-true, ne_eqb}
use Rattle.std.proofs.lemmas.List.{append-nil, append_assoc, get_or-replicate, get_or-set_other, get_or-set_same, get_or_past, length-append, length-map, length-replicate, length-set}
use Rattle.std.proofs.lemmas.List.Elements.{All-append, All-cons, All-head, All-replicate, All-set, All-tail, All-nil}
use Rattle.std.proofs.lemmas.List.Folds.{sum_by-replicate}
use Rattle.std.proofs.lemmas.List.Sums.{length-filter, sum_by-le, sum_by-set}
use Rattle.qx_base.specs.declared.errno.Errno.TheVariants.{EEXIST, ENOSPC}
use Rattle.qx_types.specs.declared.limits.TheConstants.Limits.{MOUNTS}
use Rattle.qx_types.specs.declared.names.Manager.TheVariants.{Ram}
use Rattle.qx_paths.specs.Mounts.{boot_mounts, mount_fault, mounts_of, with_mount_of}
use Rattle.qx_paths.specs.Prefixes.{MountPoint, is_at}
use Rattle.qx_paths.specs.declared.mounts.Row.{Row}
use Rattle.qx_paths.specs.inner.Rows.{IsTable, own, put, shown}

pub own_count : (user : ℕ) (rows : List Row) → count_by (λ (row : Row). row.user.0 == user) rows ≡ length (own user rows)
own_count user rows = sym (length-map (filter (λ (row : Row). row.user.0 == user) rows) (λ (row : Row). row.mount) ∙ length-filter (λ (row : Row). row.user.0 == user) rows)

abbrev IsOf : ℕ → Row → Type 0
IsOf places row = row.user.0 < places

abbrev more : List (List MountPoint) → Row → List (List MountPoint)
more table row = slice_set table row.user.0 (mounts_of table row.user.0 ++ row.mount ∷ [])

-- ---- whose mounts are shown

pub length-put : (table : List (List MountPoint)) (rows : List Row) → length (put table rows) ≡ length table
length-put table [] = refl
length-put table (row ∷ rows) = length-put (more table row) rows ∙ length-set table row.user.0 (mounts_of table row.user.0 ++ row.mount ∷ [])

pub length-shown : (places : ℕ) (rows : List Row) → length (shown places rows) ≡ places
length-shown places rows = length-put (replicate places []) rows ∙ length-replicate places []

own_put : (table : List (List MountPoint)) (rows : List Row) (user : ℕ) → user < length table → mounts_of (put table rows) user ≡ mounts_of table user ++ own user rows
own_put table [] user within = sym (append-nil (mounts_of table user))
own_put table (row ∷ rows) user within =
    own_put (more table row) rows user (omega (arith, length-set table row.user.0 (mounts_of table row.user.0 ++ row.mount ∷ []), within))
    ∙ elim (cases_eq row.user.0 user) [
      | inl same ↦ rw (eq-eqb row.user.0 user same)
          (ap (λ mounts. mounts ++ own user rows) (ap (mounts_of (more table row)) (sym same) ∙ get_or-set_same table row.user.0 (mounts_of table row.user.0 ++ row.mount ∷ []) [] (subst (λ n. n < length table) (sym same) within))
          ∙ append_assoc (mounts_of table row.user.0) (row.mount ∷ []) (own user rows)
          ∙ ap (λ n. mounts_of table n ++ row.mount ∷ own user rows) same)
      | inr differs ↦ rw (ne_eqb row.user.0 user differs)
          (ap (λ mounts. mounts ++ own user rows) (get_or-set_other table row.user.0 user (mounts_of table row.user.0 ++ row.mount ∷ []) [] (λ same. differs (sym same))))
    ]

own_past : (places : ℕ) (rows : List Row) (user : ℕ) → All (IsOf places) rows → places ≤ user → own user rows ≡ []
own_past places [] user of past = refl
own_past places (row ∷ rows) user of past =
    rw (ne_eqb row.user.0 user (λ same. omega (arith, same, past, All-head (IsOf places) row rows of))) (own_past places rows user (All-tail (IsOf places) row rows of) past)

pub own_shown : (places : ℕ) (rows : List Row) (capacity : ℕ) (user : ℕ) → IsTable places rows capacity → mounts_of (shown places rows) user ≡ own user rows
own_shown places rows capacity user h = elim (cases_lt user places) [
  | inr past ↦ get_or_past (shown places rows) user [] (omega (arith, length-shown places rows, past)) ∙ sym (own_past places rows user h.owned past)
  | inl within ↦ own_put (replicate places []) rows user (omega (arith, length-replicate {A = List MountPoint} places [], within)) ∙ ap (λ mounts. mounts ++ own user rows) (get_or-replicate {A = List MountPoint} places user [] [] within)
]

-- ---- one row more

put-last : (table : List (List MountPoint)) (rows : List Row) (row : Row) → put table (rows ++ row ∷ []) ≡ more (put table rows) row
put-last table [] row = refl
put-last table (first ∷ rows) row = put-last (more table first) rows row

pub shown-last : (places : ℕ) (rows : List Row) (row : Row) → shown places (rows ++ row ∷ []) ≡ more (shown places rows) row
shown-last places rows row = put-last (replicate places []) rows row

-- how many rows are put
sum-put : (table : List (List MountPoint)) (rows : List Row) → All (IsOf (length table)) rows → sum_by length (put table rows) ≡ sum_by length table + length rows
sum-put table [] of = omega arith
sum-put table (row ∷ rows) of =
    let mine : List MountPoint = mounts_of table row.user.0 in
    let here = All-head (IsOf (length table)) row rows of in
    let next = sum-put (more table row) rows (subst (λ n. All (IsOf n) rows) (sym (length-set table row.user.0 (mine ++ row.mount ∷ []))) (All-tail (IsOf (length table)) row rows of)) in
    omega (arith, next, sum_by-set length table row.user.0 (mine ++ row.mount ∷ []) [] here, length-append mine (row.mount ∷ []))

-- how many there can be
abbrev IsFew : List MountPoint → Type 0
IsFew mounts = length mounts ≤ MOUNTS

module _ (places : ℕ) (rows : List Row) (capacity : ℕ) (h : IsTable places rows capacity) (row : Row) (of : row.user.0 < places) (less : length (mounts_of (shown places rows) row.user.0) < MOUNTS) where
  abbrev mine : List MountPoint
  mine = mounts_of (shown places rows) row.user.0

  few_then : All IsFew (more (shown places rows) row)
  few_then = All-set IsFew (shown places rows) row.user.0 (mine ++ row.mount ∷ []) (omega (arith, length-append mine (row.mount ∷ []), less)) h.few

  pub room_for_row : length rows < capacity
  room_for_row =
      let sum = sum-put (replicate places []) rows (subst (λ n. All (IsOf n) rows) (sym (length-replicate {A = List MountPoint} places [])) h.owned) in
      let none = sum_by-replicate {X = List MountPoint} length places [] in
      let set = sum_by-set length (shown places rows) row.user.0 (mine ++ row.mount ∷ []) [] (omega (arith, length-shown places rows, of)) in
      let all = sum_by-le length MOUNTS (more (shown places rows) row) few_then in
      omega (arith, sum, none, set, all, length-append mine (row.mount ∷ []), length-set (shown places rows) row.user.0 (mine ++ row.mount ∷ []), length-shown places rows, h.room)

  pub table-last : IsTable places (rows ++ row ∷ []) capacity
  table-last = record {
    owned = All-append (IsOf places) rows (row ∷ []) h.owned (All-cons (IsOf places) row [] of (All-nil (IsOf places)));
    few = subst (All IsFew) (sym (shown-last places rows row)) few_then;
    room = h.room;
  }

pub no_fault : (most : ℕ) (mounts : List MountPoint) (path : List (List ℕ)) → mount_fault most mounts path ≡ None → length mounts < most
no_fault most mounts path none = by (list_any (is_at path) mounts) (nat_lt (length mounts) most) (ltb-true (length mounts) most) none where
  by : (at less : Bool) → (less ≡ true → length mounts < most) → (if at then Some EEXIST else if less then None else Some ENOSPC) ≡ None → length mounts < most
  by true less is e = absurd (cc)
  by false true is e = is refl
  by false false is e = absurd (cc)

-- ---- at boot

pub table-none : (places capacity : ℕ) → capacity ≡ places * MOUNTS → IsTable places [] capacity
table-none places capacity room = record { owned = All-nil (IsOf places); few = All-replicate IsFew places [] (omega arith); room = room }

-- what the users have once the first of them have their tops
abbrev pub begun : ℕ → List (List ℕ) → ℕ → List (List MountPoint)
begun root [] count = []
begun root (name ∷ names) zero = [] ∷ begun root names zero
begun root (name ∷ names) (suc count) = boot_mounts name root ∷ begun root names count

one_more : (count : ℕ) → suc count ≡ count + 1
one_more count = omega arith

pub begun-none : (root : ℕ) (names : List (List ℕ)) → replicate (length names + 1) [] ≡ [] ∷ begun root names 0
begun-none root names = ap (λ count. replicate count []) (sym (one_more (length names))) ∙ ap (λ table. [] ∷ table) (none names) where
  none : (names : List (List ℕ)) → replicate (length names) [] ≡ begun root names 0
  none [] = refl
  none (name ∷ names) = ap (λ table. [] ∷ table) (none names)

pub begun-all : (root : ℕ) (names : List (List ℕ)) → begun root names (length names) ≡ map (λ name. boot_mounts name root) names
begun-all root [] = refl
begun-all root (name ∷ names) = ap (λ table. boot_mounts name root ∷ table) (begun-all root names)

pub length-begun : (root : ℕ) (names : List (List ℕ)) (count : ℕ) → length (begun root names count) ≡ length names
length-begun root [] count = refl
length-begun root (name ∷ names) zero = ap suc (length-begun root names zero)
length-begun root (name ∷ names) (suc count) = ap suc (length-begun root names count)

empty-next : (root : ℕ) (names : List (List ℕ)) (count : ℕ) → get_or (begun root names count) count [] ≡ []
empty-next root [] count = refl
empty-next root (name ∷ names) zero = refl
empty-next root (name ∷ names) (suc count) = empty-next root names count

pub begun-empty : (root : ℕ) (names : List (List ℕ)) (count : ℕ) → mounts_of ([] ∷ begun root names count) (count + 1) ≡ []
begun-empty root names count = subst (λ user. mounts_of ([] ∷ begun root names count) user ≡ []) (one_more count) (empty-next root names count)

pub begun-fewer : (root : ℕ) (names : List (List ℕ)) (count : ℕ) → length (mounts_of ([] ∷ begun root names count) (count + 1)) < MOUNTS
begun-fewer root names count = let none = ap length (begun-empty root names count) in omega (arith, none)

more-begun : (root : ℕ) (names : List (List ℕ)) (count : ℕ) → count < length names → slice_set (begun root names count) count (boot_mounts (get_or names count []) root) ≡ begun root names (suc count)
more-begun root [] count within = absurd (omega (arith, within))
more-begun root (name ∷ names) zero within = refl
more-begun root (name ∷ names) (suc count) within = ap (λ table. boot_mounts name root ∷ table) (more-begun root names count (omega (arith, within)))

pub begun-next : (root : ℕ) (names : List (List ℕ)) (count : ℕ) → count < length names → with_mount_of ([] ∷ begun root names count) (count + 1) (record { prefix = get_or names count [] ∷ []; manager = Ram; root = root }) ≡ [] ∷ begun root names (count + 1)
begun-next root names count within =
    ap (λ mounts. slice_set ([] ∷ begun root names count) (count + 1) (mounts ++ record { prefix = get_or names count [] ∷ []; manager = Ram; root = root } ∷ [])) (begun-empty root names count)
    ∙ subst (λ user. slice_set ([] ∷ begun root names count) user (boot_mounts (get_or names count []) root) ≡ [] ∷ begun root names user) (one_more count) (ap (λ table. [] ∷ table) (more-begun root names count within))
