-- Blocks under their numbers, as their keys and values change.
use Rattle.std.proofs.Common.{◌≡◌, ◌≢◌, ◌⊎◌, Bool, true, false, ℕ, zero, suc, List, [], ◌∷◌, ◌++◌, length, refl, sym, ap, ◌∙◌, inl, inr, Option, Some, None, IsSome, nat_lt, slice_set}
use Rattle.std.specs.Prelude.{if◌then◌else◌}
use Rattle.std.proofs.lemmas.Bool.{cases_eq}
use Rattle.slab.specs.Slab.{Slab, Updates, get, with_value}
use Rattle.slab.proofs.SlabLemmas.{Updates-with_value}
use Rattle.qx_machine.specs.declared.rows.Ocb.{Ocb}
use Rattle.qx_isolation.specs.Rows.{row_at, lowest_from, put_row, with_row}
use Rattle.qx_isolation.proofs.Places.{at-map, row_at-set_other, set-row_at}
use Rattle.qx_attr.specs.inner.Blocks.{IsKeyed, rows_of, value_at}
use Rattle.qx_attr.proofs.TableLemmas.{append-rows, length-rows, lowest_map, no_value, row-freed, same_but, same_map}

pub row-of : (values : Slab Ocb) (keys : List (Option ℕ)) (n : ℕ) → row_at (rows_of values keys) n ≡ value_at values (row_at keys n)
row-of values keys n = at-map (value_at values) keys n None None refl

-- ---- the lowest free number

pub lowest : (values : Slab Ocb) (keys : List (Option ℕ)) → IsKeyed values keys → lowest_from 1 (rows_of values keys) ≡ lowest_from 1 keys
lowest values keys keyed = lowest_map (value_at values) keys refl keyed.there

-- ---- one key's value changes

value-other : (old new : Slab Ocb) (key : ℕ) (slot : Option Ocb) → Updates old new key slot → (place : Option ℕ) → place ≢ Some key → value_at new place ≡ value_at old place
value-other old new key slot updates None differs = refl
value-other old new key slot updates (Some other) differs = updates.others other (λ e. differs (ap (λ k. Some k) e))

pub rows-without : (old new : Slab Ocb) (keys : List (Option ℕ)) (n key : ℕ) → IsKeyed old keys → row_at keys n ≡ Some key → Updates old new key None → rows_of new (slice_set keys n None) ≡ slice_set (rows_of old keys) n None
rows-without old new keys n key keyed is updates =
    same_but (value_at old) (value_at new) keys n None (λ m differs. value-other old new key None updates (row_at keys m) (λ e. differs (keyed.apart m n key e is)))

pub rows-with : (old : Slab Ocb) (keys : List (Option ℕ)) (n key : ℕ) (value : Ocb) → IsKeyed old keys → row_at keys n ≡ Some key → rows_of (with_value old key value) keys ≡ with_row (rows_of old keys) n (λ _. value)
rows-with old keys n key value keyed is = changed (get old key) refl
  where
    new : Slab Ocb
    new = with_value old key value

    updates : Updates old new key (Some value)
    updates = Updates-with_value old key value (keyed.there n key is)

    written : rows_of new keys ≡ slice_set (rows_of old keys) n (Some value)
    written =
        ap (rows_of new) (sym (set-row_at keys n)) ∙
        (same_but (value_at old) (value_at new) keys n (row_at keys n) (λ m differs. value-other old new key (Some value) updates (row_at keys m) (λ e. differs (keyed.apart m n key e is))) ∙
        ap (λ place. slice_set (rows_of old keys) n (value_at new place)) is ∙ ap (slice_set (rows_of old keys) n) updates.changed)

    changed : (had : Option Ocb) → get old key ≡ had → rows_of new keys ≡ with_row (rows_of old keys) n (λ _. value)
    changed None e = absurd (no_value (get old key) e (keyed.there n key is))
    changed (Some was) e = rw (row-of old keys n, is, e) written

-- the value of a number that is there changes
pub rows-changed : (old : Slab Ocb) (keys : List (Option ℕ)) (n key : ℕ) (change : Ocb → Ocb) (block : Ocb) → IsKeyed old keys → row_at keys n ≡ Some key → get old key ≡ Some block → rows_of (with_value old key (change block)) keys ≡ with_row (rows_of old keys) n change
rows-changed old keys n key change block keyed is had =
    let there : row_at (rows_of old keys) n ≡ Some block = row-of old keys n ∙ (ap (value_at old) is ∙ had) in
    rows-with old keys n key (change block) keyed is ∙ (rw there refl)

-- another number than the one that was freed
still : (old new : Slab Ocb) (keys : List (Option ℕ)) (n key m other : ℕ) → IsKeyed old keys → row_at keys n ≡ Some key → row_at (slice_set keys n None) m ≡ Some other → (m ≢ n) × (row_at keys m ≡ Some other)
still old new keys n key m other keyed is there = elim (cases_eq m n) [
  | inl same ↦
      let here : row_at (slice_set keys n None) n ≡ Some other = ap (row_at (slice_set keys n None)) (sym same) ∙ there in
      let freed = row-freed keys n in
      absurd (cc)
  | inr differs ↦ (differs, sym (row_at-set_other keys n m None differs) ∙ there)
]

some_same : {A : Type 0} (x y : Option A) → x ≡ y → IsSome y → IsSome x
some_same x y e some = rw e some

pub keyed-without : (old new : Slab Ocb) (keys : List (Option ℕ)) (n key : ℕ) → IsKeyed old keys → row_at keys n ≡ Some key → Updates old new key None → IsKeyed new (slice_set keys n None)
keyed-without old new keys n key keyed is updates = record {
  there = λ m other there.
      let kept = still old new keys n key m other keyed is there in
      some_same (get new other) (get old other) (updates.others other (λ e. kept.0 (keyed.apart m n key (kept.1 ∙ ap (λ k. Some k) e) is))) (keyed.there m other kept.1);
  apart = λ a b other at_a at_b. keyed.apart a b other (still old new keys n key a other keyed is at_a).1 (still old new keys n key b other keyed is at_b).1;
}

-- ---- a key is new

-- what stands in a table is the new key, at one place, or stood there before
abbrev pub IsNewAt : List (Option ℕ) → List (Option ℕ) → ℕ → ℕ → Type 0
IsNewAt keys now place key = (m other : ℕ) → row_at now m ≡ Some other → ((m ≡ place) × (other ≡ key)) ⊎ (row_at keys m ≡ Some other)

at_set : (keys : List (Option ℕ)) (n key : ℕ) → IsNewAt keys (slice_set keys n (Some key)) n key
at_set [] n key m other e = inr e
at_set (k ∷ keys) zero key zero other e = inl (refl, cc)
at_set (k ∷ keys) zero key (suc m) other e = inr e
at_set (k ∷ keys) (suc n) key zero other e = inr e
at_set (k ∷ keys) (suc n) key (suc m) other e = elim (at_set keys n key m other e) [ inl here ↦ inl (ap suc here.0, here.1) | inr was ↦ inr was ]

at_last : (keys : List (Option ℕ)) (key : ℕ) → IsNewAt keys (keys ++ Some key ∷ []) (length keys) key
at_last [] key zero other e = inl (refl, cc)
at_last [] key (suc m) other e = absurd (cc)
at_last (k ∷ keys) key zero other e = inr e
at_last (k ∷ keys) key (suc m) other e = elim (at_last keys key m other e) [ inl here ↦ inl (ap suc here.0, here.1) | inr was ↦ inr was ]

module _ (old new : Slab Ocb) (keys : List (Option ℕ)) (n key : ℕ) (value : Ocb) (keyed : IsKeyed old keys) (vacant : get old key ≡ None) (updates : Updates old new key (Some value)) where
  not_there : (m : ℕ) → row_at keys m ≡ Some key → ⊥
  not_there m e = no_value (get old key) vacant (keyed.there m key e)

  keyed_at : (now : List (Option ℕ)) (place : ℕ) → IsNewAt keys now place key → IsKeyed new now
  keyed_at now place at = record {
    there = λ m other e. elim (at m other e) [
      | inl here ↦ some_same (get new other) (Some value) (ap (get new) here.1 ∙ updates.changed) refl
      | inr was ↦ some_same (get new other) (get old other) (updates.others other (λ same. not_there m (was ∙ ap (λ k. Some k) same))) (keyed.there m other was)
    ];
    apart = λ a b other at_a at_b. elim (at a other at_a) [
      | inl here ↦ elim (at b other at_b) [
        | inl there ↦ here.0 ∙ sym there.0
        | inr was ↦ absurd (not_there b (was ∙ ap (λ k. Some k) here.1))
      ]
      | inr had ↦ elim (at b other at_b) [
        | inl there ↦ absurd (not_there a (had ∙ ap (λ k. Some k) there.1))
        | inr was ↦ keyed.apart a b other had was
      ]
    ];
  }

  by_test : (test : Bool) → IsKeyed new (if test then slice_set keys n (Some key) else keys ++ Some key ∷ [])
  by_test true = keyed_at (slice_set keys n (Some key)) n (at_set keys n key)
  by_test false = keyed_at (keys ++ Some key ∷ []) (length keys) (at_last keys key)

  pub keyed-put : IsKeyed new (put_row keys n key)
  keyed-put = by_test (nat_lt n (length keys))

  others : (m : ℕ) → value_at new (row_at keys m) ≡ value_at old (row_at keys m)
  others m = value-other old new key (Some value) updates (row_at keys m) (not_there m)

  rows_by_test : (test : Bool) → rows_of new (if test then slice_set keys n (Some key) else keys ++ Some key ∷ []) ≡ (if test then slice_set (rows_of old keys) n (Some value) else rows_of old keys ++ Some value ∷ [])
  rows_by_test true = same_but (value_at old) (value_at new) keys n (Some key) (λ m differs. others m) ∙ ap (slice_set (rows_of old keys) n) updates.changed
  rows_by_test false =
      append-rows (value_at new) keys (Some key) ∙
      (ap (λ l. l ++ value_at new (Some key) ∷ []) (same_map (value_at old) (value_at new) keys others) ∙ ap (λ row. rows_of old keys ++ row ∷ []) updates.changed)

  pub rows-put : rows_of new (put_row keys n key) ≡ put_row (rows_of old keys) n value
  rows-put =
      rows_by_test (nat_lt n (length keys)) ∙
      ap (λ count. if nat_lt n count then slice_set (rows_of old keys) n (Some value) else rows_of old keys ++ Some value ∷ []) (sym (length-rows (value_at old) keys))

-- no block is there to be changed
pub nothing-there : (values : Slab Ocb) (keys : List (Option ℕ)) (n : ℕ) → row_at keys n ≡ None → row_at (rows_of values keys) n ≡ None
nothing-there values keys n none = row-of values keys n ∙ ap (value_at values) none

pub nothing-freed : (rows : List (Option Ocb)) (n : ℕ) → row_at rows n ≡ None → slice_set rows n None ≡ rows
nothing-freed rows n none = ap (slice_set rows n) (sym none) ∙ set-row_at rows n

pub nothing-changed : (rows : List (Option Ocb)) (n : ℕ) (change : Ocb → Ocb) → row_at rows n ≡ None → with_row rows n change ≡ rows
nothing-changed rows n change none = rw none (nothing-freed rows n none)
