-- Cutting bytes at each '/' and joining components again.
use Rattle.std.proofs.Common.{◌≡◌, ℕ, ◌+◌, ◌-◌, ◌^◌, ◌<◌, ◌≤◌, Bool, true, false, cond, not, ◌&&◌, eqb, ltb, List, [], ◌∷◌, ◌++◌, length, take, drop, Some, None, refl, sym, ap, ◌∙◌, subst, arith}
use Rattle.std.specs.Prelude.{position}
use Rattle.std.specs.Int.{w16, to_le_bytes}
use Rattle.std.specs.List.{list_all, slice_split, All, position_or_len}
use Rattle.std.proofs.Math.Seq.{drop-append_seam, take-append_seam}
use Rattle.std.proofs.lemmas.Bool.{ltb-false, ltb-true, leb-true, and_parts}
use Rattle.std.proofs.lemmas.Option.{cond_some}
use Rattle.std.proofs.lemmas.List.{take_all, take-append-drop, length-drop, length-append, length-take, length-take-le}
use Rattle.std.proofs.lemmas.List.Sums.{fails_before_first, AllPass-from_list_all}
use Rattle.std.proofs.lemmas.List.Splits.{slice_split_none, slice_split_first, slice_split_at, join_with_byte-slice_split}
use Rattle.qx_wire.specs.Rests.{AreRests, joined, components_of, first_length, is_component, is_name_byte, rests_bytes, rests_of}
use Rattle.qx_wire.proofs.FieldLemmas.{IsBytes, IsBytes-take, wide16}

abbrev slash : ℕ → Bool
slash x = eqb x 47

pub joined_components : (bytes : List ℕ) → joined (components_of bytes) ≡ bytes
unfolding components_of
joined_components [] = refl
joined_components (b ∷ bytes) = join_with_byte-slice_split 47 (b ∷ bytes)

pub components_none : (bytes : List ℕ) → length bytes ≡ 0 → components_of bytes ≡ []
unfolding components_of
components_none [] e = refl
components_none (b ∷ bytes) e = absurd (omega arith)

pub components_some : (bytes : List ℕ) → (length bytes ≡ 0 → ⊥) → components_of bytes ≡ slice_split slash bytes
unfolding components_of
components_some [] e = absurd (e refl)
components_some (b ∷ bytes) e = refl

-- ---- the next part

cond_none : {X : Type 0} (b : Bool) (x : X) → cond b (Some x) None ≡ None → b ≡ false
cond_none true x e = absurd cc
cond_none false x e = refl

is_slash_free : (bytes : List ℕ) → position slash bytes ≡ None → All (λ x. slash x ≡ false) bytes
is_slash_free bytes e k d lt =
    let past : length bytes ≤ position_or_len slash bytes = ltb-false _ _ (cond_none (ltb (position_or_len slash bytes) (length bytes)) (position_or_len slash bytes) e) in
    fails_before_first slash bytes k d (omega arith)

pub next_last : (bytes : List ℕ) → position slash bytes ≡ None → slice_split slash bytes ≡ bytes ∷ []
next_last bytes e = slice_split_none slash bytes (is_slash_free bytes e)

pub next_first : (bytes : List ℕ) (at : ℕ) → position slash bytes ≡ Some at → slice_split slash bytes ≡ take at bytes ∷ slice_split slash (take (length bytes - (at + 1)) (drop (at + 1) bytes))
next_first bytes at e =
    let g = cond_some (ltb (position_or_len slash bytes) (length bytes)) (position_or_len slash bytes) at e in
    let lt : position_or_len slash bytes < length bytes = ltb-true _ _ g.0 in
    let whole : take (length bytes - (at + 1)) (drop (at + 1) bytes) ≡ drop (at + 1) bytes = take_all (length bytes - (at + 1)) (drop (at + 1) bytes) (omega (arith, length-drop (at + 1) bytes)) in
    rw whole (subst (λ (i : ℕ). slice_split slash bytes ≡ take i bytes ∷ slice_split slash (drop (i + 1) bytes)) g.1 (slice_split_first slash bytes 0 lt))

-- ---- components that are joined are cut again

-- a component is not empty and has no '/'
pub record IsPart (c : List ℕ) : Type 0 where
  pub some : 0 < length c
  pub slash_free : All (λ x. slash x ≡ false) c

name_byte : (x : ℕ) → is_name_byte x ≡ true → slash x ≡ false
name_byte x e = elim (eqb x 47) as (λ v. (not (eqb x 0) && not v) ≡ true → v ≡ false) [ true ↦ λ h. absurd (elim (not (eqb x 0)) as (λ v. (v && false) ≡ true → ⊥) [ true ↦ λ g. cc | false ↦ λ g. cc ] h) | false ↦ λ h. refl ] e

is_part : (c : List ℕ) → is_component c ≡ true → IsPart c
is_part c e =
    let a = and_parts _ _ e in
    let b = and_parts _ _ a.0 in
    let d = and_parts _ _ b.0 in
    let all = AllPass-from_list_all is_name_byte c a.1 in
    record { some = leb-true 1 (length c) d.0; slash_free = λ k x lt. name_byte _ (all k x lt) }

split_joined : (c : List ℕ) (cs : List (List ℕ)) → list_all is_component (c ∷ cs) ≡ true → slice_split slash (joined (c ∷ cs)) ≡ c ∷ cs
split_joined c [] e = slice_split_none slash c (is_part c (and_parts _ _ e).0).slash_free
split_joined c (d ∷ cs) e =
    let both = and_parts _ _ e in
    slice_split_at slash c 47 (joined (d ∷ cs)) (is_part c both.0).slash_free refl ∙ ap (λ (ps : List (List ℕ)). c ∷ ps) (split_joined d cs both.1)

joined_some : (c : List ℕ) (cs : List (List ℕ)) → IsPart c → length (joined (c ∷ cs)) ≡ 0 → ⊥
joined_some c [] part e = omega (arith, part.some)
joined_some c (d ∷ cs) part e = omega (arith, part.some, length-append c (47 ∷ joined (d ∷ cs)))

pub components_joined : (cs : List (List ℕ)) → list_all is_component cs ≡ true → components_of (joined cs) ≡ cs
unfolding components_of
components_joined [] e = refl
components_joined (c ∷ cs) e = components_some (joined (c ∷ cs)) (joined_some c cs (is_part c (and_parts _ _ e).0)) ∙ split_joined c cs e

-- ---- two rests

pub rests_again : (bytes : List ℕ) → IsBytes bytes → AreRests bytes → bytes ≡ rests_bytes (rests_of bytes)
unfolding rests_of
rests_again bytes fits are =
    let n = first_length bytes in
    let both = drop 2 bytes in
    let front : to_le_bytes w16 n ≡ take 2 bytes = wide16.back (take 2 bytes) (omega (arith, length-take 2 bytes, are)) (IsBytes-take 2 bytes fits) in
    let len : length (joined (components_of (take n both))) ≡ n = ap length (joined_components (take n both)) ∙ length-take-le n both (omega (arith, length-drop 2 bytes, are)) in
    let texts : joined (components_of (take n both)) ++ joined (components_of (drop n both)) ≡ both = rw (joined_components (take n both), joined_components (drop n both)) (take-append-drop n both) in
    sym (ap (λ (m : ℕ). to_le_bytes w16 m ++ (joined (components_of (take n both)) ++ joined (components_of (drop n both)))) len
    ∙ (ap (λ (behind : List ℕ). to_le_bytes w16 n ++ behind) texts ∙ (ap (λ (before : List ℕ). before ++ both) front ∙ take-append-drop 2 bytes)))

-- the bytes of two are these two
pub two_rests : (from to : List ℕ) → length from < 2 ^ 16 → AreRests (to_le_bytes w16 (length from) ++ (from ++ to)) × (rests_of (to_le_bytes w16 (length from) ++ (from ++ to)) ≡ (components_of from, components_of to))
unfolding rests_of
two_rests from to few =
    let first : first_length (to_le_bytes w16 (length from) ++ (from ++ to)) ≡ length from = wide16.again (length from) few in
    (omega (arith, first, length-append from to), rw (first, take-append_seam, drop-append_seam) refl)
