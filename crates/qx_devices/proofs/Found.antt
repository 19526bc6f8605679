-- The first value of a list that passes a test.
use Rattle.std.proofs.Common.{◌≡◌, ℕ, zero, suc, ◌&&◌, Bool, true, false, not, List, [], ◌∷◌, map, drop, Some, None, refl, ap, sym, ◌∙◌}
use Rattle.std.specs.Prelude.{option_map, slice_get}
use Rattle.std.specs.List.{find, list_any}
use Rattle.std.specs.Str.{bytes_eq}
use Rattle.std.proofs.lemmas.Slice.Eq.{bytes_eq-Decides}
use Rattle.std.proofs.lemmas.Bool.{and_parts}
use Rattle.std.proofs.lemmas.Map.Keys.{any_passes_from_place}
use Rattle.std.proofs.lemmas.Option.{same_Some, slice_get-map}

-- one that passes is the first from its place on, one that doesn't is passed over, and past the end there is none
pub found_at : {A : Type 0} (p : A → Bool) (values : List A) (place : ℕ) (value : A) → slice_get values place ≡ Some value → p value ≡ true → find p (drop place values) ≡ Some value
found_at p [] place value is passes = absurd (cc)
found_at p (first ∷ rest) zero value is passes = let same = same_Some first value is in rw (same, passes) refl
found_at p (first ∷ rest) (suc place) value is passes = found_at p rest place value is passes

pub passed_over : {A : Type 0} (p : A → Bool) (values : List A) (place : ℕ) (value : A) → slice_get values place ≡ Some value → p value ≡ false → find p (drop place values) ≡ find p (drop (suc place) values)
passed_over p [] place value is fails = absurd (cc)
passed_over p (first ∷ rest) zero value is fails = let same = same_Some first value is in rw (same, fails) refl
passed_over p (first ∷ rest) (suc place) value is fails = passed_over p rest place value is fails

pub none_past : {A : Type 0} (p : A → Bool) (values : List A) (place : ℕ) → slice_get values place ≡ None → find p (drop place values) ≡ None
none_past p [] zero is = refl
none_past p [] (suc place) is = refl
none_past p (first ∷ rest) zero is = absurd (cc)
none_past p (first ∷ rest) (suc place) is = none_past p rest place is

-- no two of these are the same
abbrev pub are_apart : List (List ℕ) → Bool
are_apart [] = true
are_apart (word ∷ words) = not (list_any (bytes_eq word) words) && are_apart words

same_itself : (word : List ℕ) → bytes_eq word word ≡ true
same_itself word = (bytes_eq-Decides word word).1 refl

not_so : (test : Bool) → (test ≡ true → false ≡ true) → test ≡ false
not_so true clash = absurd (let never = clash refl in cc)
not_so false clash = refl

-- a text that stands in a list is not one that stands apart from it
differs : {A : Type 0} (text : A → List ℕ) (rest : List A) (place : ℕ) (value : A) (word : List ℕ) → not (list_any (bytes_eq word) (map text rest)) ≡ true → slice_get rest place ≡ Some value → bytes_eq (text value) word ≡ false
differs text rest place value word apart is = not_so _ (λ same.
    let there : list_any (bytes_eq word) (map text rest) ≡ true =
    any_passes_from_place (bytes_eq word) (map text rest) place (text value) (slice_get-map text rest place ∙ ap (option_map text) is)
    (ap (λ w. bytes_eq w (text value)) (sym ((bytes_eq-Decides (text value) word).0 same)) ∙ same_itself (text value)) in
    ap not (sym there) ∙ apart)

-- one whose text is no other's is the first of its text
pub first_of_text : {A : Type 0} (text : A → List ℕ) (values : List A) (place : ℕ) (value : A) → are_apart (map text values) ≡ true → slice_get values place ≡ Some value → find (λ other. bytes_eq (text value) (text other)) values ≡ Some value
first_of_text text [] place value apart is = absurd (cc)
first_of_text text (first ∷ rest) zero value apart is = let same = same_Some first value is in rw (same, same_itself (text value)) refl
first_of_text text (first ∷ rest) (suc place) value apart is =
    let parts = and_parts (not (list_any (bytes_eq (text first)) (map text rest))) (are_apart (map text rest)) apart in
    rw (differs text rest place value (text first) parts.0 is) (first_of_text text rest place value parts.1 is)
