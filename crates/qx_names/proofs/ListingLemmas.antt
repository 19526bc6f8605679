-- What is left to be listed, name by name.
use Rattle.std.specs.Prelude.{ℕ, zero, suc, None, Some, ◌==◌, ◌+◌, ◌-◌, ◌≤◌, ◌<◌, List, [], ◌∷◌, ◌++◌, drop, filter, length, map as mapped, option_map, slice_get}
use Rattle.std.specs.Cmp.Lexicographic.{slice_cmp, slice_partial_cmp}
use Rattle.std.specs.FinMap as map
use Rattle.std.specs.Ordering.{as_partial_cmp, is_lt, is_some_and, nat_cmp, ordering_then, partial_ordering_then}
use Rattle.std.specs.declared.cmp.Ordering.{Ordering}
use Rattle.std.specs.declared.cmp.Ordering.TheVariants.{Less, Equal, Greater}
use Rattle.std.proofs.Common.{◌≡◌, Bool, true, false, cond, ap, refl, subst, sym, ◌∙◌, append_assoc, arith}
use Rattle.std.proofs.lemmas.Bool.{le-leb, lt-leb}
use Rattle.std.proofs.lemmas.Option.{slice_get-map}
use Rattle.qx_lists.specs.Table.{Table}
use Rattle.qx_machine.specs.Names.{fitting, listing}
use Rattle.qx_names.specs.inner.Children.{Children, Entry, IsRising, count_to, entries_of, entry_of}
use Rattle.qx_names.specs.inner.Folders.{names_of, place_cmp}
use Rattle.qx_machine.proofs.Directories.{second}
use Rattle.qx_names.proofs.IndexLemmas.{entry-index}
use Rattle.qx_names.proofs.RisingLemmas.{before_less, count_to-high, no_further}

joined : (r s : Ordering) → partial_ordering_then (Some r) (Some s) ≡ Some (ordering_then r s)
joined Less s = refl
joined Equal s = refl
joined Greater s = refl

-- bytes are compared by the orders of their numbers
partial_is : (xs ys : List ℕ) → slice_partial_cmp (as_partial_cmp nat_cmp) xs ys ≡ Some (slice_cmp nat_cmp xs ys)
partial_is [] [] = refl
partial_is [] (y ∷ ys) = refl
partial_is (x ∷ xs) [] = refl
partial_is (x ∷ xs) (y ∷ ys) = ap (partial_ordering_then (Some (nat_cmp x y))) (partial_is xs ys) ∙ joined (nat_cmp x y) (slice_cmp nat_cmp xs ys)

-- what a comparison of slices tells
pub test_is : (after slice name : List ℕ) (result b : Bool) → result ≡ is_some_and is_lt (slice_partial_cmp (as_partial_cmp nat_cmp) after slice) → slice ≡ name → result ≡ b → is_lt (slice_cmp nat_cmp after name) ≡ b
test_is after slice name result b e f g = sym (sym g ∙ e ∙ ap (is_some_and is_lt) (partial_is after slice) ∙ ap (λ n. is_lt (slice_cmp nat_cmp after n)) f)

drop_at : (es : List Entry) (place : ℕ) (entry : Entry) → slice_get es place ≡ Some entry → drop place es ≡ entry ∷ drop (suc place) es
drop_at [] place entry is = cc
drop_at (head ∷ es) zero entry is = let same : head ≡ entry = cc in ap (λ e. e ∷ es) same
drop_at (head ∷ es) (suc place) entry is = drop_at es place entry is

drop_past : (es : List Entry) (place : ℕ) → slice_get es place ≡ None → drop place es ≡ []
drop_past [] zero none = refl
drop_past [] (suc place) none = refl
drop_past (head ∷ es) zero none = cc
drop_past (head ∷ es) (suc place) none = drop_past es place none

rising_drop : (es : List Entry) (place : ℕ) → IsRising es → IsRising (drop place es)
rising_drop es zero rising = rising
rising_drop [] (suc place) rising = rising
rising_drop (head ∷ es) (suc place) rising = rising_drop es place (second _ _ rising)

-- the names of a directory that a listing has before it at a place, where so many bytes are left
abbrev pub left : Table Entry → Children → ℕ → ℕ → ℕ → List (List ℕ)
left t children directory place room = fitting room (names_of directory (drop place (entries_of t children)))

-- behind the names of a directory stand other directories' alone
pub other_from : (t : Table Entry) (children : Children) (directory place node : ℕ) (entry : Entry) (is : slice_get children.nodes place ≡ Some node) (value : map.get t.values node ≡ Some entry) (after : List ℕ) → IsRising (entries_of t children) → count_to (directory, after) (entries_of t children) ≤ place → (entry.0.0 ≡ directory → ⊥) → names_of directory (drop place (entries_of t children)) ≡ []
other_from t children directory place node entry is value after rising from differs =
    let at = entry-index t children.nodes place node entry is value in
    ap (names_of directory) (drop_at (entries_of t children) place entry at)
    ∙ no_further directory after entry (drop (suc place) (entries_of t children)) (subst IsRising (drop_at (entries_of t children) place entry at) (rising_drop (entries_of t children) place rising)) (by at (is_lt (place_cmp (directory, after) entry.0)) refl) differs
  where
    by : slice_get (entries_of t children) place ≡ Some entry → (b : Bool) → is_lt (place_cmp (directory, after) entry.0) ≡ b → place_cmp (directory, after) entry.0 ≡ Less
    by at true e = before_less _ e
    by at false e = absurd (let high = count_to-high (directory, after) (entries_of t children) place entry rising at e in omega (arith, high, from))

-- none stands behind the last one
pub none_from : (t : Table Entry) (children : Children) (directory place : ℕ) → slice_get children.nodes place ≡ None → names_of directory (drop place (entries_of t children)) ≡ []
none_from t children directory place none = ap (names_of directory) (drop_past (entries_of t children) place (slice_get-map (entry_of t) children.nodes place ∙ ap (option_map (entry_of t)) none))

module _ (t : Table Entry) (children : Children) (directory place node : ℕ) (entry : Entry) (is : slice_get children.nodes place ≡ Some node) (value : map.get t.values node ≡ Some entry) (room : ℕ) where
  at : slice_get (entries_of t children) place ≡ Some entry
  at = entry-index t children.nodes place node entry is value

  module _ (here : (entry.0.0 == directory) ≡ true) where
    left_at : left t children directory place room ≡ fitting room (entry.0.1 ∷ names_of directory (drop (suc place) (entries_of t children)))
    left_at =
        ap (λ es. fitting room (names_of directory es)) (drop_at (entries_of t children) place entry at)
        ∙ ap (λ b. fitting room (mapped (λ (e : Entry). e.0.1) (cond b (entry ∷ filter (λ (e : Entry). e.0.0 == directory) (drop (suc place) (entries_of t children))) (filter (λ (e : Entry). e.0.0 == directory) (drop (suc place) (entries_of t children)))))) here

    -- a name that does not fit ends the listing
    pub left_stop : room < length entry.0.1 + 1 → left t children directory place room ≡ []
    left_stop e = left_at ∙ ap (λ b. cond b (entry.0.1 ∷ fitting (room - (length entry.0.1 + 1)) (names_of directory (drop (suc place) (entries_of t children)))) []) (lt-leb (length entry.0.1 + 1) room e)

    -- one that fits is listed
    pub left_on : length entry.0.1 + 1 ≤ room → left t children directory place room ≡ entry.0.1 ∷ left t children directory (suc place) (room - (length entry.0.1 + 1))
    left_on e = left_at ∙ ap (λ b. cond b (entry.0.1 ∷ fitting (room - (length entry.0.1 + 1)) (names_of directory (drop (suc place) (entries_of t children)))) []) (le-leb (length entry.0.1 + 1) room e)

  -- an entry of another directory ends it too
  pub left_other : (after : List ℕ) → IsRising (entries_of t children) → count_to (directory, after) (entries_of t children) ≤ place → (entry.0.0 ≡ directory → ⊥) → left t children directory place room ≡ []
  left_other after rising from differs =
      ap (fitting room) (other_from t children directory place node entry is value after rising from differs)

-- behind the last one nothing is left
pub left_none : (t : Table Entry) (children : Children) (directory place room : ℕ) → slice_get children.nodes place ≡ None → left t children directory place room ≡ []
left_none t children directory place room none = ap (λ es. fitting room (names_of directory es)) (drop_past (entries_of t children) place (slice_get-map (entry_of t) children.nodes place ∙ ap (option_map (entry_of t)) none))

pub listing_on : (reply name : List ℕ) (names : List (List ℕ)) → reply ++ listing (name ∷ names) ≡ ((reply ++ name) ++ 0 ∷ []) ++ listing names
listing_on reply name names = sym (append_assoc reply (name ++ 0 ∷ []) (listing names)) ∙ ap (◌++ listing names) (sym (append_assoc reply name (0 ∷ [])))
