-- The names in a directory, with what they name: they rise, where no two paths lead to the directory.
use Rattle.std.specs.Prelude.{ℕ, List, [], ◌∷◌, ◌++◌, Option, Some, None, map as mapped, if◌then◌else◌}
use Rattle.std.specs.Cmp.Lexicographic.{slice_cmp, lists_total, nat_list_cmp_total}
use Rattle.std.specs.Cmp.{nat_cmp_total, tied_itself}
use Rattle.std.specs.FinMap.{entries, entries_sorted, get}
use Rattle.std.specs.FinMap.Entries.{below_all, is_sorted}
use Rattle.std.specs.List.{AllByRecursion, flat_map}
use Rattle.std.specs.List.Sorted.{IsStrictlySortedBy}
use Rattle.std.specs.Ordering.{is_lt, nat_cmp, ordering_then}
use Rattle.std.specs.declared.cmp.Ordering.{Ordering}
use Rattle.std.specs.declared.cmp.Ordering.TheVariants.{Less, Equal, Greater}
use Rattle.std.proofs.Common.{◌≡◌, Bool, true, false, ◌&&◌, T, ap, refl, sym, ◌∙◌, subst}
use Rattle.std.proofs.lemmas.Bool.{eqb-true}
use Rattle.qx_machine.specs.Listings.{HasAtMostOnePath}
use Rattle.qx_machine.specs.Names.{Key, Names, is_there, key_cmp, name_in, names_in}

pub first : (a b : Bool) → T (a && b) → T a
first true b p = tt
first false b p = absurd p

pub second : (a b : Bool) → T (a && b) → T b
second true b p = p
second false b p = absurd p

both : (a b : Bool) → T a → T b → T (a && b)
both true b p q = q
both false b p q = p

abbrev pub name_cmp : List ℕ → List ℕ → Ordering
name_cmp = slice_cmp nat_cmp

-- a name of a directory, with what it names
abbrev pub pair_in : Names → ℕ → Key × ℕ → List (List ℕ × ℕ)
pair_in names directory ((root, []), inode) = []
pair_in names directory ((root, name ∷ above), inode) = if is_there (get names (root, above)) directory then (name, inode) ∷ [] else []

-- the names of a directory among entries, with what they name
abbrev pub pairs_in : Names → ℕ → List (Key × ℕ) → List (List ℕ × ℕ)
pairs_in names directory es = flat_map (pair_in names directory) es

pub there_is : (x : Option ℕ) (directory : ℕ) → is_there x directory ≡ true → x ≡ Some directory
there_is None directory e = cc
there_is (Some value) directory e = ap Some (eqb-true value directory e)

-- two names of one directory are in the order of their keys
less_names : (r s t : Ordering) → r ≡ Equal → t ≡ Equal → T (is_lt (ordering_then r (ordering_then s t))) → T (is_lt s)
less_names r Less t e f h = tt
less_names r Equal t e f h = let gone : T (is_lt Equal) = subst (λ x. T (is_lt x)) f (subst (λ x. T (is_lt (ordering_then x (ordering_then Equal t)))) e h) in absurd gone
less_names r Greater t e f h = let gone : T (is_lt Greater) = subst (λ x. T (is_lt (ordering_then x (ordering_then Greater t)))) e h in absurd gone

name_in-pair : (names : Names) (directory : ℕ) (entry : Key × ℕ) → name_in names directory entry ≡ mapped (λ pair. pair.0) (pair_in names directory entry)
name_in-pair names directory ((root, []), inode) = refl
name_in-pair names directory ((root, name ∷ above), inode) = by (is_there (get names (root, above)) directory)
  where
    by : (b : Bool) → (if b then name ∷ [] else []) ≡ mapped (λ (pair : List ℕ × ℕ). pair.0) (if b then (name, inode) ∷ [] else [])
    by true = refl
    by false = refl

map-append : (one two : List (List ℕ × ℕ)) → mapped (λ pair. pair.0) (one ++ two) ≡ mapped (λ pair. pair.0) one ++ mapped (λ pair. pair.0) two
map-append [] two = refl
map-append (pair ∷ one) two = ap (pair.0 ∷◌) (map-append one two)

pub names-pairs : (names : Names) (directory : ℕ) (es : List (Key × ℕ)) → flat_map (name_in names directory) es ≡ mapped (λ pair. pair.0) (pairs_in names directory es)
names-pairs names directory [] = refl
names-pairs names directory (e ∷ es) =
    ap (◌++ flat_map (name_in names directory) es) (name_in-pair names directory e)
    ∙ ap (mapped (λ pair. pair.0) (pair_in names directory e) ++◌) (names-pairs names directory es)
    ∙ sym (map-append (pair_in names directory e) (pairs_in names directory es))

pub is_less : (r : Ordering) → T (is_lt r) → r ≡ Less
is_less Less h = refl
is_less Equal h = absurd h
is_less Greater h = absurd h

-- the keys of sorted entries rise
module _ {K X : Type 0} (cmp : K → K → Ordering) where
  keys_below : (key : K) (es : List (K × X)) → T (below_all cmp key es) → AllByRecursion (λ other. cmp key other ≡ Less) (mapped (λ e. e.0) es)
  keys_below key [] h = tt
  keys_below key (e ∷ es) h = (is_less _ (first _ _ h), keys_below key es (second _ _ h))

  keys_rise : (es : List (K × X)) → T (is_sorted cmp es) → IsStrictlySortedBy cmp (mapped (λ e. e.0) es)
  unfolding IsStrictlySortedBy
  keys_rise [] h = tt
  keys_rise (e ∷ es) h = (keys_below e.0 es (first _ _ h), keys_rise es (second _ _ h))

module _ (names : Names) (directory : ℕ) (single : HasAtMostOnePath names directory) where
  abbrev pairs : List (Key × ℕ) → List (List ℕ × ℕ)
  pairs es = flat_map (pair_in names directory) es

  below_pairs : (mount : ℕ) (name : List ℕ) (above : List (List ℕ)) (es : List (Key × ℕ)) → get names (mount, above) ≡ Some directory → T (below_all key_cmp (mount, name ∷ above) es) → T (below_all name_cmp name (pairs es))
  below_pairs mount name above [] led below = tt
  below_pairs mount name above (((other, []), inode) ∷ es) led below = below_pairs mount name above es led (second _ _ below)
  below_pairs mount name above (((other, last ∷ path), inode) ∷ es) led below =
      by (below_pairs mount name above es led (second _ _ below)) (is_there (get names (other, path)) directory) refl
    where
      by : T (below_all name_cmp name (pairs es)) → (b : Bool) → is_there (get names (other, path)) directory ≡ b → T (below_all name_cmp name ((if b then (last, inode) ∷ [] else []) ++ pairs es))
      by rest true e =
          let keys : (mount, above) ≡ (other, path) = single (mount, above) (other, path) led (there_is _ directory e) in
          both _ _ (less_names (nat_cmp mount other) (name_cmp name last) (slice_cmp name_cmp above path)
          (ap (nat_cmp mount) (sym (λ i. (keys i).0)) ∙ tied_itself nat_cmp_total mount)
          (ap (slice_cmp name_cmp above) (sym (λ i. (keys i).1)) ∙ tied_itself (lists_total nat_list_cmp_total) above)
          (first _ _ below)) rest
      by rest false e = rest

  pub sorted_pairs : (es : List (Key × ℕ)) → T (is_sorted key_cmp es) → T (is_sorted name_cmp (pairs es))
  sorted_pairs [] sorted = tt
  sorted_pairs (((mount, []), inode) ∷ es) sorted = sorted_pairs es (second _ _ sorted)
  sorted_pairs (((mount, name ∷ above), inode) ∷ es) sorted = by (sorted_pairs es (second _ _ sorted)) (is_there (get names (mount, above)) directory) refl
    where
      by : T (is_sorted name_cmp (pairs es)) → (b : Bool) → is_there (get names (mount, above)) directory ≡ b → T (is_sorted name_cmp ((if b then (name, inode) ∷ [] else []) ++ pairs es))
      by rest true e = both _ _ (below_pairs mount name above es (there_is _ directory e) (first _ _ sorted)) rest
      by rest false e = rest

  pub names_rise : IsStrictlySortedBy name_cmp (names_in names directory)
  names_rise =
      subst (IsStrictlySortedBy name_cmp) (sym (names-pairs names directory (entries names)))
      (keys_rise name_cmp (pairs (entries names)) (sorted_pairs (entries names) (entries_sorted names)))
