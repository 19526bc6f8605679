-- Whether a directory has entries, by what stands right behind the empty name.
use Rattle.std.specs.Prelude.{ℕ, suc, ◌==◌, List, [], ◌∷◌, Some, None, drop, length, slice_get}
use Rattle.std.specs.FinMap as map
use Rattle.std.specs.FinMap.Entries.{find}
use Rattle.std.proofs.Common.{◌≡◌, Bool, true, false, not, ap, arith, refl, sym, ◌∙◌}
use Rattle.std.proofs.lemmas.Bool.{eqb-false, eqb-true, ne_eqb}
use Rattle.qx_lists.specs.Table.{Table}
use Rattle.qx_machine.specs.Names.{is_empty, names_behind}
use Rattle.qx_names.specs.inner.Children.{Children, Entry, IsRising, count_to, entries_of}
use Rattle.qx_names.specs.inner.Folders.{names_of, place_cmp}
use Rattle.qx_names.proofs.IndexLemmas.{entry-index}
use Rattle.qx_names.proofs.ListingLemmas.{none_from, other_from}
use Rattle.qx_names.proofs.RisingLemmas.{names_behind-count, none_at_all, one_at_least}

pub not-empty : (names : List (List ℕ)) → (names ≡ [] → ⊥) → is_empty names ≡ false
not-empty [] some = absurd (some refl)
not-empty (name ∷ names) some = ne_eqb (suc (length names)) 0 (λ e. omega (arith, e))

pub is-empty : (names : List (List ℕ)) → names ≡ [] → is_empty names ≡ true
is-empty [] none = refl
is-empty (name ∷ names) none = cc

module _ (t : Table Entry) (children : Children) (rising : IsRising (entries_of t children)) (directory place : ℕ) (counted : place ≡ count_to (directory, []) (entries_of t children)) (no_empty : find place_cmp (directory, []) (entries_of t children) ≡ None) where
  behind : names_behind [] (names_of directory (entries_of t children)) ≡ names_of directory (drop place (entries_of t children))
  behind = names_behind-count directory [] (entries_of t children) rising ∙ ap (λ n. names_of directory (drop n (entries_of t children))) (sym counted)

  pub none-behind : slice_get children.nodes place ≡ None → is_empty (names_of directory (entries_of t children)) ≡ true
  none-behind none = is-empty _ (none_at_all directory (entries_of t children) no_empty (behind ∙ none_from t children directory place none))

  module _ (node : ℕ) (entry : Entry) (is : slice_get children.nodes place ≡ Some node) (value : map.get t.values node ≡ Some entry) where
    pub told-behind : is_empty (names_of directory (entries_of t children)) ≡ not (entry.0.0 == directory)
    told-behind = by (entry.0.0 == directory) refl
      where
        by : (b : Bool) → (entry.0.0 == directory) ≡ b → is_empty (names_of directory (entries_of t children)) ≡ not b
        by true e = not-empty _ (one_at_least directory entry.0.1 (entries_of t children) place entry.1 (entry-index t children.nodes place node entry is value ∙ ap (λ d. Some ((d, entry.0.1), entry.1)) (eqb-true entry.0.0 directory e)))
        by false e = is-empty _ (none_at_all directory (entries_of t children) no_empty (behind ∙ other_from t children directory place node entry is value [] rising (omega (arith, counted)) (eqb-false entry.0.0 directory e)))
