-- The names in a directory: those of its entries.
use Rattle.std.specs.Prelude.{ℕ, suc, List, [], ◌∷◌, ◌++◌, Option, Some, None, map as mapped, length, if◌then◌else◌}
use Rattle.std.specs.Cmp.Lexicographic.{slice_cmp, lists_total, nat_list_cmp_total}
use Rattle.std.specs.Cmp.{nat_cmp_total, tied_itself}
use Rattle.std.specs.FinMap.{entries, entries_sorted, get, get-entries}
use Rattle.std.specs.FinMap.Entries.{find, is_sorted, same_entries}
use Rattle.std.specs.Ordering.{eq_by_cmp, is_eq, ordering_then}
use Rattle.std.specs.declared.cmp.Ordering.{Ordering}
use Rattle.std.specs.declared.cmp.Ordering.TheVariants.{Less, Equal, Greater}
use Rattle.std.proofs.Common.{◌≡◌, Bool, true, false, T, cond, ap, refl, sym, ◌∙◌, arith}
use Rattle.std.proofs.lemmas.Bool.{eq-eqb}
use Rattle.qx_machine.specs.Listings.{HasAtMostOnePath}
use Rattle.qx_machine.specs.Names.{Key, Names, is_there, key_cmp, names_in, under}
use Rattle.qx_machine.proofs.Directories.{name_cmp, names-pairs, pairs_in, sorted_pairs, there_is}
use Rattle.qx_names.specs.Paths.{HasNoPath, path_of}
use Rattle.qx_names.specs.inner.Shows.{Shows, key_total, key-IsAntisymmetric}
use Rattle.qx_names.proofs.RisingLemmas.{names_same}
use Rattle.qx_names.proofs.MapLemmas.{untied}
use Rattle.qx_names.proofs.PathLemmas.{is_named}
use Rattle.qx_names.proofs.ShowsLemmas.{entry_under, no_entries}

not_there : (x : Option ℕ) (directory : ℕ) → (x ≡ Some directory → ⊥) → is_there x directory ≡ false
not_there x directory apart = by (is_there x directory) refl
  where
    by : (b : Bool) → is_there x directory ≡ b → is_there x directory ≡ false
    by true e = absurd (apart (there_is x directory e))
    by false e = e

is_there-Some : (directory : ℕ) → is_there (Some directory) directory ≡ true
is_there-Some directory = eq-eqb directory directory refl

true_false : true ≡ false → ⊥
true_false e = cc

then_Equal : (r : Ordering) → is_eq (ordering_then r Equal) ≡ is_eq r
then_Equal Less = refl
then_Equal Equal = refl
then_Equal Greater = refl

abbrev above : Key → Key
above (mount, []) = (mount, [])
above (mount, name ∷ path) = (mount, path)

module _ (root : ℕ → Bool) (entry : ℕ → List ℕ → Option ℕ) (names : Names) (s : Shows root entry names) (directory : ℕ) where
  abbrev pairs : List (Key × ℕ) → List (List ℕ × ℕ)
  pairs = pairs_in names directory

  abbrev single : HasAtMostOnePath names directory
  single one two = s.single one two directory

  -- where a path leads to the directory, its names are found under that path
  find_pairs : (key : Key) → get names key ≡ Some directory → (name : List ℕ) (es : List (Key × ℕ)) → find name_cmp name (pairs es) ≡ find key_cmp (under key name) es
  find_pairs key led name [] = refl
  find_pairs key led name (((other, []), inode) ∷ es) =
      find_pairs key led name es ∙ sym (ap (λ b. cond b (Some inode) (find key_cmp (under key name) es)) (untied key_total key-IsAntisymmetric (under key name) (other, []) (λ e. no_cons e)))
    where
      no_cons : under key name ≡ (other, []) → ⊥
      no_cons e = let lengths : suc (length key.1) ≡ 0 = ap (λ (k : Key). length k.1) e in omega (arith, lengths)
  find_pairs key led name (((other, last ∷ path), inode) ∷ es) = by (find_pairs key led name es) (is_there (get names (other, path)) directory) refl
    where
      tied_under : (key : Key) (one two : List ℕ) → eq_by_cmp name_cmp one two ≡ eq_by_cmp key_cmp (under key one) (under key two)
      tied_under key one two =
          sym (ap (λ r. is_eq (ordering_then r (ordering_then (name_cmp one two) (slice_cmp name_cmp key.1 key.1)))) (tied_itself nat_cmp_total key.0)
          ∙ ap (λ r. is_eq (ordering_then (name_cmp one two) r)) (tied_itself (lists_total nat_list_cmp_total) key.1) ∙ then_Equal (name_cmp one two))

      by : find name_cmp name (pairs es) ≡ find key_cmp (under key name) es → (b : Bool) → is_there (get names (other, path)) directory ≡ b
          → find name_cmp name ((if b then (last, inode) ∷ [] else []) ++ pairs es) ≡ find key_cmp (under key name) (((other, last ∷ path), inode) ∷ es)
      by rest true e =
          let keys : key ≡ (other, path) = s.single key (other, path) directory led (there_is _ directory e) in
          ap (cond (eq_by_cmp name_cmp name last) (Some inode)) rest
          ∙ ap (λ b. cond b (Some inode) (find key_cmp (under key name) es)) (tied_under key name last ∙ ap (λ k. eq_by_cmp key_cmp (under key name) (under k last)) keys)
      by rest false e =
          rest ∙ sym (ap (λ b. cond b (Some inode) (find key_cmp (under key name) es)) (untied key_total key-IsAntisymmetric (under key name) (other, last ∷ path) (λ p.
          true_false (sym (is_there-Some directory) ∙ ap (λ x. is_there x directory) (sym led ∙ ap (get names) (λ i. above (p i))) ∙ e))))

  -- where no path leads to the directory, it has no names
  no_pairs : HasNoPath names directory → (es : List (Key × ℕ)) → pairs es ≡ []
  no_pairs unnamed [] = refl
  no_pairs unnamed (((other, []), inode) ∷ es) = no_pairs unnamed es
  no_pairs unnamed (((other, last ∷ path), inode) ∷ es) =
      ap (λ b. (if b then (last, inode) ∷ [] else []) ++ pairs es) (not_there (get names (other, path)) directory (unnamed (other, path))) ∙ no_pairs unnamed es

  find-names : (name : List ℕ) → find name_cmp name (pairs (entries names)) ≡ entry directory name
  find-names name = by (is_there (get names (path_of names directory)) directory) refl
    where
      by : (b : Bool) → is_there (get names (path_of names directory)) directory ≡ b → find name_cmp name (pairs (entries names)) ≡ entry directory name
      by true e =
          let led = there_is _ directory e in
          find_pairs (path_of names directory) led name (entries names) ∙ sym (get-entries names (under (path_of names directory) name)) ∙ entry_under root entry names s (path_of names directory) directory name led
      by false e =
          let unnamed : HasNoPath names directory = λ key at. true_false (sym (is_there-Some directory) ∙ ap (λ x. is_there x directory) (sym (is_named names key directory at)) ∙ e) in
          ap (find name_cmp name) (no_pairs unnamed (entries names)) ∙ sym (no_entries root entry names s directory unnamed name)

  -- the names in a directory are those of its entries
  pub names_are_those : (es : List (List ℕ × ℕ)) → T (is_sorted name_cmp es) → ((name : List ℕ) → find name_cmp name es ≡ entry directory name) → names_in names directory ≡ mapped (λ pair. pair.0) es
  names_are_those es sorted gives =
      names-pairs names directory (entries names)
      ∙ ap (mapped (λ pair. pair.0)) (same_entries name_cmp nat_list_cmp_total names_same (pairs (entries names)) es (sorted_pairs names directory single (entries names) (entries_sorted names)) sorted (λ name. find-names name ∙ sym (gives name)))

  no_first : (xs : List (List ℕ × ℕ)) → mapped (λ (pair : List ℕ × ℕ). pair.0) xs ≡ [] → xs ≡ []
  no_first [] e = refl
  no_first (x ∷ xs) e = cc

  -- a directory with no names has no entries
  pub empty_alone : names_in names directory ≡ [] → (name : List ℕ) → entry directory name ≡ None
  empty_alone e name = sym (find-names name) ∙ ap (find name_cmp name) (no_first (pairs (entries names)) (sym (names-pairs names directory (entries names)) ∙ e))
