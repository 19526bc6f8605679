-- The entries of one directory among those of all.
use Rattle.std.specs.Prelude.{ℕ, ◌==◌, List, [], ◌∷◌, Some, None, filter, map as mapped}
use Rattle.std.specs.FinMap as map
use Rattle.std.specs.FinMap.Entries.{below_all, find, is_sorted}
use Rattle.std.specs.Ordering.{eq_by_cmp, is_eq}
use Rattle.std.specs.declared.cmp.Ordering.TheVariants.{Less}
use Rattle.std.proofs.Common.{◌≡◌, Bool, true, false, T, cond, ap, refl, sym, ◌∙◌}
use Rattle.std.proofs.lemmas.Bool.{eq-eqb, eqb-true}
use Rattle.qx_machine.proofs.Directories.{first, is_less, name_cmp, second}
use Rattle.qx_names.specs.inner.Children.{Entry, IsRising}
use Rattle.qx_names.specs.inner.Folders.{Changes, Entries, Moves, Place, entry_at, names_of, place_cmp}
use Rattle.qx_names.proofs.MapLemmas.{inserted, inserted_apart, removed, removed_apart, untied}
use Rattle.qx_names.proofs.RisingLemmas.{both, less_than, place_total, places_same, same_directory}

-- the names of a directory, with what they name
abbrev pub pairs_of : ℕ → List Entry → List (List ℕ × ℕ)
pairs_of directory es = mapped (λ entry. (entry.0.1, entry.1)) (filter (λ entry. entry.0.0 == directory) es)

true_false : true ≡ false → ⊥
true_false e = cc

pub pairs-names : (directory : ℕ) (es : List Entry) → mapped (λ (pair : List ℕ × ℕ). pair.0) (pairs_of directory es) ≡ names_of directory es
pairs-names directory [] = refl
pairs-names directory (head ∷ es) = by (pairs-names directory es) (head.0.0 == directory) refl
  where
    by : mapped (λ (pair : List ℕ × ℕ). pair.0) (pairs_of directory es) ≡ names_of directory es → (b : Bool) → (head.0.0 == directory) ≡ b → mapped (λ (pair : List ℕ × ℕ). pair.0) (pairs_of directory (head ∷ es)) ≡ names_of directory (head ∷ es)
    by rest true e = rw e (ap (λ xs. head.0.1 ∷ xs) rest)
    by rest false e = rw e rest

below_pairs : (directory : ℕ) (head : Entry) (es : List Entry) → (head.0.0 == directory) ≡ true → T (below_all place_cmp head.0 es) → T (below_all name_cmp head.0.1 (pairs_of directory es))
below_pairs directory head [] here below = tt
below_pairs directory head (next ∷ es) here below = by (below_pairs directory head es here (second _ _ below)) (next.0.0 == directory) refl
  where
    by : T (below_all name_cmp head.0.1 (pairs_of directory es)) → (b : Bool) → (next.0.0 == directory) ≡ b → T (below_all name_cmp head.0.1 (pairs_of directory (next ∷ es)))
    by rest true e =
        let place : head.0 ≡ (directory, head.0.1) = let same = eqb-true head.0.0 directory here in λ i. (same i, head.0.1) in
        let less : name_cmp head.0.1 next.0.1 ≡ Less = sym (same_directory directory head.0.1 next.0 e) ∙ ap (λ p. place_cmp p next.0) (sym place) ∙ is_less _ (first _ _ below) in
        rw e (both _ _ (less_than _ less) rest)
    by rest false e = rw e rest

pub sorted-pairs : (directory : ℕ) (es : List Entry) → IsRising es → T (is_sorted name_cmp (pairs_of directory es))
sorted-pairs directory [] rising = tt
sorted-pairs directory (head ∷ es) rising = by (sorted-pairs directory es (second _ _ rising)) (head.0.0 == directory) refl
  where
    by : T (is_sorted name_cmp (pairs_of directory es)) → (b : Bool) → (head.0.0 == directory) ≡ b → T (is_sorted name_cmp (pairs_of directory (head ∷ es)))
    by rest true e = rw e (both _ _ (below_pairs directory head es e (first _ _ rising)) rest)
    by rest false e = rw e rest

pub find-pairs : (directory : ℕ) (name : List ℕ) (es : List Entry) → find name_cmp name (pairs_of directory es) ≡ find place_cmp (directory, name) es
find-pairs directory name [] = refl
find-pairs directory name (head ∷ es) = by (find-pairs directory name es) (head.0.0 == directory) refl
  where
    by : find name_cmp name (pairs_of directory es) ≡ find place_cmp (directory, name) es → (b : Bool) → (head.0.0 == directory) ≡ b → find name_cmp name (pairs_of directory (head ∷ es)) ≡ find place_cmp (directory, name) (head ∷ es)
    by rest true e =
        ap (λ b. find name_cmp name (mapped (λ (entry : Entry). (entry.0.1, entry.1)) (cond b (head ∷ filter (λ (entry : Entry). entry.0.0 == directory) es) (filter (λ (entry : Entry). entry.0.0 == directory) es)))) e
        ∙ ap (cond (eq_by_cmp name_cmp name head.0.1) (Some head.1)) rest
        ∙ ap (λ r. cond (is_eq r) (Some head.1) (find place_cmp (directory, name) es)) (sym (same_directory directory name head.0 e))
    by rest false e =
        ap (λ b. find name_cmp name (mapped (λ (entry : Entry). (entry.0.1, entry.1)) (cond b (head ∷ filter (λ (entry : Entry). entry.0.0 == directory) es) (filter (λ (entry : Entry). entry.0.0 == directory) es)))) e
        ∙ rest
        ∙ ap (λ b. cond b (Some head.1) (find place_cmp (directory, name) es)) (sym (untied place_total places_same (directory, name) head.0 (λ p. true_false (sym (ap (λ (q : Place). q.0 == directory) (sym p) ∙ eq-eqb directory directory refl) ∙ e))))

-- ---- what changes with one entry

apart_of : (one two : Place) → (one.0 ≡ two.0 → one.1 ≡ two.1 → ⊥) → one ≡ two → ⊥
apart_of one two apart e = apart (λ i. (e i).0) (λ i. (e i).1)

pub insert-changes : (old new : Entries) (directory : ℕ) (name : List ℕ) (inode : ℕ) → new ≡ map.insert old (directory, name) inode → Changes (entry_at old) (entry_at new) directory name (Some inode)
insert-changes old new directory name inode e = record {
  here = ap (λ (m : Entries). map.get m (directory, name)) e ∙ inserted place_total places_same old (directory, name) inode;
  others = λ other last apart. ap (λ (m : Entries). map.get m (other, last)) e ∙ inserted_apart place_total places_same old (directory, name) inode (other, last) (apart_of (other, last) (directory, name) apart);
}

pub remove-changes : (old new : Entries) (directory : ℕ) (name : List ℕ) → new ≡ map.remove old (directory, name) → Changes (entry_at old) (entry_at new) directory name None
remove-changes old new directory name e = record {
  here = ap (λ (m : Entries). map.get m (directory, name)) e ∙ removed place_total places_same old (directory, name);
  others = λ other last apart. ap (λ (m : Entries). map.get m (other, last)) e ∙ removed_apart place_total places_same old (directory, name) (other, last) (apart_of (other, last) (directory, name) apart);
}

some_none : (inode : ℕ) → Some inode ≡ None → ⊥
some_none inode e = cc

pub rename-moves : (old new : Entries) (from : ℕ) (last : List ℕ) (to : ℕ) (next : List ℕ) (inode : ℕ) → entry_at old from last ≡ Some inode → entry_at old to next ≡ None → new ≡ map.insert (map.remove old (from, last)) (to, next) inode → Moves (entry_at old) (entry_at new) from last to next inode
rename-moves old new from last to next inode there free e = record {
  here = ap (λ (m : Entries). map.get m (to, next)) e ∙ inserted place_total places_same (map.remove old (from, last)) (to, next) inode;
  gone = ap (λ (m : Entries). map.get m (from, last)) e
      ∙ inserted_apart place_total places_same (map.remove old (from, last)) (to, next) inode (from, last) (λ p. some_none inode (sym there ∙ ap (map.get old) p ∙ free))
      ∙ removed place_total places_same old (from, last);
  others = λ other name not_from not_to.
      ap (λ (m : Entries). map.get m (other, name)) e
      ∙ inserted_apart place_total places_same (map.remove old (from, last)) (to, next) inode (other, name) (apart_of (other, name) (to, next) not_to)
      ∙ removed_apart place_total places_same old (from, last) (other, name) (apart_of (other, name) (from, last) not_from);
}

-- to an entry that is not there nothing comes
pub stays : (old new : Entries) → new ≡ old → entry_at new ≡ entry_at old
stays old new e = ap entry_at e
