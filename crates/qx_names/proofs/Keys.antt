-- What paths lead to, once a path has come or gone; and the names in a directory are those that paths have behind it.
use Rattle.std.proofs.Common.{◌≡◌, ◌≢◌, ◌⊎◌, inl, inr, ℕ, suc, Bool, true, false, List, length, cond, refl, sym, ap, ◌∙◌, arith, T, [], ◌∷◌, ◌++◌}
use Rattle.std.specs.Prelude.{Some, None, if◌then◌else◌}
use Rattle.std.specs.Cmp.{tied_itself}
use Rattle.std.specs.FinMap.{get, insert, remove, entries, entries_sorted, get-entries}
use Rattle.std.specs.Ordering.{eq_by_cmp, is_eq, ordering_reverse}
use Rattle.std.proofs.lemmas.Option.{same_Some}
use Rattle.qx_machine.specs.Names.{Key, Names, key_cmp, root_key, under, is_there, name_in, names_in}
use Rattle.std.specs.FinMap.Entries.{below_all, find, is_sorted}
use Rattle.std.specs.List.{AllByRecursion, flat_map}
use Rattle.std.proofs.lemmas.Bool.{eq-eqb}
use Rattle.qx_names.specs.inner.Shows.{key_total, key-IsAntisymmetric}
use Rattle.qx_names.proofs.MapLemmas.{inserted, inserted_apart, is_equal, removed, removed_apart, same_or_not}
use Rattle.qx_machine.proofs.Directories.{first, is_less, second, there_is}

same_key : (one two : Key) → eq_by_cmp key_cmp one two ≡ true → one ≡ two
same_key one two e = key-IsAntisymmetric one two (is_equal _ e)

key_self : (key : Key) → eq_by_cmp key_cmp key key ≡ true
key_self key = ap is_eq (tied_itself key_total key)

-- a mount's root is in no directory
pub not_root : (root : ℕ) (directory : Key) (name : List ℕ) → under directory name ≡ root_key root → ⊥
not_root root directory name same = let lengths : suc (length directory.1) ≡ 0 = ap (λ (key : Key). length key.1) same in omega (arith, lengths)

module _ (names : Names) (key : Key) where
  pub insert-cases : (inode : ℕ) (other : Key) (m : ℕ) → get (insert names key inode) other ≡ Some m → ((other ≡ key) × (inode ≡ m)) ⊎ (get names other ≡ Some m)
  insert-cases inode other m leads = elim (same_or_not key_total key-IsAntisymmetric other key) [
    | inl same ↦ inl (same, same_Some _ _ (sym (inserted key_total key-IsAntisymmetric names key inode) ∙ (ap (get (insert names key inode)) (sym same) ∙ leads)))
    | inr apart ↦ inr (sym (inserted_apart key_total key-IsAntisymmetric names key inode other apart) ∙ leads)
  ]

  pub insert-at : (inode : ℕ) → get (insert names key inode) key ≡ Some inode
  insert-at inode = inserted key_total key-IsAntisymmetric names key inode

  pub insert-other : (inode : ℕ) (other : Key) (m : ℕ) → get names key ≡ None → get names other ≡ Some m → get (insert names key inode) other ≡ Some m
  insert-other inode other m missing leads = inserted_apart key_total key-IsAntisymmetric names key inode other (λ same. let both : None ≡ Some m = sym missing ∙ (ap (get names) (sym same) ∙ leads) in cc) ∙ leads

  pub remove-at : get (remove names key) key ≡ None
  remove-at = removed key_total key-IsAntisymmetric names key

  pub remove-kept : (other : Key) (m : ℕ) → get (remove names key) other ≡ Some m → (get names other ≡ Some m) × (other ≢ key)
  remove-kept other m leads = elim (same_or_not key_total key-IsAntisymmetric other key) [
    | inl same ↦ let none : None ≡ Some m = sym (removed key_total key-IsAntisymmetric names key) ∙ (ap (get (remove names key)) (sym same) ∙ leads) in absurd (cc)
    | inr apart ↦ (sym (removed_apart key_total key-IsAntisymmetric names key other apart) ∙ leads, apart)
  ]

  pub remove-other : (other : Key) (m : ℕ) → get names other ≡ Some m → other ≢ key → get (remove names key) other ≡ Some m
  remove-other other m leads apart = removed_apart key_total key-IsAntisymmetric names key other apart ∙ leads

-- ---- entries are found

-- each of the first entries is found among the second
abbrev AreFound : List (Key × ℕ) → List (Key × ℕ) → Type 0
AreFound es all = AllByRecursion (λ (e : Key × ℕ). find key_cmp e.0 all ≡ Some e.1) es

found_later : (e : Key × ℕ) (es all : List (Key × ℕ)) → T (below_all key_cmp e.0 es) → AreFound es all → AreFound es (e ∷ all)
found_later e [] all below found = tt
found_later e (x ∷ es) all below found =
    let less = is_less _ (first _ _ below) in
    let apart : eq_by_cmp key_cmp x.0 e.0 ≡ false = ap is_eq (key_total.antisymm x.0 e.0 ∙ ap ordering_reverse less) in
    (ap (λ b. cond b (Some e.1) (find key_cmp x.0 all)) apart ∙ found.0, found_later e es all (second _ _ below) found.1)

all_found : (es : List (Key × ℕ)) → T (is_sorted key_cmp es) → AreFound es es
all_found [] sorted = tt
all_found (e ∷ es) sorted = (ap (λ b. cond b (Some e.1) (find key_cmp e.0 es)) (key_self e.0), found_later e es es (first _ _ sorted) (all_found es (second _ _ sorted)))

-- ---- the names in a directory

module _ (names : Names) (directory : ℕ) where
  module _ (P : List ℕ → Type 0) (holds : (key : Key) (name : List ℕ) (inode : ℕ) → get names (under key name) ≡ Some inode → get names key ≡ Some directory → P name) where
    each-name : (es : List (Key × ℕ)) → AreFound es (entries names) → AllByRecursion P (flat_map (name_in names directory) es)
    each-name [] found = tt
    each-name (((root, []), inode) ∷ es) found = each-name es found.1
    each-name (((root, name ∷ above), inode) ∷ es) found = by (each-name es found.1) (is_there (get names (root, above)) directory) refl
      where
        by : AllByRecursion P (flat_map (name_in names directory) es) → (b : Bool) → is_there (get names (root, above)) directory ≡ b → AllByRecursion P ((if b then name ∷ [] else []) ++ flat_map (name_in names directory) es)
        by rest true is = (holds (root, above) name inode (get-entries names (root, name ∷ above) ∙ found.0) (there_is _ directory is), rest)
        by rest false is = rest

    -- what holds of each name that a path has behind the directory holds of the names in it
    pub all_names : AllByRecursion P (names_in names directory)
    all_names = each-name (entries names) (all_found (entries names) (entries_sorted names))

  module _ (key : Key) (leads : get names key ≡ Some directory) (name : List ℕ) where
    not_empty : (es : List (Key × ℕ)) (inode : ℕ) → find key_cmp (under key name) es ≡ Some inode → flat_map (name_in names directory) es ≡ [] → ⊥
    not_empty [] inode found none = cc
    not_empty (e ∷ es) inode found none = by (λ is empty. not_empty es inode is empty) (eq_by_cmp key_cmp (under key name) e.0) refl found
      where
        rest : (xs ys : List (List ℕ)) → xs ++ ys ≡ [] → ys ≡ []
        rest [] ys is = is
        rest (x ∷ xs) ys is = absurd (cc)

        at : (e : Key × ℕ) → under key name ≡ e.0 → name_in names directory e ++ flat_map (name_in names directory) es ≡ [] → ⊥
        at e same is =
            let here : name_in names directory e ≡ name ∷ [] = ap (λ k. name_in names directory (k, e.1)) (sym same) ∙ ap (λ b. if b then name ∷ [] else []) (ap (λ there. is_there there directory) leads ∙ eq-eqb directory directory refl) in
            let some : name ∷ flat_map (name_in names directory) es ≡ [] = ap (λ xs. xs ++ flat_map (name_in names directory) es) (sym here) ∙ is in
            cc

        by : (find key_cmp (under key name) es ≡ Some inode → flat_map (name_in names directory) es ≡ [] → ⊥) → (b : Bool) → eq_by_cmp key_cmp (under key name) e.0 ≡ b → cond b (Some e.1) (find key_cmp (under key name) es) ≡ Some inode → ⊥
        by again true same is = at e (same_key (under key name) e.0 same) none
        by again false same is = again is (rest (name_in names directory e) (flat_map (name_in names directory) es) none)

    -- an empty directory has nothing behind it
    pub nothing_behind : names_in names directory ≡ [] → (inode : ℕ) → get names (under key name) ≡ Some inode → ⊥
    nothing_behind none inode leads = not_empty (entries names) inode (sym (get-entries names (under key name)) ∙ leads) none
