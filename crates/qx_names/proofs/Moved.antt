-- Names once each path that begins with one begins with another.
use Rattle.std.proofs.Common.{◌≡◌, ◌⊎◌, inl, inr, ℕ, suc, ◌≤◌, Bool, true, false, List, [], ◌∷◌, length, map as mapped, cond, refl, sym, ap, ◌∙◌, arith}
use Rattle.std.specs.Prelude.{Some, None, slice_get}
use Rattle.std.specs.FinMap.{entries, entries_sorted, get, get-entries, get-from_entries}
use Rattle.std.specs.FinMap.Entries.{find}
use Rattle.std.specs.Ordering.{eq_by_cmp}
use Rattle.qx_machine.specs.Listings.{HasAtMostOnePath}
use Rattle.qx_machine.specs.Names.{Key, Names, is_below, key_cmp, moved, moved_entry, root_key, under}
use Rattle.qx_names.specs.inner.Shows.{key_total, key-IsAntisymmetric}
use Rattle.qx_names.proofs.MapLemmas.{is_equal, same_or_not}
use Rattle.qx_names.proofs.MovedLemmas.{found_gone, found_stands, go, go_apart, go_here, stands_found, still}
use Rattle.qx_names.proofs.Keys.{not_root}

abbrev Stands : List (Key × ℕ) → Key × ℕ → Type 0
Stands es e = (i : ℕ) × (slice_get es i ≡ Some e)

-- what is found among entries under other keys was one of them
found_came : (from to : Key) (es : List (Key × ℕ)) (key : Key) (value : ℕ) → find key_cmp key (mapped (moved_entry from to) es) ≡ Some value → (e : Key × ℕ) × (Stands es e × ((go from to e.0 ≡ key) × (e.1 ≡ value)))
found_came from to [] key value e = cc
found_came from to (head ∷ es) key value e = by (found_came from to es key value) (eq_by_cmp key_cmp key (go from to head.0)) refl e
  where
    by : (find key_cmp key (mapped (moved_entry from to) es) ≡ Some value → (e : Key × ℕ) × (Stands es e × ((go from to e.0 ≡ key) × (e.1 ≡ value)))) → (b : Bool) → eq_by_cmp key_cmp key (go from to head.0) ≡ b
        → cond b (Some head.1) (find key_cmp key (mapped (moved_entry from to) es)) ≡ Some value → (e : Key × ℕ) × (Stands (head ∷ es) e × ((go from to e.0 ≡ key) × (e.1 ≡ value)))
    by rest true p q = (head, ((0, refl), (sym (key-IsAntisymmetric _ _ (is_equal _ p)), let both : Some head.1 ≡ Some value = q in cc)))
    by rest false p q = let later = rest q in (later.0, ((suc later.1.0.0, later.1.0.1), later.1.1))

-- what leads somewhere now is what such a path became
pub was_led : (names : Names) (from to : Key) (key : Key) (value : ℕ) → get (moved names from to) key ≡ Some value → (old : Key) × ((get names old ≡ Some value) × (go from to old ≡ key))
was_led names from to key value e =
    let came = found_came from to (entries names) key value (sym (get-from_entries key_total (mapped (moved_entry from to) (entries names)) key) ∙ e) in
    let there : get names came.0.0 ≡ Some came.0.1 = get-entries names came.0.0 ∙ stands_found key_total key-IsAntisymmetric (entries names) came.0 came.1.0.0 (entries_sorted names) came.1.0.1 in
    (came.0.0, (there ∙ ap Some came.1.1.1, came.1.1.0))

abbrev first_of : List (List ℕ) → List ℕ
first_of [] = []
first_of (name ∷ above) = name

abbrev rest_of : List (List ℕ) → List (List ℕ)
rest_of [] = []
rest_of (name ∷ above) = above

pub above_same : (one two : Key) (last next : List ℕ) → under one last ≡ under two next → one ≡ two
above_same one two last next e = λ i. ((e i).0, rest_of (e i).1)

pub name_same : (one two : Key) (last next : List ℕ) → under one last ≡ under two next → last ≡ next
name_same one two last next e = λ i. first_of (e i).1

some_same : (one two : ℕ) → Some one ≡ Some two → one ≡ two
some_same one two e = cc

module _ (names : Names) (single : (inode : ℕ) → HasAtMostOnePath names inode) (tree : (above : Key) (name : List ℕ) (inode : ℕ) → get names (under above name) ≡ Some inode → (directory : ℕ) × (get names above ≡ Some directory)) (one two : Key) (last next : List ℕ) (free : get names (under two next) ≡ None) (outside : is_below (under one last) two.0 (next ∷ two.1) ≡ false) where
  abbrev from : Key
  from = under one last

  abbrev to : Key
  to = under two next

  pub two_stays : go from to two ≡ two
  two_stays = still from to two.0 next two.1 outside

  -- a path stays, or gets no shorter than the new one
  long : (mount : ℕ) (path : List (List ℕ)) → (go from to (mount, path) ≡ (mount, path)) ⊎ (length to.1 ≤ length (go from to (mount, path)).1)
  long mount [] = inl refl
  long mount (name ∷ above) = by (long mount above) (same_or_not key_total key-IsAntisymmetric (mount, name ∷ above) from)
    where
      by : ((go from to (mount, above) ≡ (mount, above)) ⊎ (length to.1 ≤ length (go from to (mount, above)).1)) → (((mount, name ∷ above) ≡ from) ⊎ ((mount, name ∷ above) ≡ from → ⊥))
          → (go from to (mount, name ∷ above) ≡ (mount, name ∷ above)) ⊎ (length to.1 ≤ length (go from to (mount, name ∷ above)).1)
      by rest (inl p) = inr (let same = ap (λ (k : Key). length k.1) (go_here from to mount name above p) in omega (arith, same))
      by (inl stays) (inr p) = inl (go_apart from to mount name above p ∙ ap (λ k. under k name) stays)
      by (inr more) (inr p) = inr (let same = ap (λ (k : Key). length k.1) (go_apart from to mount name above p) in omega (arith, same, more))

  -- what becomes the new directory's path is that path
  to_two : (key : Key) → go from to key ≡ two → key ≡ two
  to_two key e = elim (long key.0 key.1) [
    | inl stays ↦ sym stays ∙ e
    | inr more ↦ absurd (let same = ap (λ (k : Key). length k.1) e in omega (arith, same, more))
  ]

  -- and nothing that leads somewhere becomes the new path but the old one
  to_new : (above : Key) (name : List ℕ) (inode : ℕ) → get names (under above name) ≡ Some inode → (under above name ≡ from → ⊥) → go from to (under above name) ≡ to → ⊥
  to_new above name inode leads apart e =
      let pushed : under (go from to above) name ≡ to = sym (go_apart from to above.0 name above.1 apart) ∙ e in
      let directory : above ≡ two = to_two above (above_same (go from to above) two name next pushed) in
      let here : under above name ≡ to = λ i. under (directory i) (name_same (go from to above) two name next pushed i) in
      let clash : Some inode ≡ None = sym leads ∙ ap (get names) here ∙ free in
      cc

  no_root : (mount : ℕ) (above : Key) (name : List ℕ) (inode : ℕ) → get names (under above name) ≡ Some inode → go from to (under above name) ≡ root_key mount → ⊥
  no_root mount above name inode leads e = by (same_or_not key_total key-IsAntisymmetric (under above name) from)
    where
      by : ((under above name ≡ from) ⊎ (under above name ≡ from → ⊥)) → ⊥
      by (inl p) = let lengths = ap (λ (k : Key). length k.1) (sym (go_here from to above.0 name above.1 p) ∙ e) in omega (arith, lengths)
      by (inr p) = let lengths = ap (λ (k : Key). length k.1) (sym (go_apart from to above.0 name above.1 p) ∙ e) in omega (arith, lengths)

  -- two paths that lead somewhere do not become one
  apart : (mount : ℕ) (path : List (List ℕ)) (value : ℕ) → get names (mount, path) ≡ Some value → (other : ℕ) (way : List (List ℕ)) (found : ℕ) → get names (other, way) ≡ Some found → go from to (mount, path) ≡ go from to (other, way) → ◌≡◌ {A = Key} (mount, path) (other, way)
  apart mount [] value leads other [] found led e = e
  apart mount [] value leads other (name ∷ above) found led e = absurd (no_root mount (other, above) name found led (sym e))
  apart mount (name ∷ above) value leads other [] found led e = absurd (no_root other (mount, above) name value leads e)
  apart mount (name ∷ above) value leads other (next_name ∷ way) found led e = by (λ d p d' p' q. apart mount above d p other way d' p' q) (same_or_not key_total key-IsAntisymmetric (mount, name ∷ above) from) (same_or_not key_total key-IsAntisymmetric (other, next_name ∷ way) from)
    where
      by : ((d : ℕ) → get names (mount, above) ≡ Some d → (d' : ℕ) → get names (other, way) ≡ Some d' → go from to (mount, above) ≡ go from to (other, way) → ◌≡◌ {A = Key} (mount, above) (other, way)) → (((mount, name ∷ above) ≡ from) ⊎ ((mount, name ∷ above) ≡ from → ⊥)) → (((other, next_name ∷ way) ≡ from) ⊎ ((other, next_name ∷ way) ≡ from → ⊥))
          → ◌≡◌ {A = Key} (mount, name ∷ above) (other, next_name ∷ way)
      by rest (inl p) (inl q) = p ∙ sym q
      by rest (inl p) (inr q) = absurd (to_new (other, way) next_name found led q (sym e ∙ go_here from to mount name above p))
      by rest (inr p) (inl q) = absurd (to_new (mount, above) name value leads p (e ∙ go_here from to other next_name way q))
      by rest (inr p) (inr q) =
          let pushed : under (go from to (mount, above)) name ≡ under (go from to (other, way)) next_name = sym (go_apart from to mount name above p) ∙ e ∙ go_apart from to other next_name way q in
          let d = tree (mount, above) name value leads in
          let d' = tree (other, way) next_name found led in
          let keys = rest d.0 d.1 d'.0 d'.1 (above_same (go from to (mount, above)) (go from to (other, way)) name next_name pushed) in
          let ends = name_same (go from to (mount, above)) (go from to (other, way)) name next_name pushed in
          λ i. under (keys i) (ends i)

  -- ---- the same, as maps

  -- and what led somewhere leads there by what it became
  pub is_led : (old : Key) (value : ℕ) → get names old ≡ Some value → get (moved names from to) (go from to old) ≡ Some value
  is_led old value leads =
      let at = found_stands key_total key-IsAntisymmetric (entries names) old value (sym (get-entries names old) ∙ leads) in
      let found = found_gone key_total key-IsAntisymmetric (go from to) (entries names) (old, value) at.0 at.1 in
      let now : get (moved names from to) (go from to old) ≡ Some found.0 = get-from_entries key_total (mapped (moved_entry from to) (entries names)) (go from to old) ∙ found.1 in
      let was = was_led names from to (go from to old) found.0 now in
      let keys : was.0 ≡ old = apart was.0.0 was.0.1 found.0 was.1.0 old.0 old.1 value leads was.1.1 in
      now ∙ sym was.1.0 ∙ ap (get names) keys ∙ leads

  pub single_moved : (inode : ℕ) → HasAtMostOnePath (moved names from to) inode
  single_moved inode k l leads led =
      let was = was_led names from to k inode leads in
      let were = was_led names from to l inode led in
      sym was.1.1 ∙ ap (go from to) (single inode was.0 were.0 was.1.0 were.1.0) ∙ were.1.1

  pub roots_moved : ((root inode : ℕ) → get names (root_key root) ≡ Some inode → inode ≡ root) → (root inode : ℕ) → get (moved names from to) (root_key root) ≡ Some inode → inode ≡ root
  roots_moved roots root inode leads = by was.0.1 (was.1.0) was.1.1
    where
      was : (old : Key) × ((get names old ≡ Some inode) × (go from to old ≡ root_key root))
      was = was_led names from to (root_key root) inode leads

      by : (path : List (List ℕ)) → get names (was.0.0, path) ≡ Some inode → go from to (was.0.0, path) ≡ root_key root → inode ≡ root
      by [] led e = roots root inode (ap (λ (k : Key). get names (root_key k.0)) (sym e) ∙ led)
      by (name ∷ above) led e = absurd (no_root root (was.0.0, above) name inode led e)

  -- each mount keeps its paths, where the two are in one
  pub same_mount : one.0 ≡ two.0 → (mount : ℕ) (path : List (List ℕ)) → (go from to (mount, path)).0 ≡ mount
  same_mount mounts mount [] = refl
  same_mount mounts mount (name ∷ above) = by (same_mount mounts mount above) (same_or_not key_total key-IsAntisymmetric (mount, name ∷ above) from)
    where
      by : (go from to (mount, above)).0 ≡ mount → (((mount, name ∷ above) ≡ from) ⊎ ((mount, name ∷ above) ≡ from → ⊥)) → (go from to (mount, name ∷ above)).0 ≡ mount
      by rest (inl p) = ap (λ (k : Key). k.0) (go_here from to mount name above p) ∙ sym mounts ∙ ap (λ (k : Key). k.0) (sym p)
      by rest (inr p) = ap (λ (k : Key). k.0) (go_apart from to mount name above p) ∙ rest

  -- a name that leads somewhere now is the new one, or stood in what its directory became
  pub came_entry : (above : Key) (name : List ℕ) (inode : ℕ) → get (moved names from to) (under above name) ≡ Some inode → ((above ≡ two) × (name ≡ next)) ⊎ ((old : Key) × ((get names (under old name) ≡ Some inode) × (go from to old ≡ above)))
  came_entry above name inode leads = by was.0.1 was.1.0 was.1.1
    where
      was : (old : Key) × ((get names old ≡ Some inode) × (go from to old ≡ under above name))
      was = was_led names from to (under above name) inode leads

      by : (path : List (List ℕ)) → get names (was.0.0, path) ≡ Some inode → go from to (was.0.0, path) ≡ under above name → ((above ≡ two) × (name ≡ next)) ⊎ ((old : Key) × ((get names (under old name) ≡ Some inode) × (go from to old ≡ above)))
      by [] led e = absurd (not_root was.0.0 above name (sym e))
      by (last_name ∷ way) led e = elim (same_or_not key_total key-IsAntisymmetric (was.0.0, last_name ∷ way) from) [
        | inl p ↦ let new = sym e ∙ go_here from to was.0.0 last_name way p in inl (above_same above two name next new, name_same above two name next new)
        | inr p ↦
            let pushed : under (go from to (was.0.0, way)) last_name ≡ under above name = sym (go_apart from to was.0.0 last_name way p) ∙ e in
            let ends = name_same (go from to (was.0.0, way)) above last_name name pushed in
            inr ((was.0.0, way), (ap (λ n. get names (was.0.0, n ∷ way)) (sym ends) ∙ led, above_same (go from to (was.0.0, way)) above last_name name pushed))
      ]
