-- What the directories show once an entry goes to another place, and all below it with it.
use Rattle.std.specs.Prelude.{ℕ, zero, suc, List, [], ◌∷◌, Option, Some, None, if◌then◌else◌, map as mapped, slice_get}
use Rattle.std.specs.Cmp.Lexicographic.{nat_list_cmp_total}
use Rattle.std.specs.Cmp.{IsTotalOrder, nat_cmp_total}
use Rattle.std.specs.FinMap.{IsAntisymmetric, entries, entries_sorted, get, get-entries, get-from_entries, nat_cmp-IsAntisymmetric, slice_cmp-IsAntisymmetric}
use Rattle.std.specs.FinMap.Entries.{below_all, find, is_sorted}
use Rattle.std.specs.Ordering.{eq_by_cmp, is_eq, ordering_reverse}
use Rattle.std.specs.declared.cmp.Ordering.{Ordering}
use Rattle.std.proofs.Common.{◌≡◌, Bool, true, false, T, cond, ap, refl, sym, ◌∙◌}
use Rattle.std.proofs.lemmas.Bool.{or_parts}
use mathlib.Core.Logic.{◌⊎◌, inl, inr}
use Rattle.qx_machine.specs.Names.{Key, Names, is_below, is_same_key, key_cmp, moved, moved_entry, moved_path, under}
use Rattle.qx_machine.proofs.Directories.{first, is_less, second}
use Rattle.qx_names.specs.inner.Folders.{Moves}
use Rattle.qx_names.specs.inner.Shows.{Shows, key_total, key-IsAntisymmetric, name_looked_up, reached}
use Rattle.qx_names.proofs.MapLemmas.{is_equal, same_or_not, tied, untied}
use Rattle.qx_names.proofs.ShowsLemmas.{entry_under, head, none_some, parent, some_same, step}

-- ---- entries, each of which stands at a place

module _ {K : Type 0} {R : K → K → Ordering} (o : IsTotalOrder R) (same : IsAntisymmetric R) where
  abbrev Stands : List (K × ℕ) → K × ℕ → Type 0
  Stands es e = (i : ℕ) × (slice_get es i ≡ Some e)

  apart : (head e : K × ℕ) (es : List (K × ℕ)) (i : ℕ) → T (below_all R head.0 es) → slice_get es i ≡ Some e → eq_by_cmp R e.0 head.0 ≡ false
  apart head e [] i below is = cc
  apart head e (next ∷ es) zero below is =
      let same_entry : next ≡ e = cc in
      ap is_eq (o.antisymm e.0 head.0 ∙ ap ordering_reverse (ap (λ (entry : K × ℕ). R head.0 entry.0) (sym same_entry) ∙ is_less _ (first _ _ below)))
  apart head e (next ∷ es) (suc i) below is = apart head e es i (second _ _ below) is

  -- each entry of a map is found
  pub stands_found : (es : List (K × ℕ)) (e : K × ℕ) (i : ℕ) → T (is_sorted R es) → slice_get es i ≡ Some e → find R e.0 es ≡ Some e.1
  stands_found [] e i sorted is = cc
  stands_found (head ∷ es) e zero sorted is =
      let same_entry : head ≡ e = cc in
      ap (λ (entry : K × ℕ). cond (eq_by_cmp R e.0 entry.0) (Some entry.1) (find R e.0 es)) same_entry ∙ ap (λ b. cond b (Some e.1) (find R e.0 es)) (tied o same e.0)
  stands_found (head ∷ es) e (suc i) sorted is = ap (λ b. cond b (Some head.1) (find R e.0 es)) (apart head e es i (first _ _ sorted) is) ∙ stands_found es e i (second _ _ sorted) is

  -- what is found stands somewhere
  pub found_stands : (es : List (K × ℕ)) (key : K) (value : ℕ) → find R key es ≡ Some value → Stands es (key, value)
  found_stands [] key value e = cc
  found_stands (head ∷ es) key value e = by (found_stands es key value) (eq_by_cmp R key head.0) refl e
    where
      by : (find R key es ≡ Some value → Stands es (key, value)) → (b : Bool) → eq_by_cmp R key head.0 ≡ b → cond b (Some head.1) (find R key es) ≡ Some value → Stands (head ∷ es) (key, value)
      by rest true p q = (0, let keys : key ≡ head.0 = same _ _ (is_equal _ p) in let values : head.1 ≡ value = some_same _ _ q in ap Some (λ i. (sym keys i, values i)))
      by rest false p q = let later = rest q in (suc later.0, later.1)

  -- entries under other keys
  module _ (go : K → K) where
    abbrev going : K × ℕ → K × ℕ
    going e = (go e.0, e.1)

    -- what is found among them was told of each
    pub found_told : (tells : K → Option ℕ) (es : List (K × ℕ)) → ((e : K × ℕ) → Stands es e → tells (go e.0) ≡ Some e.1) → (key : K) (value : ℕ) → find R key (mapped going es) ≡ Some value → tells key ≡ Some value
    found_told tells [] told key value e = cc
    found_told tells (head ∷ es) told key value e = by (found_told tells es (λ e at. told e (suc at.0, at.1)) key value) (eq_by_cmp R key (go head.0)) refl e
      where
        by : (find R key (mapped going es) ≡ Some value → tells key ≡ Some value) → (b : Bool) → eq_by_cmp R key (go head.0) ≡ b → cond b (Some head.1) (find R key (mapped going es)) ≡ Some value → tells key ≡ Some value
        by rest true p q = ap tells (same _ _ (is_equal _ p)) ∙ told head (0, refl) ∙ q
        by rest false p q = rest q

    -- and each is found under its key
    pub found_gone : (es : List (K × ℕ)) (e : K × ℕ) (i : ℕ) → slice_get es i ≡ Some e → (value : ℕ) × (find R (go e.0) (mapped going es) ≡ Some value)
    found_gone [] e i is = cc
    found_gone (head ∷ es) e zero is =
        let same_entry : head ≡ e = cc in
        (head.1, ap (λ b. cond b (Some head.1) (find R (go e.0) (mapped going es))) (ap (λ (entry : K × ℕ). eq_by_cmp R (go e.0) (go entry.0)) same_entry ∙ tied o same (go e.0)))
    found_gone (head ∷ es) e (suc i) is = by (found_gone es e i is) (eq_by_cmp R (go e.0) (go head.0)) refl
      where
        by : (value : ℕ) × (find R (go e.0) (mapped going es) ≡ Some value) → (b : Bool) → eq_by_cmp R (go e.0) (go head.0) ≡ b → (value : ℕ) × (cond b (Some head.1) (find R (go e.0) (mapped going es)) ≡ Some value)
        by rest true p = (head.1, refl)
        by rest false p = rest

true_false : true ≡ false → ⊥
true_false e = cc

-- ---- paths that begin otherwise

module _ (from to : Key) where
  abbrev pub go : Key → Key
  go key = moved_path from to key.0 key.1

  pub go_here : (mount : ℕ) (name : List ℕ) (above : List (List ℕ)) → (mount, name ∷ above) ≡ from → go (mount, name ∷ above) ≡ to
  go_here mount name above e = ap (λ b. if b then to else under (go (mount, above)) name) (ap (λ k. is_same_key k from) e ∙ tied key_total key-IsAntisymmetric from)

  pub go_apart : (mount : ℕ) (name : List ℕ) (above : List (List ℕ)) → ((mount, name ∷ above) ≡ from → ⊥) → go (mount, name ∷ above) ≡ under (go (mount, above)) name
  go_apart mount name above differs = ap (λ b. if b then to else under (go (mount, above)) name) (untied key_total key-IsAntisymmetric (mount, name ∷ above) from differs)

  -- what does not begin so stays
  pub still : (mount : ℕ) (name : List ℕ) (path : List (List ℕ)) → is_below from mount (name ∷ path) ≡ false → go (mount, path) ≡ (mount, path)
  still mount name [] e = refl
  still mount name (next ∷ above) e =
      ap (λ b. if b then to else under (go (mount, above)) next) (or_parts _ _ e).0
      ∙ ap (λ k. under k next) (still mount next above (or_parts (is_same_key (mount, next ∷ above) from) _ e).1)

module _ (root : ℕ → Bool) (entry new : ℕ → List ℕ → Option ℕ) (names : Names) (s : Shows root entry names) (one two : Key) (source target inode : ℕ) (last next : List ℕ) (at_one : get names one ≡ Some source) (at_two : get names two ≡ Some target) (there : get names (under one last) ≡ Some inode) (free : get names (under two next) ≡ None) (outside : is_below (under one last) two.0 (next ∷ two.1) ≡ false) (m : Moves entry new source last target next inode) where
  abbrev from : Key
  from = under one last

  abbrev to : Key
  to = under two next

  -- an entry that is not the one that goes is there still
  entry_stays : (mount : ℕ) (above : List (List ℕ)) (name : List ℕ) (directory value : ℕ) → get names (mount, above) ≡ Some directory → entry directory name ≡ Some value → ((mount, name ∷ above) ≡ from → ⊥) → new directory name ≡ Some value
  entry_stays mount above name directory value at e differs =
      m.others directory name
      (λ p q. differs (let keys = s.single (mount, above) one directory at (at_one ∙ ap Some (sym p)) in λ i. ((keys i).0, q i ∷ (keys i).1)))
      (λ p q.
      let keys = s.single (mount, above) two directory at (at_two ∙ ap Some (sym p)) in
      let here : (mount, name ∷ above) ≡ to = λ i. ((keys i).0, q i ∷ (keys i).1) in
      none_some value (sym free ∙ ap (get names) (sym here) ∙ entry_under root entry names s (mount, above) directory name at ∙ e))
      ∙ e

  -- what a path that stays leads to, it leads to
  led_still : (mount : ℕ) (name : List ℕ) (path : List (List ℕ)) (value : ℕ) → is_below from mount (name ∷ path) ≡ false → get names (mount, path) ≡ Some value → reached root new mount path ≡ Some value
  led_still mount name [] value out e = sym (s.shown mount []) ∙ e
  led_still mount name (here ∷ above) value out e = by (λ directory p. led_still mount here above directory (or_parts (is_same_key (mount, here ∷ above) from) _ out).1 p) (get names (mount, above)) refl
    where
      differs : (mount, here ∷ above) ≡ from → ⊥
      differs p = true_false (sym (ap (λ k. is_same_key k from) p ∙ tied key_total key-IsAntisymmetric from) ∙ (or_parts _ _ out).0)

      by : ((directory : ℕ) → get names (mount, above) ≡ Some directory → reached root new mount above ≡ Some directory) → (x : Option ℕ) → get names (mount, above) ≡ x → reached root new mount (here ∷ above) ≡ Some value
      by rest None p = absurd (none_some value (sym (ap (λ x. name_looked_up entry x here) p) ∙ sym (step root entry names s mount here above) ∙ e))
      by rest (Some directory) p =
          ap (λ x. name_looked_up new x here) (rest directory p)
          ∙ entry_stays mount above here directory value p (sym (entry_under root entry names s (mount, above) directory here p) ∙ e) differs

  -- and what any path leads to, the path that it becomes
  led : (mount : ℕ) (path : List (List ℕ)) (value : ℕ) → get names (mount, path) ≡ Some value → reached root new (go from to (mount, path)).0 (go from to (mount, path)).1 ≡ Some value
  led mount [] value e = sym (s.shown mount []) ∙ e
  led mount (name ∷ above) value e = by (λ directory p. led mount above directory p) (same_or_not key_total key-IsAntisymmetric (mount, name ∷ above) from)
    where
      by_directory : ((directory : ℕ) → get names (mount, above) ≡ Some directory → reached root new (go from to (mount, above)).0 (go from to (mount, above)).1 ≡ Some directory) → ((mount, name ∷ above) ≡ from → ⊥) → (x : Option ℕ) → get names (mount, above) ≡ x → reached root new (under (go from to (mount, above)) name).0 (under (go from to (mount, above)) name).1 ≡ Some value
      by_directory rest differs None p = absurd (none_some value (sym (ap (λ x. name_looked_up entry x name) p) ∙ sym (step root entry names s mount name above) ∙ e))
      by_directory rest differs (Some directory) p =
          ap (λ x. name_looked_up new x name) (rest directory p)
          ∙ entry_stays mount above name directory value p (sym (entry_under root entry names s (mount, above) directory name p) ∙ e) differs

      by : ((directory : ℕ) → get names (mount, above) ≡ Some directory → reached root new (go from to (mount, above)).0 (go from to (mount, above)).1 ≡ Some directory) → ((mount, name ∷ above) ≡ from) ⊎ ((mount, name ∷ above) ≡ from → ⊥) → reached root new (go from to (mount, name ∷ above)).0 (go from to (mount, name ∷ above)).1 ≡ Some value
      by rest (inl p) =
          ap (λ (k : Key). reached root new k.0 k.1) (go_here from to mount name above p)
          ∙ ap (λ x. name_looked_up new x next) (led_still two.0 next two.1 target outside at_two) ∙ m.here ∙ sym there ∙ ap (get names) (sym p) ∙ e
      by rest (inr differs) = ap (λ (k : Key). reached root new k.0 k.1) (go_apart from to mount name above differs) ∙ by_directory rest differs (get names (mount, above)) refl

  led_key : (key : Key) (value : ℕ) → get names key ≡ Some value → reached root new (go from to key).0 (go from to key).1 ≡ Some value
  led_key key value e = led key.0 key.1 value e

  -- what leads somewhere is what such a path became
  record Came (mount : ℕ) (path : List (List ℕ)) : Type 0 where
    key : Key
    value : ℕ
    leads : get names key ≡ Some value
    goes : go from to key ≡ (mount, path)

  module _ (mount : ℕ) (name : List ℕ) (above : List (List ℕ)) (value : ℕ) (directory : ℕ) (p : reached root new mount above ≡ Some directory) (here : new directory name ≡ Some value) (c : Came mount above) where
    came_at : get names c.key ≡ Some directory
    came_at = c.leads ∙ sym (led_key c.key c.value c.leads) ∙ ap (λ (k : Key). reached root new k.0 k.1) c.goes ∙ p

    to_here : directory ≡ target → name ≡ next → Came mount (name ∷ above)
    to_here d n =
        let keys : c.key ≡ two = s.single c.key two directory came_at (at_two ∙ ap Some (sym d)) in
        let above_is : two ≡ (mount, above) = sym (still from to two.0 next two.1 outside) ∙ ap (go from to) (sym keys) ∙ c.goes in
        record {
          key = from;
          value = inode;
          leads = there;
          goes = go_here from to one.0 last one.1 refl ∙ (λ i. ((above_is i).0, sym n i ∷ (above_is i).1));
        }

    kept : (directory ≡ target → name ≡ next → ⊥) → (directory ≡ source → name ≡ last → ⊥) → Came mount (name ∷ above)
    kept not_to not_from = record {
      key = under c.key name;
      value = value;
      leads = entry_under root entry names s c.key directory name came_at ∙ sym (m.others directory name not_from not_to) ∙ here;
      goes = go_apart from to c.key.0 name c.key.1 (λ k.
          let keys : c.key ≡ one = λ i. parent (k i) in
          let names_same : name ≡ last = λ i. head (k i).1 in
          not_from (some_same _ _ (sym came_at ∙ ap (get names) keys ∙ at_one)) names_same)
          ∙ ap (λ k. under k name) c.goes;
    }

    not_from_by : (directory ≡ target → name ≡ next → ⊥) → (directory ≡ source) ⊎ (directory ≡ source → ⊥) → (name ≡ last) ⊎ (name ≡ last → ⊥) → Came mount (name ∷ above)
    not_from_by not_to (inl d) (inl n) = absurd (none_some value (sym m.gone ∙ ap (λ d. new d last) (sym d) ∙ ap (new directory) (sym n) ∙ here))
    not_from_by not_to (inl d) (inr n) = kept not_to (λ p q. n q)
    not_from_by not_to (inr d) q = kept not_to (λ p q. d p)

    not_from : (directory ≡ target → name ≡ next → ⊥) → Came mount (name ∷ above)
    not_from not_to = not_from_by not_to (same_or_not nat_cmp_total nat_cmp-IsAntisymmetric directory source) (same_or_not nat_list_cmp_total (slice_cmp-IsAntisymmetric nat_cmp-IsAntisymmetric) name last)

    to_by : (directory ≡ target) ⊎ (directory ≡ target → ⊥) → (name ≡ next) ⊎ (name ≡ next → ⊥) → Came mount (name ∷ above)
    to_by (inl d) (inl n) = to_here d n
    to_by (inl d) (inr n) = not_from (λ p q. n q)
    to_by (inr d) q = not_from (λ p q. d p)

    came_next : Came mount (name ∷ above)
    came_next = to_by (same_or_not nat_cmp_total nat_cmp-IsAntisymmetric directory target) (same_or_not nat_list_cmp_total (slice_cmp-IsAntisymmetric nat_cmp-IsAntisymmetric) name next)

  came : (mount : ℕ) (path : List (List ℕ)) (value : ℕ) → reached root new mount path ≡ Some value → Came mount path
  came mount [] value e = record { key = (mount, []); value = value; leads = s.shown mount [] ∙ e; goes = refl }
  came mount (name ∷ above) value e = by (λ directory p. came mount above directory p) (reached root new mount above) refl
    where
      by : ((directory : ℕ) → reached root new mount above ≡ Some directory → Came mount above) → (x : Option ℕ) → reached root new mount above ≡ x → Came mount (name ∷ above)
      by rest None p = absurd (none_some value (sym (ap (λ x. name_looked_up new x name) p) ∙ e))
      by rest (Some directory) p = came_next mount name above value directory p (sym (ap (λ x. name_looked_up new x name) p) ∙ e) (rest directory p)

  -- ---- the same, as maps

  abbrev now : Names
  now = moved names from to

  told : (key : Key) (value : ℕ) → find key_cmp key (mapped (moved_entry from to) (entries names)) ≡ Some value → reached root new key.0 key.1 ≡ Some value
  told = found_told key_total key-IsAntisymmetric (go from to) (λ (k : Key). reached root new k.0 k.1) (entries names) (λ e at.
      led_key e.0 e.1 (get-entries names e.0 ∙ stands_found key_total key-IsAntisymmetric (entries names) e at.0 (entries_sorted names) at.1))

  shown_by : (mount : ℕ) (path : List (List ℕ)) (x y : Option ℕ) → find key_cmp (mount, path) (mapped (moved_entry from to) (entries names)) ≡ x → reached root new mount path ≡ y → x ≡ y
  shown_by mount path None None p q = refl
  shown_by mount path (Some value) y p q = sym (told (mount, path) value p) ∙ q
  shown_by mount path None (Some value) p q =
      let c = came mount path value q in
      let at = found_stands key_total key-IsAntisymmetric (entries names) c.key c.value (sym (get-entries names c.key) ∙ c.leads) in
      let found = found_gone key_total key-IsAntisymmetric (go from to) (entries names) (c.key, c.value) at.0 at.1 in
      absurd (none_some found.0 (sym p ∙ ap (λ k. find key_cmp k (mapped (moved_entry from to) (entries names))) (sym c.goes) ∙ found.1))

  shown_moved : (mount : ℕ) (path : List (List ℕ)) → get now (mount, path) ≡ reached root new mount path
  shown_moved mount path = get-from_entries key_total (mapped (moved_entry from to) (entries names)) (mount, path) ∙ shown_by mount path _ _ refl refl

  single_moved : (k l : Key) (value : ℕ) → get now k ≡ Some value → get now l ≡ Some value → k ≡ l
  single_moved k l value e f =
      let c = came k.0 k.1 value (sym (shown_moved k.0 k.1) ∙ e) in
      let d = came l.0 l.1 value (sym (shown_moved l.0 l.1) ∙ f) in
      let c_leads : get names c.key ≡ Some value = c.leads ∙ sym (led_key c.key c.value c.leads) ∙ ap (λ (q : Key). reached root new q.0 q.1) c.goes ∙ sym (shown_moved k.0 k.1) ∙ e in
      let d_leads : get names d.key ≡ Some value = d.leads ∙ sym (led_key d.key d.value d.leads) ∙ ap (λ (q : Key). reached root new q.0 q.1) d.goes ∙ sym (shown_moved l.0 l.1) ∙ f in
      sym c.goes ∙ ap (go from to) (s.single c.key d.key value c_leads d_leads) ∙ d.goes

  led_now : (key : Key) (value : ℕ) → get names key ≡ Some value → get now (go from to key) ≡ Some value
  led_now key value e = shown_moved (go from to key).0 (go from to key).1 ∙ led_key key value e

  held_moved : (directory : ℕ) (name : List ℕ) (value : ℕ) → new directory name ≡ Some value → (key : Key) × (get now key ≡ Some directory)
  held_moved directory name value e = by (same_or_not nat_cmp_total nat_cmp-IsAntisymmetric directory target) (same_or_not nat_list_cmp_total (slice_cmp-IsAntisymmetric nat_cmp-IsAntisymmetric) name next)
    where
      older : (directory ≡ target → name ≡ next → ⊥) → (directory ≡ source) ⊎ (directory ≡ source → ⊥) → (name ≡ last) ⊎ (name ≡ last → ⊥) → (key : Key) × (get now key ≡ Some directory)
      older not_to (inl d) (inl n) = absurd (none_some value (sym m.gone ∙ ap (λ d. new d last) (sym d) ∙ ap (new directory) (sym n) ∙ e))
      older not_to (inl d) (inr n) = (go from to one, led_now one directory (at_one ∙ ap Some (sym d)))
      older not_to (inr d) q = let at = s.held directory name value (sym (m.others directory name (λ p q. d p) not_to) ∙ e) in (go from to at.0, led_now at.0 directory at.1)

      not_to : (directory ≡ target → name ≡ next → ⊥) → (key : Key) × (get now key ≡ Some directory)
      not_to differs = older differs (same_or_not nat_cmp_total nat_cmp-IsAntisymmetric directory source) (same_or_not nat_list_cmp_total (slice_cmp-IsAntisymmetric nat_cmp-IsAntisymmetric) name last)

      by : (directory ≡ target) ⊎ (directory ≡ target → ⊥) → (name ≡ next) ⊎ (name ≡ next → ⊥) → (key : Key) × (get now key ≡ Some directory)
      by (inl d) q = (go from to two, led_now two directory (at_two ∙ ap Some (sym d)))
      by (inr d) q = not_to (λ p q. d p)

  pub Shows-moved : Shows root new now
  Shows-moved = record { shown = shown_moved; single = single_moved; held = held_moved }
