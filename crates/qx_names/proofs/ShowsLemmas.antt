-- What the directories show, call by call.
use Rattle.std.specs.Prelude.{ℕ, suc, ◌++◌, ◌||◌, ◌==◌, List, [], ◌∷◌, Option, Some, None, if◌then◌else◌, length}
use Rattle.std.specs.Cmp.Lexicographic.{nat_list_cmp_total}
use Rattle.std.specs.Cmp.{nat_cmp_total}
use Rattle.std.specs.FinMap.{empty, get, get-empty, insert, nat_cmp-IsAntisymmetric, remove, slice_cmp-IsAntisymmetric}
use Rattle.std.proofs.Common.{◌≡◌, Bool, true, false, ap, refl, sym, ◌∙◌, arith}
use mathlib.Core.Logic.{◌⊎◌, inl, inr}
use Rattle.std.proofs.lemmas.Bool.{eq-eqb, eqb-true}
use Rattle.std.proofs.Math.Bool.{or-true}
use Rattle.qx_machine.specs.Names.{Key, Names, key_cmp, root_key, under, with_root}
use Rattle.qx_names.specs.Paths.{HasNoPath}
use Rattle.qx_names.specs.inner.Shows.{Shows, is_root, key_total, key-IsAntisymmetric, name_looked_up, reached, shown_names}
use Rattle.qx_names.specs.inner.Shows.{shown_once}
use Rattle.qx_names.specs.inner.Folders.{Changes}
use Rattle.qx_names.proofs.MapLemmas.{inserted, inserted_apart, removed, removed_apart, same_or_not}

abbrev unwrap : Option ℕ → ℕ
unwrap None = 0
unwrap (Some value) = value

pub some_same : (one two : ℕ) → Some one ≡ Some two → one ≡ two
some_same one two e = ap unwrap e

pub none_some : (value : ℕ) → None ≡ Some value → ⊥
none_some value e = cc

abbrev pub tail : List (List ℕ) → List (List ℕ)
tail [] = []
tail (name ∷ names) = names

abbrev pub head : List (List ℕ) → List ℕ
head [] = []
head (name ∷ names) = name

abbrev pub parent : Key → Key
parent key = (key.0, tail key.1)

-- a path is not its own directory's
longer : (mount : ℕ) (name : List ℕ) (above : List (List ℕ)) (key : Key) → (mount, above) ≡ key → (mount, name ∷ above) ≡ key → ⊥
longer mount name above key e f =
    let lengths : suc (length above) ≡ length above = ap (λ (k : Key). length k.1) (f ∙ sym e) in
    omega (arith, lengths)

module _ (root : ℕ → Bool) (entry : ℕ → List ℕ → Option ℕ) (names : Names) (s : Shows root entry names) where
  no_entries_by : (inode : ℕ) (name : List ℕ) (x : Option ℕ) → HasNoPath names inode → entry inode name ≡ x → entry inode name ≡ None
  no_entries_by inode name None unnamed e = e
  no_entries_by inode name (Some value) unnamed e = let at = s.held inode name value e in absurd (unnamed at.0 at.1)

  -- what no path leads to has no entries
  pub no_entries : (inode : ℕ) → HasNoPath names inode → (name : List ℕ) → entry inode name ≡ None
  no_entries inode unnamed name = no_entries_by inode name (entry inode name) unnamed refl

  pub step : (mount : ℕ) (name : List ℕ) (above : List (List ℕ)) → get names (mount, name ∷ above) ≡ name_looked_up entry (get names (mount, above)) name
  step mount name above = s.shown mount (name ∷ above) ∙ ap (λ at. name_looked_up entry at name) (sym (s.shown mount above))

  -- what is under a path is the entry of what it leads to
  pub entry_under : (key : Key) (directory : ℕ) (name : List ℕ) → get names key ≡ Some directory → get names (under key name) ≡ entry directory name
  entry_under key directory name at = step key.0 name key.1 ∙ ap (λ x. name_looked_up entry x name) at

  -- ---- what changes with one entry

  module _ (new : ℕ → List ℕ → Option ℕ) (key : Key) (directory : ℕ) (name : List ℕ) (what : Option ℕ) (at : get names key ≡ Some directory) (c : Changes entry new directory name what) where
    looked_apart : (x : Option ℕ) (mount : ℕ) (last : List ℕ) (above : List (List ℕ)) → get names (mount, above) ≡ x → ((mount, last ∷ above) ≡ under key name → ⊥) → name_looked_up new x last ≡ name_looked_up entry x last
    looked_apart None mount last above e apart = refl
    looked_apart (Some other) mount last above e apart =
        c.others other last (λ p q. apart (let keys = s.single (mount, above) key directory (e ∙ ap Some p) at in λ i. ((keys i).0, q i ∷ (keys i).1)))

    pub next_apart : (mount : ℕ) (last : List ℕ) (above : List (List ℕ)) → ((mount, last ∷ above) ≡ under key name → ⊥) → name_looked_up new (get names (mount, above)) last ≡ get names (mount, last ∷ above)
    next_apart mount last above apart = looked_apart (get names (mount, above)) mount last above refl apart ∙ sym (step mount last above)

    pub next_here : (mount : ℕ) (last : List ℕ) (above : List (List ℕ)) → (mount, last ∷ above) ≡ under key name → name_looked_up new (get names (mount, above)) last ≡ what
    next_here mount last above e =
        ap (λ (k : Key). name_looked_up new (get names k) last) (λ i. parent (e i)) ∙ ap (name_looked_up new (get names key)) (λ i. head (e i).1) ∙ ap (λ x. name_looked_up new x name) at ∙ c.here

  -- ---- a name that is new

  module _ (key : Key) (inode : ℕ) (free : get names key ≡ None) (unnamed : HasNoPath names inode) where
    pub still_led : (other : Key) (value : ℕ) → get names other ≡ Some value → get (insert names key inode) other ≡ Some value
    still_led other value e = inserted_apart key_total key-IsAntisymmetric names key inode other (λ p. none_some value (sym free ∙ ap (get names) (sym p) ∙ e)) ∙ e

    is_new : (other : Key) → get (insert names key inode) other ≡ Some inode → other ≡ key
    is_new other e = by (same_or_not key_total key-IsAntisymmetric other key)
      where
        by : ((other ≡ key) ⊎ (other ≡ key → ⊥)) → other ≡ key
        by (inl p) = p
        by (inr apart) = absurd (unnamed other (sym (inserted_apart key_total key-IsAntisymmetric names key inode other apart) ∙ e))

    pub single_inserted : (one two : Key) (value : ℕ) → get (insert names key inode) one ≡ Some value → get (insert names key inode) two ≡ Some value → one ≡ two
    single_inserted one two value e f = by (same_or_not key_total key-IsAntisymmetric one key) (same_or_not key_total key-IsAntisymmetric two key)
      where
        value_is : (k : Key) → k ≡ key → get (insert names key inode) k ≡ Some value → value ≡ inode
        value_is k p g = some_same _ _ (sym g ∙ ap (get (insert names key inode)) p ∙ inserted key_total key-IsAntisymmetric names key inode)

        by : ((one ≡ key) ⊎ (one ≡ key → ⊥)) → ((two ≡ key) ⊎ (two ≡ key → ⊥)) → one ≡ two
        by (inl p) (inl q) = p ∙ sym q
        by (inl p) (inr q) = p ∙ sym (is_new two (f ∙ ap Some (value_is one p e)))
        by (inr p) (inl q) = is_new one (e ∙ ap Some (value_is two q f)) ∙ sym q
        by (inr p) (inr q) = s.single one two value (sym (inserted_apart key_total key-IsAntisymmetric names key inode one p) ∙ e) (sym (inserted_apart key_total key-IsAntisymmetric names key inode two q) ∙ f)

  -- ---- a name is put into a directory

  module _ (new : ℕ → List ℕ → Option ℕ) (key : Key) (directory inode : ℕ) (name : List ℕ) (at : get names key ≡ Some directory) (free : get names (under key name) ≡ None) (unnamed : HasNoPath names inode) (c : Changes entry new directory name (Some inode)) where
    abbrev with_one : Names
    with_one = insert names (under key name) inode

    -- the inode has no entries still
    inode_alone : (last : List ℕ) → new inode last ≡ None
    inode_alone last = c.others inode last (λ p q. unnamed key (at ∙ ap Some (sym p))) ∙ no_entries inode unnamed last

    next_inserted : (mount : ℕ) (last : List ℕ) (above : List (List ℕ)) → get with_one (mount, last ∷ above) ≡ name_looked_up new (get with_one (mount, above)) last
    next_inserted mount last above = by (same_or_not key_total key-IsAntisymmetric (mount, above) (under key name)) (same_or_not key_total key-IsAntisymmetric (mount, last ∷ above) (under key name))
      where
        by : (((mount, above) ≡ under key name) ⊎ ((mount, above) ≡ under key name → ⊥)) → (((mount, last ∷ above) ≡ under key name) ⊎ ((mount, last ∷ above) ≡ under key name → ⊥)) → get with_one (mount, last ∷ above) ≡ name_looked_up new (get with_one (mount, above)) last
        by (inl p) (inl q) = absurd (longer mount last above (under key name) p q)
        by (inl p) (inr q) =
            inserted_apart key_total key-IsAntisymmetric names (under key name) inode (mount, last ∷ above) q ∙ step mount last above ∙ ap (λ k. name_looked_up entry (get names k) last) p ∙ ap (λ x. name_looked_up entry x last) free
            ∙ sym (ap (λ k. name_looked_up new (get with_one k) last) p ∙ ap (λ x. name_looked_up new x last) (inserted key_total key-IsAntisymmetric names (under key name) inode) ∙ inode_alone last)
        by (inr p) (inl q) =
            ap (get with_one) q ∙ inserted key_total key-IsAntisymmetric names (under key name) inode
            ∙ sym (ap (λ x. name_looked_up new x last) (inserted_apart key_total key-IsAntisymmetric names (under key name) inode (mount, above) p) ∙ next_here new key directory name (Some inode) at c mount last above q)
        by (inr p) (inr q) =
            inserted_apart key_total key-IsAntisymmetric names (under key name) inode (mount, last ∷ above) q
            ∙ sym (ap (λ x. name_looked_up new x last) (inserted_apart key_total key-IsAntisymmetric names (under key name) inode (mount, above) p) ∙ next_apart new key directory name (Some inode) at c mount last above q)

    shown_inserted : (mount : ℕ) (path : List (List ℕ)) → get with_one (mount, path) ≡ reached root new mount path
    shown_inserted mount [] = inserted_apart key_total key-IsAntisymmetric names (under key name) inode (mount, []) (λ e. let lengths : 0 ≡ suc (length key.1) = ap (λ (k : Key). length k.1) e in omega (arith, lengths)) ∙ s.shown mount []
    shown_inserted mount (last ∷ above) = next_inserted mount last above ∙ ap (λ x. name_looked_up new x last) (shown_inserted mount above)

    held_inserted : (other : ℕ) (last : List ℕ) (value : ℕ) → new other last ≡ Some value → (led : Key) × (get with_one led ≡ Some other)
    held_inserted other last value e = by (same_or_not nat_cmp_total nat_cmp-IsAntisymmetric other directory) (same_or_not nat_list_cmp_total (slice_cmp-IsAntisymmetric nat_cmp-IsAntisymmetric) last name)
      where
        older : (other ≡ directory → last ≡ name → ⊥) → (led : Key) × (get with_one led ≡ Some other)
        older apart = let led = s.held other last value (sym (c.others other last apart) ∙ e) in (led.0, still_led (under key name) inode free unnamed led.0 other led.1)

        by : ((other ≡ directory) ⊎ (other ≡ directory → ⊥)) → ((last ≡ name) ⊎ (last ≡ name → ⊥)) → (led : Key) × (get with_one led ≡ Some other)
        by (inl p) q = (key, still_led (under key name) inode free unnamed key other (at ∙ ap Some (sym p)))
        by (inr p) q = older (λ e f. p e)

    pub Shows-insert : Shows root new with_one
    Shows-insert = record { shown = shown_inserted; single = single_inserted (under key name) inode free unnamed; held = held_inserted }

  -- ---- a name is taken out of a directory

  module _ (new : ℕ → List ℕ → Option ℕ) (key : Key) (directory : ℕ) (name : List ℕ) (at : get names key ≡ Some directory) (alone : (value : ℕ) → get names (under key name) ≡ Some value → (last : List ℕ) → entry value last ≡ None) (c : Changes entry new directory name None) where
    abbrev without_one : Names
    without_one = remove names (under key name)

    alone_by : (last : List ℕ) (x : Option ℕ) → get names (under key name) ≡ x → name_looked_up entry x last ≡ None
    alone_by last None e = refl
    alone_by last (Some value) e = alone value e last

    next_removed : (mount : ℕ) (last : List ℕ) (above : List (List ℕ)) → get without_one (mount, last ∷ above) ≡ name_looked_up new (get without_one (mount, above)) last
    next_removed mount last above = by (same_or_not key_total key-IsAntisymmetric (mount, above) (under key name)) (same_or_not key_total key-IsAntisymmetric (mount, last ∷ above) (under key name))
      where
        by : (((mount, above) ≡ under key name) ⊎ ((mount, above) ≡ under key name → ⊥)) → (((mount, last ∷ above) ≡ under key name) ⊎ ((mount, last ∷ above) ≡ under key name → ⊥)) → get without_one (mount, last ∷ above) ≡ name_looked_up new (get without_one (mount, above)) last
        by (inl p) (inl q) = absurd (longer mount last above (under key name) p q)
        by (inl p) (inr q) =
            removed_apart key_total key-IsAntisymmetric names (under key name) (mount, last ∷ above) q ∙ step mount last above ∙ ap (λ k. name_looked_up entry (get names k) last) p ∙ alone_by last _ refl
            ∙ sym (ap (λ k. name_looked_up new (get without_one k) last) p ∙ ap (λ x. name_looked_up new x last) (removed key_total key-IsAntisymmetric names (under key name)))
        by (inr p) (inl q) =
            ap (get without_one) q ∙ removed key_total key-IsAntisymmetric names (under key name)
            ∙ sym (ap (λ x. name_looked_up new x last) (removed_apart key_total key-IsAntisymmetric names (under key name) (mount, above) p) ∙ next_here new key directory name None at c mount last above q)
        by (inr p) (inr q) =
            removed_apart key_total key-IsAntisymmetric names (under key name) (mount, last ∷ above) q
            ∙ sym (ap (λ x. name_looked_up new x last) (removed_apart key_total key-IsAntisymmetric names (under key name) (mount, above) p) ∙ next_apart new key directory name None at c mount last above q)

    shown_removed : (mount : ℕ) (path : List (List ℕ)) → get without_one (mount, path) ≡ reached root new mount path
    shown_removed mount [] = removed_apart key_total key-IsAntisymmetric names (under key name) (mount, []) (λ e. let lengths : 0 ≡ suc (length key.1) = ap (λ (k : Key). length k.1) e in omega (arith, lengths)) ∙ s.shown mount []
    shown_removed mount (last ∷ above) = next_removed mount last above ∙ ap (λ x. name_looked_up new x last) (shown_removed mount above)

    -- what is still led to was led to before, by another path than the one removed
    pub was_led : (led : Key) (value : ℕ) → get without_one led ≡ Some value → (led ≡ under key name → ⊥) × (get names led ≡ Some value)
    was_led led value e = by (same_or_not key_total key-IsAntisymmetric led (under key name))
      where
        by : ((led ≡ under key name) ⊎ (led ≡ under key name → ⊥)) → (led ≡ under key name → ⊥) × (get names led ≡ Some value)
        by (inl p) = absurd (none_some value (sym (ap (get without_one) p ∙ removed key_total key-IsAntisymmetric names (under key name)) ∙ e))
        by (inr p) = (p, sym (removed_apart key_total key-IsAntisymmetric names (under key name) led p) ∙ e)

    pub unnamed_now : (value : ℕ) → get names (under key name) ≡ Some value → HasNoPath without_one value
    unnamed_now value here led e = let was = was_led led value e in was.0 (s.single led (under key name) value was.1 here)

    held_removed : (other : ℕ) (last : List ℕ) (value : ℕ) → new other last ≡ Some value → (led : Key) × (get without_one led ≡ Some other)
    held_removed other last value e = by (same_or_not nat_cmp_total nat_cmp-IsAntisymmetric other directory) (same_or_not nat_list_cmp_total (slice_cmp-IsAntisymmetric nat_cmp-IsAntisymmetric) last name)
      where
        older : (other ≡ directory → last ≡ name → ⊥) → (led : Key) × (get without_one led ≡ Some other)
        older apart =
            let was : entry other last ≡ Some value = sym (c.others other last apart) ∙ e in
            let led = s.held other last value was in
            (led.0, removed_apart key_total key-IsAntisymmetric names (under key name) led.0 (λ p. none_some value (sym (alone other (ap (get names) (sym p) ∙ led.1) last) ∙ was)) ∙ led.1)

        by : ((other ≡ directory) ⊎ (other ≡ directory → ⊥)) → ((last ≡ name) ⊎ (last ≡ name → ⊥)) → (led : Key) × (get without_one led ≡ Some other)
        by (inl p) (inl q) = absurd (none_some value (sym (ap (λ d. new d last) p ∙ ap (new directory) q ∙ c.here) ∙ e))
        by (inl p) (inr q) = older (λ e f. q f)
        by (inr p) q = older (λ e f. p e)

    pub Shows-remove : Shows root new without_one
    Shows-remove = record {
      shown = shown_removed;
      single = λ one two value e f. s.single one two value (was_led one value e).1 (was_led two value f).1;
      held = held_removed;
    }

  -- ---- a root is named

  module _ (roots : ℕ → Bool) (mount : ℕ) (unnamed : HasNoPath names mount) (here : roots mount ≡ true) (others : (other : ℕ) → (other ≡ mount → ⊥) → roots other ≡ root other) where
    abbrev with_it : Names
    with_it = insert names (root_key mount) mount

    free_by : (b : Bool) → root mount ≡ b → get names (root_key mount) ≡ None
    free_by true e = absurd (unnamed (root_key mount) (s.shown mount [] ∙ ap (λ b. if b then Some mount else None) e))
    free_by false e = s.shown mount [] ∙ ap (λ b. if b then Some mount else None) e

    root_free : get names (root_key mount) ≡ None
    root_free = free_by (root mount) refl

    next_rooted : (at : ℕ) (last : List ℕ) (above : List (List ℕ)) → get with_it (at, last ∷ above) ≡ name_looked_up entry (get with_it (at, above)) last
    next_rooted at last above = longer_apart ∙ step at last above ∙ by (same_or_not key_total key-IsAntisymmetric (at, above) (root_key mount))
      where
        longer_apart : get with_it (at, last ∷ above) ≡ get names (at, last ∷ above)
        longer_apart = inserted_apart key_total key-IsAntisymmetric names (root_key mount) mount (at, last ∷ above) (λ e. let lengths : suc (length above) ≡ 0 = ap (λ (k : Key). length k.1) e in omega (arith, lengths))

        by : (((at, above) ≡ root_key mount) ⊎ ((at, above) ≡ root_key mount → ⊥)) → name_looked_up entry (get names (at, above)) last ≡ name_looked_up entry (get with_it (at, above)) last
        by (inl p) =
            ap (λ k. name_looked_up entry (get names k) last) p ∙ ap (λ x. name_looked_up entry x last) root_free
            ∙ sym (ap (λ k. name_looked_up entry (get with_it k) last) p ∙ ap (λ x. name_looked_up entry x last) (inserted key_total key-IsAntisymmetric names (root_key mount) mount) ∙ no_entries mount unnamed last)
        by (inr p) = ap (λ x. name_looked_up entry x last) (sym (inserted_apart key_total key-IsAntisymmetric names (root_key mount) mount (at, above) p))

    shown_rooted : (at : ℕ) (path : List (List ℕ)) → get with_it (at, path) ≡ reached roots entry at path
    shown_rooted at [] = by (same_or_not nat_cmp_total nat_cmp-IsAntisymmetric at mount)
      where
        by : ((at ≡ mount) ⊎ (at ≡ mount → ⊥)) → get with_it (at, []) ≡ (if roots at then Some at else None)
        by (inl p) = ap (λ m. get with_it (m, [])) p ∙ inserted key_total key-IsAntisymmetric names (root_key mount) mount ∙ sym (ap (λ m. if roots m then Some m else None) p ∙ ap (λ b. if b then Some mount else None) here)
        by (inr p) = inserted_apart key_total key-IsAntisymmetric names (root_key mount) mount (at, []) (λ e. p (λ i. (e i).0)) ∙ s.shown at [] ∙ ap (λ b. if b then Some at else None) (sym (others at p))
    shown_rooted at (last ∷ above) = next_rooted at last above ∙ ap (λ x. name_looked_up entry x last) (shown_rooted at above)

    pub Shows-root : Shows roots entry with_it
    Shows-root = record {
      shown = shown_rooted;
      single = single_inserted (root_key mount) mount root_free unnamed;
      held = λ other last value e. let led = s.held other last value e in (led.0, still_led (root_key mount) mount root_free unnamed led.0 other led.1);
    }

-- ---- what a struct keeps

module _ (root : ℕ → Bool) (entry : ℕ → List ℕ → Option ℕ) where
  pub names_shown : (kept : (names : Names) × Shows root entry names) → Shows root entry (shown_names root entry kept)
  unfolding shown_names
  names_shown kept = kept.1

  pub names_are : (kept : (names : Names) × Shows root entry names) (names : Names) → Shows root entry names → shown_names root entry kept ≡ names
  unfolding shown_names
  names_are kept names s = λ i. (shown_once root entry kept (names, s) i).0

-- no names
pub Shows-empty : (entry : ℕ → List ℕ → Option ℕ) → ((directory : ℕ) (name : List ℕ) → entry directory name ≡ None) → Shows (λ _. false) entry empty
Shows-empty entry none = record {
  shown = λ mount path. get-empty key_cmp (mount, path) ∙ sym (nothing mount path);
  single = λ one two inode e f. absurd (none_some inode (sym (get-empty key_cmp one) ∙ e));
  held = λ directory name inode e. absurd (none_some inode (sym (none directory name) ∙ e));
}
  where
    nothing : (mount : ℕ) (path : List (List ℕ)) → reached (λ _. false) entry mount path ≡ None
    nothing mount [] = refl
    nothing mount (name ∷ above) = ap (λ x. name_looked_up entry x name) (nothing mount above)

-- ---- roots

root_here : (roots : List ℕ) (root : ℕ) → is_root (roots ++ root ∷ []) root ≡ true
root_here [] root = ap (◌|| false) (eq-eqb root root refl)
root_here (first ∷ roots) root = ap ((first == root) ||◌) (root_here roots root) ∙ or-true (first == root)

root_others_by : (root other : ℕ) (b : Bool) → (other ≡ root → ⊥) → (root == other) ≡ b → ((root == other) || false) ≡ false
root_others_by root other true apart e = absurd (apart (sym (eqb-true root other e)))
root_others_by root other false apart e = ap (◌|| false) e

root_others : (roots : List ℕ) (root other : ℕ) → (other ≡ root → ⊥) → is_root (roots ++ root ∷ []) other ≡ is_root roots other
root_others [] root other apart = root_others_by root other (root == other) apart refl
root_others (first ∷ roots) root other apart = ap ((first == other) ||◌) (root_others roots root other apart)

pub Shows-push : (roots : List ℕ) (entry : ℕ → List ℕ → Option ℕ) (names : Names) → Shows (is_root roots) entry names → (root : ℕ) → HasNoPath names root → Shows (is_root (roots ++ root ∷ [])) entry (with_root names root)
Shows-push roots entry names s root unnamed = Shows-root (is_root roots) entry names s (is_root (roots ++ root ∷ [])) root unnamed (root_here roots root) (root_others roots root)

pub root_shown : (root : ℕ → Bool) (entry : ℕ → List ℕ → Option ℕ) (names : Names) → Shows root entry names → (mount : ℕ) → get names (root_key mount) ≡ (if root mount then Some mount else None)
root_shown root entry names s mount = s.shown mount []
