-- The names that are kept beside the directories, call by call.
use Rattle.std.specs.Prelude.{ℕ, Result, Ok, Err, OnOk, OnErr, List, [], ◌∷◌, ◌++◌, Option, None, Some, IfSome, if◌then◌else◌, nat_eq}
use Rattle.std.specs.Cmp.{nat_eq_equiv}
use Rattle.std.specs.List.{IsDistinct, list_any}
use Rattle.std.specs.FinMap as map
use Rattle.std.specs.declared.alloc.AllocError.{AllocError}
use Rattle.std.proofs.Common.{◌≡◌, Bool, true, false, ap, refl, sym, subst, ◌∙◌}
use Rattle.std.proofs.lemmas.Map.Keys.{IsDistinct-push}
use Rattle.qx_machine.specs.Names.{Key, Names, is_below, moved, names_in, root_key, under, with_root}
use Rattle.qx_names.specs.inner.Folders.{Entries, entry_at, names_of}
use Rattle.qx_names.specs.Paths.{HasPath, HasNoPath, path_of}
use Rattle.qx_names.specs.inner.Shows.{Shows, is_root, shown_names}
use Rattle.qx_names.proofs.EntryLemmas.{empty_alone, names_are_those}
use Rattle.qx_names.proofs.MovedLemmas.{Shows-moved}
use Rattle.qx_names.proofs.PairLemmas.{find-pairs, insert-changes, pairs-names, pairs_of, remove-changes, rename-moves, sorted-pairs}
use Rattle.qx_names.specs.inner.Shows.{key_total, key-IsAntisymmetric}
use Rattle.qx_names.proofs.MapLemmas.{removed_apart}
use Rattle.qx_names.proofs.PathLemmas.{is_named, path_is}
use Rattle.qx_names.proofs.ShowsLemmas.{entry_under, Shows-empty, Shows-insert, Shows-push, Shows-remove, names_shown, root_shown, unnamed_now}

looked_for : (roots : List ℕ) (root : ℕ) → list_any (nat_eq root) roots ≡ is_root roots root
looked_for [] root = refl
looked_for (first ∷ roots) root = rw (nat_eq_equiv.symm root first, looked_for roots root) refl

-- nothing is named at first
pub new_shows : (roots : List ℕ) (folders : Entries) → roots ≡ [] → folders ≡ map.empty → Shows (is_root roots) (entry_at folders) map.empty
new_shows roots folders e f = rw (e, f) (Shows-empty (entry_at map.empty) (λ directory name. map.get-empty _ (directory, name)))

module _ (roots : List ℕ) (folders : Entries) (kept : (names : Names) × Shows (is_root roots) (entry_at folders) names) (now : Names) (view : shown_names (is_root roots) (entry_at folders) kept ≡ now) where
  pub shows_now : Shows (is_root roots) (entry_at folders) now
  shows_now = subst (Shows (is_root roots) (entry_at folders)) view (names_shown (is_root roots) (entry_at folders) kept)

  -- the directories give the same entries
  pub same_shows : (new : Entries) → new ≡ folders → Shows (is_root roots) (entry_at new) now
  same_shows new e = subst (λ entry. Shows (is_root roots) entry now) (sym (ap entry_at e)) shows_now

  is_new : (root : ℕ) → HasNoPath now root → (b : Bool) → is_root roots root ≡ b → is_root roots root ≡ false
  is_new root unnamed true e = absurd (unnamed (root_key root) (root_shown (is_root roots) (entry_at folders) now shows_now root ∙ ap (λ b. if b then Some root else None) e))
  is_new root unnamed false e = e

  pub rooted_once : (new : List ℕ) (root : ℕ) → new ≡ roots ++ root ∷ [] → HasNoPath now root → IsDistinct nat_eq roots → IsDistinct nat_eq new
  rooted_once new root e unnamed once = rw e (IsDistinct-push nat_eq_equiv roots root once (looked_for roots root ∙ is_new root unnamed (is_root roots root) refl))

  pub root_shows : (new : List ℕ) (root : ℕ) → new ≡ roots ++ root ∷ [] → HasNoPath now root → Shows (is_root new) (entry_at folders) (with_root now root)
  root_shows new root e unnamed = subst (λ rs. Shows (is_root rs) (entry_at folders) (with_root now root)) (sym e) (Shows-push roots (entry_at folders) now shows_now root unnamed)

  pub insert_shows : (new : Entries) (directory : ℕ) (name : List ℕ) (inode : ℕ) → HasPath now directory → map.get now (under (path_of now directory) name) ≡ None → HasNoPath now inode → new ≡ map.insert folders (directory, name) inode
      → Shows (is_root roots) (entry_at new) (map.insert now (under (path_of now directory) name) inode)
  insert_shows new directory name inode named free unnamed changes =
      Shows-insert (is_root roots) (entry_at folders) now shows_now (entry_at new) (path_of now directory) directory inode name named free unnamed (insert-changes folders new directory name inode changes)

  -- an entry is put in, or nothing changes
  pub put_kept : (r : Result (Unit {0}) AllocError) (new : Entries) (directory : ℕ) (name : List ℕ) (inode : ℕ) → HasPath now directory → map.get now (under (path_of now directory) name) ≡ None → HasNoPath now inode → OnOk r (new ≡ map.insert folders (directory, name) inode) → OnErr r (new ≡ folders)
      → (names : Names) × Shows (is_root roots) (entry_at new) names
  put_kept (Ok done) new directory name inode named free unnamed ok err = (_, insert_shows new directory name inode named free unnamed ok)
  put_kept (Err error) new directory name inode named free unnamed ok err = (now, same_shows new err)

  alone : (key : Key) → IfSome (map.get now key) (λ inode. names_in now inode ≡ []) → (value : ℕ) → map.get now key ≡ Some value → (last : List ℕ) → entry_at folders value last ≡ None
  alone key empty value e last = empty_alone (is_root roots) (entry_at folders) now shows_now value (subst (λ x. IfSome x (λ inode. names_in now inode ≡ [])) e empty) last

  module _ (new : Entries) (directory : ℕ) (name : List ℕ) (named : HasPath now directory) (empty : IfSome (map.get now (under (path_of now directory) name)) (λ inode. names_in now inode ≡ [])) (changes : new ≡ map.remove folders (directory, name)) where
    pub remove_shows : Shows (is_root roots) (entry_at new) (map.remove now (under (path_of now directory) name))
    remove_shows = Shows-remove (is_root roots) (entry_at folders) now shows_now (entry_at new) (path_of now directory) directory name named (alone (under (path_of now directory) name) empty) (remove-changes folders new directory name changes)

    -- other paths lead where they led
    pub removed_others : (other : ℕ) → HasPath now other → (path_of now other ≡ under (path_of now directory) name → ⊥) → HasPath (map.remove now (under (path_of now directory) name)) other × (path_of (map.remove now (under (path_of now directory) name)) other ≡ path_of now other)
    removed_others other led apart =
        let still : map.get (map.remove now (under (path_of now directory) name)) (path_of now other) ≡ Some other = removed_apart key_total key-IsAntisymmetric now (under (path_of now directory) name) (path_of now other) apart ∙ led in
        (is_named (map.remove now (under (path_of now directory) name)) (path_of now other) other still, path_is (is_root roots) (entry_at new) (map.remove now (under (path_of now directory) name)) remove_shows (path_of now other) other still)

    unnamed_by : (x : Option ℕ) → map.get now (under (path_of now directory) name) ≡ x → IfSome x (HasNoPath (map.remove now (under (path_of now directory) name)))
    unnamed_by None e = tt
    unnamed_by (Some value) e = unnamed_now (is_root roots) (entry_at folders) now shows_now (entry_at new) (path_of now directory) directory name named (alone (under (path_of now directory) name) empty) (remove-changes folders new directory name changes) value e

    pub removed_unnamed : IfSome (map.get now (under (path_of now directory) name)) (HasNoPath (map.remove now (under (path_of now directory) name)))
    removed_unnamed = unnamed_by _ refl

  -- the names in a directory
  pub folder_names : (directory : ℕ) → names_in now directory ≡ names_of directory (map.entries folders)
  folder_names directory =
      names_are_those (is_root roots) (entry_at folders) now shows_now directory (pairs_of directory (map.entries folders)) (sorted-pairs directory (map.entries folders) (map.entries_sorted folders))
      (λ name. find-pairs directory name (map.entries folders) ∙ sym (map.get-entries folders (directory, name)))
      ∙ pairs-names directory (map.entries folders)

  -- an entry goes to another place
  module _ (new : Entries) (source target : ℕ) (last next : List ℕ) (named : HasPath now source) (led : HasPath now target) (inode : ℕ) (there : map.get now (under (path_of now source) last) ≡ Some inode) (free : map.get now (under (path_of now target) next) ≡ None) (outside : is_below (under (path_of now source) last) (path_of now target).0 (next ∷ (path_of now target).1) ≡ false) (is : (inode : ℕ) → entry_at folders source last ≡ Some inode → new ≡ map.insert (map.remove folders (source, last)) (target, next) inode) where
    pub entry_there : entry_at folders source last ≡ Some inode
    entry_there = sym (entry_under (is_root roots) (entry_at folders) now shows_now (path_of now source) source last named) ∙ there

    pub rename_shows : Shows (is_root roots) (entry_at new) (moved now (under (path_of now source) last) (under (path_of now target) next))
    rename_shows =
        Shows-moved (is_root roots) (entry_at folders) (entry_at new) now shows_now (path_of now source) (path_of now target) source target inode last next named led there free outside
        (rename-moves folders new source last target next inode entry_there (sym (entry_under (is_root roots) (entry_at folders) now shows_now (path_of now target) target next led) ∙ free) (is inode entry_there))

  -- a directory in which a name is free has no such entry
  pub free_entry : (directory : ℕ) (name : List ℕ) → HasPath now directory → map.get now (under (path_of now directory) name) ≡ None → entry_at folders directory name ≡ None
  free_entry directory name named free = sym (entry_under (is_root roots) (entry_at folders) now shows_now (path_of now directory) directory name named) ∙ free
