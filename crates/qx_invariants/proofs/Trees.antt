-- Paths lead through directories, by components, whatever happens.
use Rattle.std.proofs.Common.{◌≡◌, ◌≢◌, ◌⊎◌, inl, inr, ℕ, false, List, [], ◌∷◌, length, refl, sym, ap, ◌∙◌, subst}
use Rattle.std.specs.Prelude.{Some, None, option_map}
use Rattle.std.specs.FinMap.{get, insert}
use Rattle.std.proofs.lemmas.Bool.{cases_eq}
use Rattle.qx_wire.specs.Rests.{is_component}
use Rattle.qx_machine.specs.declared.rows.Attribute.{Attribute}
use Rattle.qx_machine.specs.declared.rows.Kind.{Kind}
use Rattle.qx_machine.specs.Attributes.{root_attribute}
use Rattle.qx_machine.specs.Defaults.{without_block, without_unused}
use Rattle.qx_machine.specs.Inodes.{new_attribute}
use Rattle.qx_machine.specs.Names.{Key, Names, is_below, is_directory, root_key, under}
use Rattle.qx_machine.specs.PipeManager.{filled}
use Rattle.qx_machine.specs.Mounting.{with_mount}
use Rattle.qx_paths.specs.Mounts.{mounted}
use Rattle.qx_paths.specs.Prefixes.{MountPoint}
use Rattle.std.proofs.lemmas.List.Elements.{All-append, All-cons, All-nil, All-weaker}
use Rattle.std.specs.Prelude.{All}
use Rattle.qx_machine.specs.Resources.{Resources, resized, with_empty}
use Rattle.qx_isolation.specs.Rows.{row_at, with_row}
use Rattle.qx_isolation.proofs.Places.{row_at-set_other}
use Rattle.qx_invariants.specs.Changes.{ResourceChange, Closes, Comes, Fills, IsDirectoryAt, MayHappen, Mounts, Touches, Unlinks, Writes, with_change, touched, without_link, with_changed, with_named, with_unlinked, Renames}
use Rattle.qx_invariants.specs.Holds.{HasMounts, HasNames, HasRoom, HasTree, IsEntry}
use Rattle.qx_iofunc.proofs.PlaceLemmas.{put_at}
use Rattle.qx_invariants.proofs.Rows.{IsNew, content_cases, empty_cases, freed, inode_is_new, put_there, unused_cases, with_row-at, with_row-other, filled-kind}
use Rattle.qx_names.proofs.Keys.{nothing_behind, insert-at, insert-cases, insert-other, not_root, remove-kept, remove-other}
use Rattle.qx_invariants.proofs.Named.{HasNamesBut, close_names, free_root, led_above, unlink_names, unused_unnamed}
use Rattle.qx_names.proofs.MovedLemmas.{go}
use Rattle.qx_names.proofs.Moved.{came_entry, is_led, two_stays}

-- an attribute's kind stays
abbrev SameKind : (Attribute → Attribute) → Type 0
SameKind change = (a : Attribute) → (change a).kind ≡ a.kind

changed_directory : (r : Resources) (inode : ℕ) (change : Attribute → Attribute) → SameKind change → (above : Key) → IsDirectoryAt r above → IsDirectoryAt (with_changed inode change r) above
changed_directory r inode change same above d = elim (cases_eq d.inode inode) [
  | inl is ↦ record {
    inode = d.inode;
    attribute = change d.attribute;
    leads = d.leads;
    there = ap (row_at (with_row r.inodes.attributes inode change)) is ∙ (with_row-at r.inodes.attributes inode change ∙ ap (option_map change) (ap (row_at r.inodes.attributes) (sym is) ∙ d.there));
    directory = ap is_directory (same d.attribute) ∙ d.directory;
  }
  | inr apart ↦ record { inode = d.inode; attribute = d.attribute; leads = d.leads; there = with_row-other r.inodes.attributes inode change d.inode apart ∙ d.there; directory = d.directory }
]

come_directory : (r : Resources) (inode : ℕ) (key : Key) (attribute : Attribute) → IsNew r.inodes.attributes r.inodes.most_inodes inode → get r.names key ≡ None → (above : Key) → IsDirectoryAt r above → IsDirectoryAt (with_named inode key attribute r) above
come_directory r inode key attribute new missing above d = record {
  inode = d.inode;
  attribute = d.attribute;
  leads = insert-other r.names key inode above d.inode missing d.leads;
  there = put_there r.inodes.attributes inode attribute d.inode d.attribute new.within new.free d.there;
  directory = d.directory;
}

unlinked_directory : (r : Resources) (inode : ℕ) (key : Key) (mtime ctime : ℕ) (above : Key) → above ≢ key → IsDirectoryAt r above → IsDirectoryAt (with_unlinked inode key mtime ctime r) above
unlinked_directory r inode key mtime ctime above apart d =
    let kept = changed_directory r inode (without_link mtime ctime) (λ a. refl) above d in
    record { inode = kept.inode; attribute = kept.attribute; leads = remove-other r.names key above kept.inode kept.leads apart; there = kept.there; directory = kept.directory }

freed_directory : (r : Resources) (inode : ℕ) → ((key : Key) → get r.names key ≢ Some inode) → (above : Key) → IsDirectoryAt r above → IsDirectoryAt (freed inode r) above
freed_directory r inode unnamed above d = record {
  inode = d.inode;
  attribute = d.attribute;
  leads = d.leads;
  there = row_at-set_other r.inodes.attributes inode d.inode None (λ same. unnamed above (d.leads ∙ ap Some same)) ∙ d.there;
  directory = d.directory;
}

-- what stands in names and attributes alone is seen
seen_directory : (r now : Resources) → now.names ≡ r.names → now.inodes.attributes ≡ r.inodes.attributes → (above : Key) → IsDirectoryAt r above → IsDirectoryAt now above
seen_directory r now names attributes above d = record {
  inode = d.inode;
  attribute = d.attribute;
  leads = ap (λ (n : Names). get n above) names ∙ d.leads;
  there = ap (λ rows. row_at rows d.inode) attributes ∙ d.there;
  directory = d.directory;
}

unused_same : (own : Kind) (inode : ℕ) (r : Resources) → (without_unused own inode r).names ≡ r.names
unused_same own inode r = unused_cases (λ (s : Resources). s.names ≡ r.names) own inode r (λ gone. content_cases (λ (s : Resources). s.names ≡ r.names) own inode (freed inode r) (λ is. refl) (λ is. refl) (λ is. refl)) (λ stays. refl)

unused_directory : (own : Kind) (inode : ℕ) (r : Resources) → HasNamesBut r inode → (above : Key) → IsDirectoryAt r above → IsDirectoryAt (without_unused own inode r) above
unused_directory own inode r names above d =
    unused_cases (λ s. IsDirectoryAt s above) own inode r
    (λ gone. let less = freed_directory r inode (unused_unnamed r inode names gone) above d in
    content_cases (λ s. IsDirectoryAt s above) own inode (freed inode r) (λ is. seen_directory (freed inode r) _ refl refl above less) (λ is. seen_directory (freed inode r) _ refl refl above less) (λ is. less))
    (λ stays. d)

abbrev first_of_path : List (List ℕ) → List ℕ
first_of_path [] = []
first_of_path (name ∷ above) = name

abbrev rest_of_path : List (List ℕ) → List (List ℕ)
rest_of_path [] = []
rest_of_path (name ∷ above) = above

-- a path tells its last name and its directory
same_entry : (above directory : Key) (one two : List ℕ) → under above one ≡ under directory two → (above ≡ directory) × (one ≡ two)
same_entry above directory one two same = (λ i. ((same i).0, ap rest_of_path (ap (λ (key : Key). key.1) same) i), ap first_of_path (ap (λ (key : Key). key.1) same))

-- a directory's path becomes another
moved_directory : (r : Resources) → HasTree r → HasNames r → (one two : Key) (last next : List ℕ) → get r.names (under two next) ≡ None → is_below (under one last) two.0 (next ∷ two.1) ≡ false → (above : Key) → IsDirectoryAt r above → IsDirectoryAt (with_change (Renames one last two next) r) (go (under one last) (under two next) above)
moved_directory r tree names one two last next free outside above d = record {
  inode = d.inode;
  attribute = d.attribute;
  leads = is_led r.names names.single (led_above r tree) one two last next free outside above d.inode d.leads;
  there = d.there;
  directory = d.directory;
}

-- a directory's path that is not unlinked leads to a directory still
abbrev IsNotUnlinked : ResourceChange → Key → Type 0
IsNotUnlinked (Unlinks own directory name inode mtime ctime) above = above ≢ under directory name
IsNotUnlinked (Renames above name directory next) other = go (under above name) (under directory next) other ≡ other
IsNotUnlinked _ above = Unit {0}

directory_stays : (change : ResourceChange) (r : Resources) → MayHappen change r → HasRoom r → HasTree r → HasNames r → (above : Key) → IsNotUnlinked change above → IsDirectoryAt r above → IsDirectoryAt (with_change change r) above
directory_stays (Mounts mount) r may room tree names above apart d =
    let new = inode_is_new r.inodes mount.root room.some_inodes may.0 in
    seen_directory (with_named mount.root (root_key mount.root) (root_attribute r.user) r) _ refl refl above (come_directory r mount.root (root_key mount.root) (root_attribute r.user) new (free_root r names mount.root new.free) above d)
directory_stays (Comes inode directory name which mode moment) r may room tree names above apart d =
    let named = with_named inode (under directory name) (new_attribute which mode r.user moment) r in
    let more = come_directory r inode (under directory name) (new_attribute which mode r.user moment) (inode_is_new r.inodes inode room.some_inodes may.0) may.2 above d in
    empty_cases (λ s. IsDirectoryAt s above) which inode named (λ is. seen_directory named _ refl refl above more) (λ is. seen_directory named _ refl refl above more) (λ is. more)
directory_stays (Touches inode mode mtime ctime) r may room tree names above apart d = changed_directory r inode (touched mode mtime ctime) (λ a. refl) above d
directory_stays (Writes inode moment bytes) r may room tree names above apart d = seen_directory (with_changed inode (resized (length bytes) moment) r) _ refl refl above (changed_directory r inode (resized (length bytes) moment) (λ a. refl) above d)
directory_stays (Fills inode moment after came) r may room tree names above apart d = seen_directory (with_changed inode (filled moment after) r) _ refl refl above (changed_directory r inode (filled moment after) (filled-kind moment after) above d)
directory_stays (Unlinks own directory name inode mtime ctime) r may room tree names above apart d =
    unused_directory own inode (with_unlinked inode (under directory name) mtime ctime r) (unlink_names r names inode (under directory name) mtime ctime may.0) above (unlinked_directory r inode (under directory name) mtime ctime above apart d)
directory_stays (Closes own number block parting) r may room tree names above apart d = unused_directory own block.inode (without_block number r) (close_names r names number block may.0) above (seen_directory r _ refl refl above d)
directory_stays (Renames one last two next) r may room tree names above apart d = subst (IsDirectoryAt (with_change (Renames one last two next) r)) apart (moved_directory r tree names one two last next may.1 may.3 above d)
directory_stays _ r may room tree names above apart d = seen_directory r _ refl refl above d

-- ---- names

unlinked_was : (own : Kind) (key : Key) (inode mtime ctime : ℕ) (r : Resources) (other : Key) (m : ℕ) → get (without_unused own inode (with_unlinked inode key mtime ctime r)).names other ≡ Some m → get r.names other ≡ Some m
unlinked_was own key inode mtime ctime r other m leads = (remove-kept r.names key other m (subst (λ (names : Names). get names other ≡ Some m) (unused_same own inode (with_unlinked inode key mtime ctime r)) leads)).0

-- names are not moved
abbrev IsNoRename : ResourceChange → Type 0
IsNoRename (Renames above name directory next) = ⊥
IsNoRename _ = Unit {0}

-- a name that leads somewhere is no new one, or comes into a directory
new_entry : (change : ResourceChange) (r : Resources) → IsNoRename change → MayHappen change r → (above : Key) (name : List ℕ) (inode : ℕ) → get (with_change change r).names (under above name) ≡ Some inode → (get r.names (under above name) ≡ Some inode) ⊎ IsEntry r above name
new_entry (Mounts mount) r no_rename may above name inode leads = elim (insert-cases r.names (root_key mount.root) mount.root (under above name) inode leads) [ inl new ↦ absurd (not_root mount.root above name new.0) | inr was ↦ inl was ]
new_entry (Comes at directory of kind mode moment) r no_rename may above name inode leads = elim (insert-cases r.names (under directory of) at (under above name) inode (subst (λ (names : Names). get names (under above name) ≡ Some inode) same leads)) [
  | inl new ↦ let both = same_entry above directory name of new.0 in inr (record { component = ap is_component both.1 ∙ may.3; directory = subst (IsDirectoryAt r) (sym both.0) may.1 })
  | inr was ↦ inl was
]
  where
    same : (with_empty kind at (with_named at (under directory of) (new_attribute kind mode r.user moment) r)).names ≡ insert r.names (under directory of) at
    same = empty_cases (λ (s : Resources). s.names ≡ insert r.names (under directory of) at) kind at _ (λ is. refl) (λ is. refl) (λ is. refl)
new_entry (Unlinks own directory of at mtime ctime) r no_rename may above name inode leads = inl (unlinked_was own (under directory of) at mtime ctime r (under above name) inode leads)
new_entry (Renames above name directory next) r no_rename may other last inode leads = absurd no_rename
new_entry (Closes own number block parting) r no_rename may above name inode leads = inl (subst (λ (names : Names). get names (under above name) ≡ Some inode) (unused_same own block.inode (without_block number r)) leads)
new_entry _ r no_rename may above name inode leads = inl leads

-- nor is it in a directory that was unlinked, which was empty
not_behind : (change : ResourceChange) (r : Resources) → IsNoRename change → MayHappen change r → (above : Key) (name : List ℕ) (inode : ℕ) → get (with_change change r).names (under above name) ≡ Some inode → IsNotUnlinked change above
not_behind (Unlinks own directory of at mtime ctime) r no_rename may above name inode leads = λ same.
    nothing_behind r.names at above (ap (get r.names) same ∙ may.0) name may.1 inode (unlinked_was own (under directory of) at mtime ctime r (under above name) inode leads)
not_behind (Renames above name directory next) r no_rename may other last inode leads = absurd no_rename
not_behind _ r no_rename may above name inode leads = tt

kept_tree : (change : ResourceChange) (r : Resources) → IsNoRename change → MayHappen change r → HasRoom r → HasNames r → HasTree r → HasTree (with_change change r)
kept_tree change r no_rename may room names h = record {
  entries = λ above name inode leads.
      let entry : IsEntry r above name = elim (new_entry change r no_rename may above name inode leads) [ inl was ↦ h.entries above name inode was | inr new ↦ new ] in
      record { component = entry.component; directory = directory_stays change r may room h names above (not_behind change r no_rename may above name inode leads) entry.directory };
}

pub tree-keeps : (change : ResourceChange) (r : Resources) → MayHappen change r → HasRoom r → HasNames r → HasTree r → HasTree (with_change change r)
tree-keeps (Renames one last two next) r may room names h = record {
  entries = λ above name inode leads. elim (came_entry r.names names.single (led_above r h) one two last next may.1 may.3 above name inode leads) [
    | inl new ↦ record {
      component = ap is_component new.1 ∙ may.2;
      directory = subst (IsDirectoryAt (with_change (Renames one last two next) r)) (two_stays r.names names.single (led_above r h) one two last next may.1 may.3 ∙ sym new.0) (moved_directory r h names one two last next may.1 may.3 two may.0);
    }
    | inr was ↦ record {
      component = (h.entries was.0 name inode was.1.0).component;
      directory = subst (IsDirectoryAt (with_change (Renames one last two next) r)) was.1.1 (moved_directory r h names one two last next may.1 may.3 was.0 (h.entries was.0 name inode was.1.0).directory);
    }
  ];
}
tree-keeps change r may room names h = kept_tree change r tt may room names h

-- ---- mounts

root_not_unlinked : (change : ResourceChange) (root : ℕ) → IsNotUnlinked change (root_key root)
root_not_unlinked (Unlinks own directory name inode mtime ctime) root = λ same. not_root root directory name (sym same)
root_not_unlinked (Renames above name directory next) root = refl
root_not_unlinked _ root = tt

-- the mounts are the same, or one more
abbrev mounts_before : ResourceChange → Resources → Resources → Type 0
mounts_before (Mounts mount) r now = now.mounts ≡ mounted r.mounts mount.prefix mount.manager mount.root
mounts_before _ r now = now.mounts ≡ r.mounts

unused_mounts : (own : Kind) (inode : ℕ) (r : Resources) → (without_unused own inode r).mounts ≡ r.mounts
unused_mounts own inode r = unused_cases (λ (s : Resources). s.mounts ≡ r.mounts) own inode r (λ gone. content_cases (λ (s : Resources). s.mounts ≡ r.mounts) own inode (freed inode r) (λ is. refl) (λ is. refl) (λ is. refl)) (λ stays. refl)

pub same_mounts : (change : ResourceChange) (r : Resources) → mounts_before change r (with_change change r)
same_mounts (Comes inode directory name which mode moment) r = empty_cases (λ (s : Resources). s.mounts ≡ r.mounts) which inode (with_named inode (under directory name) (new_attribute which mode r.user moment) r) (λ is. refl) (λ is. refl) (λ is. refl)
same_mounts (Unlinks own directory name inode mtime ctime) r = unused_mounts own inode (with_unlinked inode (under directory name) mtime ctime r)
same_mounts (Closes own number block parting) r = unused_mounts own block.inode (without_block number r)
same_mounts (Mounts mount) r = refl
same_mounts _ r = refl

stay_mounts : (change : ResourceChange) (r : Resources) → MayHappen change r → HasRoom r → HasTree r → HasNames r → HasMounts r → (with_change change r).mounts ≡ r.mounts → HasMounts (with_change change r)
stay_mounts change r may room tree names h same = record {
  rooted = subst (All (λ (mount : MountPoint). IsDirectoryAt (with_change change r) (root_key mount.root))) (sym same)
      (All-weaker (λ (mount : MountPoint). IsDirectoryAt r (root_key mount.root)) (λ (mount : MountPoint). IsDirectoryAt (with_change change r) (root_key mount.root)) (λ mount d. directory_stays change r may room tree names (root_key mount.root) (root_not_unlinked change mount.root) d) r.mounts h.rooted);
}

pub mounts-keep : (change : ResourceChange) (r : Resources) → MayHappen change r → HasRoom r → HasTree r → HasNames r → HasMounts r → HasMounts (with_change change r)
mounts-keep (Mounts mount) r may room tree names h = record {
  rooted = All-append (λ (m : MountPoint). IsDirectoryAt (with_mount mount r) (root_key m.root)) r.mounts (record { prefix = mount.prefix; manager = mount.manager; root = mount.root } ∷ [])
      (All-weaker (λ (m : MountPoint). IsDirectoryAt r (root_key m.root)) (λ (m : MountPoint). IsDirectoryAt (with_mount mount r) (root_key m.root)) (λ m d. directory_stays (Mounts mount) r may room tree names (root_key m.root) tt d) r.mounts h.rooted)
      (All-cons (λ (m : MountPoint). IsDirectoryAt (with_mount mount r) (root_key m.root)) (record { prefix = mount.prefix; manager = mount.manager; root = mount.root }) [] (record {
        inode = mount.root;
        attribute = root_attribute r.user;
        leads = insert-at r.names (root_key mount.root) mount.root;
        there = put_at r.inodes.attributes mount.root (root_attribute r.user) (inode_is_new r.inodes mount.root room.some_inodes may.0).within;
        directory = refl;
      }) (All-nil (λ (m : MountPoint). IsDirectoryAt (with_mount mount r) (root_key m.root))));
}
mounts-keep change r may room tree names h = stay_mounts change r may room tree names h (same_mounts change r)
