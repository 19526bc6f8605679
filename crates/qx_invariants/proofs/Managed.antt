-- What a path in a mount leads to is a directory or of its manager's kind, and so is what a client has open at a manager, whatever happens.
use Rattle.std.proofs.Common.{◌≡◌, ◌⊎◌, inl, inr, ℕ, zero, suc, true, false, List, [], ◌∷◌, ◌++◌, length, refl, sym, ap, ◌∙◌, subst}
use Rattle.std.specs.Prelude.{Some, None, is_some, slice_get}
use Rattle.std.specs.FinMap.{get}
use Rattle.std.specs.List.{AllByRecursion}
use Rattle.std.proofs.lemmas.List.Elements.{recursion_from_All}
use Rattle.std.proofs.lemmas.Option.{same_Some}
use Rattle.qx_types.specs.declared.names.Manager.{Manager}
use Rattle.qx_types.specs.declared.names.Manager.TheVariants.{Ram}
use Rattle.qx_paths.specs.Mounts.{boot_mounts}
use Rattle.qx_paths.specs.Prefixes.{MountPoint}
use Rattle.qx_machine.specs.declared.rows.Attribute.{Attribute}
use Rattle.qx_machine.specs.declared.rows.Client.{Client}
use Rattle.qx_machine.specs.declared.rows.Kind.{Kind}
use Rattle.qx_machine.specs.declared.rows.Kind.TheVariants as kind
use Rattle.qx_machine.specs.declared.rows.Ocb.{Ocb}
use Rattle.qx_machine.specs.Attributes.{root_attribute, top_inode}
use Rattle.qx_machine.specs.Defaults.{is_own, without_block, without_unused}
use Rattle.qx_machine.specs.Inodes.{Inodes, new_attribute}
use Rattle.qx_machine.specs.Managers.{own_kind}
use Rattle.qx_types.specs.UserLimits.{UserLimits}
use Rattle.qx_machine.specs.Mounting.{new_resources, with_mount}
use Rattle.qx_machine.specs.Names.{Key, Names, is_directory, root_key, under}
use Rattle.qx_machine.specs.PipeManager.{filled}
use Rattle.qx_machine.specs.Resources.{Resources, resized, with_empty}
use Rattle.qx_isolation.specs.Rows.{row_at}
use Rattle.qx_isolation.proofs.Places.{row_at-set_cases}
use Rattle.qx_iofunc.proofs.PlaceLemmas.{put_at}
use Rattle.qx_invariants.specs.Changes.{Abandons, Closes, Comes, Fills, IsDirectoryAt, IsMoved, LeadsTo, MayHappen, Mounts, Moves, Notifies, Opens, Renames, ResourceChange, Touches, Unlinks, Writes, moved, touched, with_change, with_changed, with_moved, with_named, with_unlinked, without_link}
use Rattle.qx_invariants.specs.Holds.{HasKinds, HasMounts, HasNames, HasTree}
use Rattle.qx_names.proofs.Moved.{same_mount, was_led}
use Rattle.qx_invariants.proofs.Named.{led_above}
use Rattle.qx_names.proofs.Keys.{insert-cases, remove-kept}
use Rattle.qx_invariants.proofs.Rows.{IsNew, block_is_new, content_cases, empty_cases, filled-kind, freed, inode_is_new, put_cases, unused_cases, with_row-was}
use Rattle.qx_invariants.proofs.Together.{Holds, none_there, the_root}

-- ---- mounts

-- a manager is mounted with this root
pub record IsMounted (mounts : List MountPoint) (manager : Manager) (root : ℕ) : Type 0 where
  pub number : ℕ
  pub mount : MountPoint
  pub there : slice_get mounts number ≡ Some mount
  pub manager_is : mount.manager ≡ manager
  pub root_is : mount.root ≡ root

module _ {A : Type 0} where
  slice_get-append : (xs ys : List A) (n : ℕ) (x : A) → slice_get xs n ≡ Some x → slice_get (xs ++ ys) n ≡ Some x
  slice_get-append [] ys n x is = absurd (cc)
  slice_get-append (y ∷ xs) ys zero x is = is
  slice_get-append (y ∷ xs) ys (suc n) x is = slice_get-append xs ys n x is

  -- what is there once one came last was there or is that
  slice_get-last : (xs : List A) (y : A) (n : ℕ) (x : A) → slice_get (xs ++ y ∷ []) n ≡ Some x → (slice_get xs n ≡ Some x) ⊎ (y ≡ x)
  slice_get-last [] y zero x is = inr (same_Some _ _ is)
  slice_get-last [] y (suc n) x is = absurd (cc)
  slice_get-last (z ∷ xs) y zero x is = inl is
  slice_get-last (z ∷ xs) y (suc n) x is = slice_get-last xs y n x is

  all-at : (P : A → Type 0) (xs : List A) (n : ℕ) (x : A) → AllByRecursion P xs → slice_get xs n ≡ Some x → P x
  all-at P [] n x all is = absurd (cc)
  all-at P (y ∷ xs) zero x all is = subst P (same_Some _ _ is) all.0
  all-at P (y ∷ xs) (suc n) x all is = all-at P xs n x all.1 is

-- a mount stays as another comes
pub stays_mounted : (mounts : List MountPoint) (more : List MountPoint) (manager : Manager) (root : ℕ) → IsMounted mounts manager root → IsMounted (mounts ++ more) manager root
stays_mounted mounts more manager root is = record { number = is.number; mount = is.mount; there = slice_get-append mounts more is.number is.mount is.there; manager_is = is.manager_is; root_is = is.root_is }

-- the path of a mount's root leads to a directory
root_directory : (r : Resources) → HasMounts r → (number : ℕ) (mount : MountPoint) → slice_get r.mounts number ≡ Some mount → IsDirectoryAt r (root_key mount.root)
root_directory r h number mount there = all-at (λ (m : MountPoint). IsDirectoryAt r (root_key m.root)) r.mounts number mount (recursion_from_All (λ (m : MountPoint). IsDirectoryAt r (root_key m.root)) r.mounts h.rooted) there

-- where a path leads somewhere its mount's root is there
root_there : (r : Resources) → HasNames r → HasTree r → (root : ℕ) (path : List (List ℕ)) (inode : ℕ) → get r.names (root, path) ≡ Some inode → is_some (row_at r.inodes.attributes root) ≡ true
root_there r names tree root [] inode leads = ap (λ n. is_some (row_at r.inodes.attributes n)) (sym (names.roots root inode leads)) ∙ names.leads (root, []) inode leads
root_there r names tree root (name ∷ path) inode leads = let directory = (tree.entries (root, path) name inode leads).directory in root_there r names tree root path directory.inode directory.leads

-- ---- all that is to be shown

-- no two mounts of different managers have the same root
pub record HoldsKinds (r : Resources) : Type 0 where
  pub kinds : HasKinds r
  pub apart : (number other : ℕ) (mount another : MountPoint) → slice_get r.mounts number ≡ Some mount → slice_get r.mounts other ≡ Some another → mount.root ≡ another.root → mount.manager ≡ another.manager

-- mounts are the same, no more names lead anywhere, and what is there has the kind, and what is open the inode and the client, that it had
pub record IsLess (r now : Resources) : Type 0 where
  mounts : now.mounts ≡ r.mounts
  names : (key : Key) (inode : ℕ) → get now.names key ≡ Some inode → get r.names key ≡ Some inode
  attributes : (inode : ℕ) (attribute : Attribute) → row_at now.inodes.attributes inode ≡ Some attribute → (was : Attribute) × (row_at r.inodes.attributes inode ≡ Some was) × (was.kind ≡ attribute.kind)
  blocks : (number : ℕ) (block : Ocb) → row_at now.inodes.blocks number ≡ Some block → (was : Ocb) × (row_at r.inodes.blocks number ≡ Some was) × (was.inode ≡ block.inode) × (was.client ≡ block.client)

pub kinds-less : (r now : Resources) → IsLess r now → HoldsKinds r → HoldsKinds now
kinds-less r now less h = record {
  kinds = record {
    named = λ number mount there path inode attribute leads is.
        let was = less.attributes inode attribute is in
        ap (is_own (own_kind mount.manager)) (sym was.2) ∙ h.kinds.named number mount (ap (λ mounts. slice_get mounts number) (sym less.mounts) ∙ there) path inode was.0 (less.names (mount.root, path) inode leads) was.1;
    opened = λ number block attribute there is.
        let block_was = less.blocks number block there in
        let was = less.attributes block.inode attribute is in
        ap (λ (client : Client). is_own (own_kind client.server.manager) attribute.kind) (sym block_was.3)
        ∙ (ap (is_own (own_kind block_was.0.client.server.manager)) (sym was.2) ∙ h.kinds.opened number block_was.0 was.0 block_was.1 (ap (row_at r.inodes.attributes) block_was.2 ∙ was.1));
  };
  apart = λ number other mount another there also. h.apart number other mount another (ap (λ mounts. slice_get mounts number) (sym less.mounts) ∙ there) (ap (λ mounts. slice_get mounts other) (sym less.mounts) ∙ also);
}

-- ---- what is less

same_attribute : (r : Resources) (inode : ℕ) (attribute : Attribute) → row_at r.inodes.attributes inode ≡ Some attribute → (was : Attribute) × (row_at r.inodes.attributes inode ≡ Some was) × (was.kind ≡ attribute.kind)
same_attribute r inode attribute there = (attribute, there, refl)

same_block : (r : Resources) (number : ℕ) (block : Ocb) → row_at r.inodes.blocks number ≡ Some block → (was : Ocb) × (row_at r.inodes.blocks number ≡ Some was) × (was.inode ≡ block.inode) × (was.client ≡ block.client)
same_block r number block there = (block, there, refl, refl)

-- what stands in mounts, names and inodes alone is seen
pub same-less : (r now : Resources) → now.mounts ≡ r.mounts → now.names ≡ r.names → now.inodes ≡ r.inodes → IsLess r now
same-less r now mounts names inodes = record {
  mounts = mounts;
  names = λ key inode leads. ap (λ (all : Names). get all key) (sym names) ∙ leads;
  attributes = λ inode attribute there. (attribute, ap (λ (all : Inodes). row_at all.attributes inode) (sym inodes) ∙ there, refl);
  blocks = λ number block there. (block, ap (λ (all : Inodes). row_at all.blocks number) (sym inodes) ∙ there, refl, refl);
}

less_less : (r mid now : Resources) → IsLess r mid → IsLess mid now → IsLess r now
less_less r mid now first second = record {
  mounts = second.mounts ∙ first.mounts;
  names = λ key inode leads. first.names key inode (second.names key inode leads);
  attributes = λ inode attribute there. let one = second.attributes inode attribute there in let two = first.attributes inode one.0 one.1 in (two.0, two.1, two.2 ∙ one.2);
  blocks = λ number block there. let one = second.blocks number block there in let two = first.blocks number one.0 one.1 in (two.0, two.1, two.2 ∙ one.2, two.3 ∙ one.3);
}

-- an attribute changes, and not its kind
changed-less : (r : Resources) (inode : ℕ) (change : Attribute → Attribute) → ((a : Attribute) → (change a).kind ≡ a.kind) → IsLess r (with_changed inode change r)
changed-less r inode change same = record {
  mounts = refl;
  names = λ key m leads. leads;
  attributes = λ m attribute there. let was = with_row-was r.inodes.attributes inode change m attribute there in
      (was.0, was.1, elim was.2 [ inl stays ↦ ap (λ (a : Attribute). a.kind) stays.1 | inr is ↦ sym (same was.0) ∙ ap (λ (a : Attribute). a.kind) is.1 ]);
  blocks = same_block r;
}

freed-less : (r : Resources) (inode : ℕ) → IsLess r (freed inode r)
freed-less r inode = record {
  mounts = refl;
  names = λ key m leads. leads;
  attributes = λ m attribute there. elim (row_at-set_cases r.inodes.attributes inode m None attribute there) [ inl was ↦ (attribute, was, refl) | inr none ↦ absurd (cc) ];
  blocks = same_block r;
}

unused-less : (own : Kind) (inode : ℕ) (r : Resources) → IsLess r (without_unused own inode r)
unused-less own inode r =
    unused_cases (IsLess r) own inode r
    (λ gone. less_less r (freed inode r) _ (freed-less r inode)
    (content_cases (IsLess (freed inode r)) own inode (freed inode r) (λ is. same-less _ _ refl refl refl) (λ is. same-less _ _ refl refl refl) (λ is. same-less _ _ refl refl refl)))
    (λ stays. same-less r r refl refl refl)

moved-less : (r : Resources) (number : ℕ) (change : Ocb → Ocb) → ((block : Ocb) → row_at r.inodes.blocks number ≡ Some block → IsMoved block (change block)) → IsLess r (with_moved number change r)
moved-less r number change may = record {
  mounts = refl;
  names = λ key inode leads. leads;
  attributes = same_attribute r;
  blocks = λ n block there. let was = with_row-was r.inodes.blocks number change n block there in elim was.2 [
    | inl stays ↦ (was.0, was.1, ap (λ (b : Ocb). b.inode) stays.1, ap (λ (b : Ocb). b.client) stays.1)
    | inr is ↦
        let as_was = may was.0 (ap (row_at r.inodes.blocks) (sym is.0) ∙ was.1) in
        (was.0, was.1, sym as_was.inode ∙ ap (λ (b : Ocb). b.inode) is.1, sym as_was.client ∙ ap (λ (b : Ocb). b.client) is.1)
  ];
}

closed-less : (r : Resources) (number : ℕ) → IsLess r (without_block number r)
closed-less r number = record {
  mounts = refl;
  names = λ key inode leads. leads;
  attributes = same_attribute r;
  blocks = λ n block there. elim (row_at-set_cases r.inodes.blocks number n None block there) [ inl was ↦ (block, was, refl, refl) | inr none ↦ absurd (cc) ];
}

unlinked-less : (r : Resources) (inode : ℕ) (key : Key) (mtime ctime : ℕ) → IsLess r (with_unlinked inode key mtime ctime r)
unlinked-less r inode key mtime ctime =
    let less = changed-less r inode (without_link mtime ctime) (λ a. refl) in
    record { mounts = refl; names = λ other m leads. (remove-kept r.names key other m leads).0; attributes = less.attributes; blocks = less.blocks }

empty-less : (which : Kind) (inode : ℕ) (r : Resources) → IsLess r (with_empty which inode r)
empty-less which inode r = empty_cases (IsLess r) which inode r (λ is. same-less _ _ refl refl refl) (λ is. same-less _ _ refl refl refl) (λ is. same-less _ _ refl refl refl)

-- ---- what comes

-- an inode comes where none is, with a path
module _ (r : Resources) (all : Holds r) (h : HoldsKinds r) (inode : ℕ) (key : Key) (attribute : Attribute) (new : IsNew r.inodes.attributes r.inodes.most_inodes inode) where
  abbrev come : Resources
  come = with_named inode key attribute r

  -- what was there is as it was
  was_there : (m : ℕ) (now : Attribute) → is_some (row_at r.inodes.attributes m) ≡ true → row_at come.inodes.attributes m ≡ Some now → row_at r.inodes.attributes m ≡ Some now
  was_there m now some there = elim (put_cases r.inodes.attributes inode attribute new.within m now there) [
    | inl is ↦ let none : false ≡ true = ap is_some (sym new.free) ∙ (ap (λ n. is_some (row_at r.inodes.attributes n)) (sym is.0) ∙ some) in absurd (cc)
    | inr was ↦ was
  ]

  come_open : (number : ℕ) (block : Ocb) (now : Attribute) → row_at r.inodes.blocks number ≡ Some block → row_at come.inodes.attributes block.inode ≡ Some now → is_own (own_kind block.client.server.manager) now.kind ≡ true
  come_open number block now there is = h.kinds.opened number block now there (was_there block.inode now (all.names.opened number block there) is)

  come_named : (mount : MountPoint) → (mount.root ≡ key.0 → is_own (own_kind mount.manager) attribute.kind ≡ true) → ((path : List (List ℕ)) (m : ℕ) (now : Attribute) → get r.names (mount.root, path) ≡ Some m → row_at r.inodes.attributes m ≡ Some now → is_own (own_kind mount.manager) now.kind ≡ true)
      → (path : List (List ℕ)) (m : ℕ) (now : Attribute) → get come.names (mount.root, path) ≡ Some m → row_at come.inodes.attributes m ≡ Some now → is_own (own_kind mount.manager) now.kind ≡ true
  come_named mount its others path m now leads there = elim (insert-cases r.names key inode (mount.root, path) m leads) [
    | inl is ↦
        let same : attribute ≡ now = same_Some _ _ (sym (put_at r.inodes.attributes inode attribute new.within) ∙ (ap (row_at come.inodes.attributes) is.1 ∙ there)) in
        ap (λ (a : Attribute). is_own (own_kind mount.manager) a.kind) (sym same) ∙ its (ap (λ (k : Key). k.0) is.0)
    | inr was ↦ others path m now was (was_there m now (all.names.leads (mount.root, path) m was) there)
  ]

-- any manager has directories
directory-own : (own k : Kind) → is_directory k ≡ true → is_own own k ≡ true
directory-own own kind.Directory is = refl
directory-own own _ is = absurd (cc)

-- a mount comes with its root
pub mount_kinds : (r : Resources) → Holds r → HoldsKinds r → (mount : MountPoint) → MayHappen (Mounts mount) r → HoldsKinds (with_mount mount r)
mount_kinds r all h mount may = record {
  kinds = record {
    named = λ number other there path inode now leads is. elim (slice_get-last r.mounts mount number other there) [
      | inl was ↦ come_named r all h mount.root (root_key mount.root) (root_attribute r.user) new other (λ same. refl) (h.kinds.named number other was) path inode now leads is
      | inr own ↦ come_named r all h mount.root (root_key mount.root) (root_attribute r.user) new other (λ same. refl) (λ before m was led there. absurd (unled other own before m led)) path inode now leads is
    ];
    opened = come_open r all h mount.root (root_key mount.root) (root_attribute r.user) new;
  };
  apart = λ number other one two there also same. by one two number other (slice_get-last r.mounts mount number one there) (slice_get-last r.mounts mount other two also) same;
}
  where
    new : IsNew r.inodes.attributes r.inodes.most_inodes mount.root
    new = inode_is_new r.inodes mount.root all.room.some_inodes may.0

    free : (root : ℕ) → root ≡ mount.root → is_some (row_at r.inodes.attributes root) ≡ true → ⊥
    free root same some = let none : false ≡ true = ap is_some (sym new.free) ∙ (ap (λ n. is_some (row_at r.inodes.attributes n)) (sym same) ∙ some) in cc

    -- no path in it led anywhere
    unled : (other : MountPoint) → mount ≡ other → (path : List (List ℕ)) (m : ℕ) → get r.names (other.root, path) ≡ Some m → ⊥
    unled other own path m leads = free other.root (ap (λ (a : MountPoint). a.root) (sym own)) (root_there r all.names all.tree other.root path m leads)

    -- nor is it the root of another
    other_root : (number : ℕ) (other : MountPoint) → slice_get r.mounts number ≡ Some other → mount.root ≡ other.root → ⊥
    other_root number other there same = let directory = root_directory r all.mounts number other there in free other.root (sym same) (root_there r all.names all.tree other.root [] directory.inode directory.leads)

    by : (one two : MountPoint) (number other : ℕ) → (slice_get r.mounts number ≡ Some one) ⊎ (mount ≡ one) → (slice_get r.mounts other ≡ Some two) ⊎ (mount ≡ two) → one.root ≡ two.root → one.manager ≡ two.manager
    by one two number other (inl was) (inl also) same = h.apart number other one two was also same
    by one two number other (inl was) (inr new_is) same = absurd (other_root number one was (ap (λ (a : MountPoint). a.root) new_is ∙ sym same))
    by one two number other (inr new_is) (inl was) same = absurd (other_root other two was (ap (λ (a : MountPoint). a.root) new_is ∙ same))
    by one two number other (inr new_is) (inr also) same = ap (λ (a : MountPoint). a.manager) (sym new_is ∙ also)

-- ---- what happens

-- an inode comes in a mount whose manager's it is, and what is opened is of a path in a mount of the client's manager
abbrev pub IsFitting : List MountPoint → ResourceChange → Type 0
IsFitting mounts (Comes inode directory name which mode moment) = (number : ℕ) (mount : MountPoint) → slice_get mounts number ≡ Some mount → mount.root ≡ directory.0 → is_own (own_kind mount.manager) which ≡ true
IsFitting mounts (Opens number block at) = IsMounted mounts block.client.server.manager at.0
IsFitting mounts _ = Unit {0}

-- what is opened is of the kind of its client's manager
opened_own : (r : Resources) → Holds r → HoldsKinds r → (block : Ocb) (at : Key) → LeadsTo r at block.inode → IsMounted r.mounts block.client.server.manager at.0 → (now : Attribute) → row_at r.inodes.attributes block.inode ≡ Some now → is_own (own_kind block.client.server.manager) now.kind ≡ true
opened_own r all h block at leads fits now there =
    ap (λ manager. is_own (own_kind manager) now.kind) (sym fits.manager_is) ∙ by leads
  where
    by : LeadsTo r at block.inode → is_own (own_kind fits.mount.manager) now.kind ≡ true
    by (inl led) = h.kinds.named fits.number fits.mount fits.there at.1 block.inode now (ap (λ root. get r.names (root, at.1)) fits.root_is ∙ led) there
    by (inr root) =
        let directory = root_directory r all.mounts fits.number fits.mount fits.there in
        let its : directory.inode ≡ block.inode = all.names.roots fits.mount.root directory.inode directory.leads ∙ (fits.root_is ∙ ap (λ (key : Key). key.0) root) in
        let same : directory.attribute ≡ now = same_Some _ _ (sym directory.there ∙ (ap (row_at r.inodes.attributes) its ∙ there)) in
        directory-own (own_kind fits.mount.manager) now.kind (ap (λ (a : Attribute). is_directory a.kind) (sym same) ∙ directory.directory)

pub kinds-keep : (change : ResourceChange) (r : Resources) → MayHappen change r → Holds r → IsFitting r.mounts change → HoldsKinds r → HoldsKinds (with_change change r)
kinds-keep (Mounts mount) r may all fits h = mount_kinds r all h mount may
kinds-keep (Comes inode directory name which mode moment) r may all fits h =
    let new = inode_is_new r.inodes inode all.room.some_inodes may.0 in
    let attribute = new_attribute which mode r.user moment in
    let key = under directory name in
    kinds-less (with_named inode key attribute r) _ (empty-less which inode (with_named inode key attribute r)) (record {
      kinds = record {
        named = λ number mount there. come_named r all h inode key attribute new mount (fits number mount there) (h.kinds.named number mount there);
        opened = come_open r all h inode key attribute new;
      };
      apart = h.apart;
    })
kinds-keep (Touches inode mode mtime ctime) r may all fits h = kinds-less r _ (changed-less r inode (touched mode mtime ctime) (λ a. refl)) h
kinds-keep (Opens number block at) r may all fits h = record {
  kinds = record {
    named = h.kinds.named;
    opened = λ n other now there is. elim (put_cases r.inodes.blocks number block (block_is_new r.inodes number all.room.some_blocks may.0).within n other there) [
      | inl put ↦ subst (λ (b : Ocb). row_at r.inodes.attributes b.inode ≡ Some now → is_own (own_kind b.client.server.manager) now.kind ≡ true) put.1 (opened_own r all h block at may.3 fits now) is
      | inr was ↦ h.kinds.opened n other now was is
    ];
  };
  apart = h.apart;
}
kinds-keep (Moves number move) r may all fits h = kinds-less r _ (moved-less r number (moved move) may) h
kinds-keep (Writes inode moment bytes) r may all fits h = kinds-less r _ (less_less r (with_changed inode (resized (length bytes) moment) r) _ (changed-less r inode (resized (length bytes) moment) (λ a. refl)) (same-less _ _ refl refl refl)) h
kinds-keep (Fills inode moment after came) r may all fits h = kinds-less r _ (less_less r (with_changed inode (filled moment after) r) _ (changed-less r inode (filled moment after) (filled-kind moment after)) (same-less _ _ refl refl refl)) h
kinds-keep (Unlinks own directory name inode mtime ctime) r may all fits h =
    let unlinked = with_unlinked inode (under directory name) mtime ctime r in
    kinds-less r _ (less_less r unlinked _ (unlinked-less r inode (under directory name) mtime ctime) (unused-less own inode unlinked)) h
kinds-keep (Closes own number block parting) r may all fits h = kinds-less r _ (less_less r (without_block number r) _ (closed-less r number) (unused-less own block.inode (without_block number r))) h
kinds-keep (Renames above name directory next) r may all fits h = record {
  kinds = record {
    named = λ number mount there path inode attribute leads is.
        let was = was_led r.names (under above name) (under directory next) (mount.root, path) inode leads in
        let root : was.0.0 ≡ mount.root = sym (same_mount r.names all.names.single (led_above r all.tree) above directory name next may.1 may.3 may.4 was.0.0 was.0.1) ∙ ap (λ (key : Key). key.0) was.1.1 in
        h.kinds.named number mount there was.0.1 inode attribute (ap (λ m. get r.names (m, was.0.1)) (sym root) ∙ was.1.0) is;
    opened = h.kinds.opened;
  };
  apart = h.apart;
}
kinds-keep (Notifies events) r may all fits h = kinds-less r _ (same-less _ _ refl refl refl) h
kinds-keep (Abandons process) r may all fits h = kinds-less r _ (same-less _ _ refl refl refl) h

-- ---- at boot

pub boot_kinds : (limits : UserLimits) (user : ℕ) (name : List ℕ) → HoldsKinds (new_resources limits user name)
boot_kinds limits user name = record {
  kinds = record {
    named = λ number mount there path inode attribute leads is. ap (λ (a : Attribute). is_own (own_kind mount.manager) a.kind) (the_root limits user name inode attribute is).1;
    opened = λ number block attribute there is. let none : None ≡ Some block = sym (none_there number) ∙ there in absurd (cc);
  };
  apart = λ number other mount another there also same. ap (λ (m : MountPoint). m.manager) (sym (top number mount there) ∙ top other another also);
}
  where
    top : (number : ℕ) (mount : MountPoint) → slice_get (boot_mounts name top_inode) number ≡ Some mount → record { prefix = name ∷ []; manager = Ram; root = top_inode } ≡ mount
    top zero mount there = same_Some _ _ there
    top (suc number) mount there = absurd (cc)
