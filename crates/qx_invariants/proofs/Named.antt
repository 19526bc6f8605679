-- Names, links and open control blocks stand together, whatever happens.
use Rattle.std.proofs.Common.{◌≡◌, ◌≢◌, ◌⊎◌, inl, inr, ℕ, ◌==◌, ◌&&◌, ◌≤◌, Bool, true, false, List, ◌∷◌, refl, sym, ap, ◌∙◌, subst, arith}
use Rattle.std.specs.Prelude.{Option, Some, None, is_some, length, option_map, slice_set}
use Rattle.std.specs.FinMap.{get, insert, remove}
use Rattle.std.proofs.lemmas.Bool.{and_parts, cases_eq, eqb-true}
use Rattle.std.proofs.lemmas.Bool.Decides.{nat_tests}
use Rattle.std.proofs.lemmas.Option.{same_Some}
use Rattle.qx_machine.specs.declared.rows.Attribute.{Attribute}
use Rattle.qx_machine.specs.declared.rows.Kind.{Kind}
use Rattle.qx_machine.specs.declared.rows.Ocb.{Ocb}
use Rattle.qx_machine.specs.Files.{Files}
use Rattle.qx_machine.specs.Waiting.{Pipes}
use Rattle.qx_machine.specs.Attributes.{root_attribute}
use Rattle.qx_machine.specs.Defaults.{without_block, without_unused}
use Rattle.qx_machine.specs.Inodes.{Inodes, blocks_of, close_block, is_unused, new_attribute}
use Rattle.qx_machine.specs.Listings.{HasAtMostOnePath}
use Rattle.qx_machine.specs.Names.{Key, Names, is_below, root_key, under}
use Rattle.qx_machine.specs.Names.{moved as moved_all}
use Rattle.qx_machine.specs.PipeManager.{filled}
use Rattle.qx_machine.specs.Resources.{Resources, resized}
use Rattle.qx_isolation.specs.Rows.{put_row, row_at, with_row}
use Rattle.qx_isolation.proofs.Places.{row_at-set_cases, row_at-set_other}
use Rattle.qx_invariants.specs.Changes.{ResourceChange, Closes, Comes, Fills, IsMoved, MayHappen, Mounts, Moves, Opens, Touches, Unlinks, Writes, moved, with_change, touched, without_link, with_changed, with_moved, with_named, with_opened, with_unlinked, Renames}
use Rattle.qx_invariants.specs.Holds.{HasNames, HasRoom, IsNamed, IsUnnamed, HasTree}
use Rattle.qx_iofunc.proofs.PlaceLemmas.{put_at, row-freed}
use Rattle.qx_invariants.proofs.Rows.{IsNew, content_cases, empty_cases, freed, more_blocks, block_is_new, inode_is_new, not_open, other_blocks, put_other, same_blocks, unused_cases, with_row-at, with_row-other, filled-same, put_cases, with_row-some_at, with_row-was}
use Rattle.qx_names.proofs.MovedLemmas.{go}
use Rattle.qx_names.proofs.Moved.{is_led, roots_moved, single_moved, was_led}
use Rattle.qx_names.proofs.Keys.{insert-at, insert-cases, insert-other, not_root, remove-kept, remove-other}

-- ---- whether an inode is unused

still_some : (before now : ℕ) → before ≤ now → (before == 0) ≡ false → (now == 0) ≡ false
still_some before now more some = grind (arith, nat_tests, more, some)

-- what is used stays so while it has no fewer open control blocks
used_more : (inodes now : Inodes) (inode : ℕ) (row : Option Attribute) → blocks_of inodes inode ≤ blocks_of now inode → is_unused inodes inode row ≡ false → is_unused now inode row ≡ false
used_more inodes now inode None more used = refl
used_more inodes now inode (Some attribute) more used = by_links (attribute.links == 0) used
  where
    by_links : (none : Bool) → (none && (blocks_of inodes inode == 0)) ≡ false → (none && (blocks_of now inode == 0)) ≡ false
    by_links false some = refl
    by_links true some = still_some (blocks_of inodes inode) (blocks_of now inode) more some

-- what is unused is there, has no link, and is not open
pub unused_there : (inodes : Inodes) (inode : ℕ) (row : Option Attribute) → is_unused inodes inode row ≡ true → (attribute : Attribute) × (row ≡ Some attribute) × (attribute.links ≡ 0) × (blocks_of inodes inode ≡ 0)
unused_there inodes inode None unused = absurd (cc)
unused_there inodes inode (Some attribute) unused = let both = and_parts (attribute.links == 0) (blocks_of inodes inode == 0) unused in (attribute, refl, eqb-true attribute.links 0 both.0, eqb-true (blocks_of inodes inode) 0 both.1)

-- an attribute's links stay
abbrev SameLinks : (Attribute → Attribute) → Type 0
SameLinks change = (a : Attribute) → (change a).links ≡ a.links

unused-same : (inodes now : Inodes) (inode : ℕ) (row : Option Attribute) (change : Attribute → Attribute) → SameLinks change → now.blocks ≡ inodes.blocks → is_unused now inode (option_map change row) ≡ is_unused inodes inode row
unused-same inodes now inode None change same blocks = refl
unused-same inodes now inode (Some a) change same blocks = rw (same a, blocks) refl

-- ---- there, or not

put-some : {A : Type 0} (rows : List (Option A)) (n : ℕ) (row : A) → n ≤ length rows → (m : ℕ) → is_some (row_at rows m) ≡ true → is_some (row_at (put_row rows n row) m) ≡ true
put-some rows n row within m there = elim (cases_eq m n) [
  | inl same ↦ ap (λ k. is_some (row_at (put_row rows n row) k)) same ∙ ap is_some (put_at rows n row within)
  | inr apart ↦ ap is_some (put_other rows n row within m apart) ∙ there
]

clash : {A : Type 0} (row : Option A) (value : A) → row ≡ None → row ≡ Some value → ⊥
clash row value none some = let both : None ≡ Some value = sym none ∙ some in cc

none-some : {A : Type 0} (row : Option A) → row ≡ None → is_some row ≡ true → ⊥
none-some row none some = let both : false ≡ true = ap is_some (sym none) ∙ some in cc

named-as : {names : Names} {inode : ℕ} (was now : Attribute) → now.links ≡ was.links → IsNamed names inode was ⊎ IsUnnamed names inode was → IsNamed names inode now ⊎ IsUnnamed names inode now
named-as was now same (inl is) = inl (record { links = same ∙ is.links; key = is.key; leads = is.leads })
named-as was now same (inr is) = inr (record { links = same ∙ is.links; none = is.none })

-- ---- what changes

module _ (r : Resources) (h : HasNames r) where
  -- an attribute changes, and not its links
  same_names : (inode : ℕ) (change : Attribute → Attribute) → SameLinks change → HasNames (with_changed inode change r)
  same_names inode change same = record {
    leads = λ key m leads. with_row-some_at r.inodes.attributes inode change m ∙ h.leads key m leads;
    single = h.single;
    roots = h.roots;
    links = λ m now there. let was = with_row-was r.inodes.attributes inode change m now there in
        named-as was.0 now (elim was.2 [ inl stays ↦ ap (λ (a : Attribute). a.links) (sym stays.1) | inr is ↦ ap (λ (a : Attribute). a.links) (sym is.1) ∙ same was.0 ]) (h.links m was.0 was.1);
    used = λ m. elim (cases_eq m inode) [
      | inl is ↦
          subst (λ k. is_unused (with_changed inode change r).inodes k (row_at (with_row r.inodes.attributes inode change) k) ≡ false) (sym is)
          (ap (is_unused (with_changed inode change r).inodes inode) (with_row-at r.inodes.attributes inode change) ∙ (unused-same r.inodes (with_changed inode change r).inodes inode (row_at r.inodes.attributes inode) change same refl ∙ h.used inode))
      | inr apart ↦ ap (is_unused (with_changed inode change r).inodes m) (with_row-other r.inodes.attributes inode change m apart) ∙ h.used m
    ];
    opened = λ number block there. with_row-some_at r.inodes.attributes inode change block.inode ∙ h.opened number block there;
  }

  -- an inode comes with a link, and a path to it
  come_names : (inode : ℕ) (key : Key) (attribute : Attribute) → attribute.links ≡ 1 → IsNew r.inodes.attributes r.inodes.most_inodes inode → get r.names key ≡ None → ((root : ℕ) → root_key root ≡ key → inode ≡ root) → HasNames (with_named inode key attribute r)
  come_names inode key attribute links new missing rooted = record {
    leads = λ other m leads. elim (insert-cases r.names key inode other m leads) [
      | inl is ↦ subst (λ k. is_some (row_at (put_row r.inodes.attributes inode attribute) k) ≡ true) is.1 (ap is_some at)
      | inr was ↦ put-some r.inodes.attributes inode attribute new.within m (h.leads other m was)
    ];
    single = λ m one two to_one to_two. by m one two (insert-cases r.names key inode one m to_one) (insert-cases r.names key inode two m to_two);
    roots = λ root m leads. elim (insert-cases r.names key inode (root_key root) m leads) [
      | inl is ↦ sym is.1 ∙ rooted root is.0
      | inr was ↦ h.roots root m was
    ];
    links = λ m now there. elim (put_cases r.inodes.attributes inode attribute new.within m now there) [
      | inl is ↦ inl (record { links = ap (λ (a : Attribute). a.links) (sym is.1) ∙ links; key = key; leads = insert-at r.names key inode ∙ ap Some (sym is.0) })
      | inr was ↦ others m now (λ same. clash _ now new.free (ap (row_at r.inodes.attributes) (sym same) ∙ was)) (h.links m now was)
    ];
    used = λ m. elim (cases_eq m inode) [
      | inl is ↦ subst (λ k. is_unused (with_named inode key attribute r).inodes k (row_at (put_row r.inodes.attributes inode attribute) k) ≡ false) (sym is) (ap (is_unused (with_named inode key attribute r).inodes inode) at ∙ ap (λ n. (n == 0) && (blocks_of r.inodes inode == 0)) links)
      | inr apart ↦ ap (is_unused (with_named inode key attribute r).inodes m) (put_other r.inodes.attributes inode attribute new.within m apart) ∙ h.used m
    ];
    opened = λ number block there. put-some r.inodes.attributes inode attribute new.within block.inode (h.opened number block there);
  }
    where
      at : row_at (put_row r.inodes.attributes inode attribute) inode ≡ Some attribute
      at = put_at r.inodes.attributes inode attribute new.within

      -- no path led to it before
      before : (other : Key) (m : ℕ) → inode ≡ m → get r.names other ≡ Some m → ⊥
      before other m is leads = none-some _ new.free (ap (λ k. is_some (row_at r.inodes.attributes k)) is ∙ h.leads other m leads)

      by : (m : ℕ) (one two : Key) → ((one ≡ key) × (inode ≡ m)) ⊎ (get r.names one ≡ Some m) → ((two ≡ key) × (inode ≡ m)) ⊎ (get r.names two ≡ Some m) → one ≡ two
      by m one two (inl is) (inl also) = is.0 ∙ sym also.0
      by m one two (inl is) (inr was) = absurd (before two m is.1 was)
      by m one two (inr was) (inl is) = absurd (before one m is.1 was)
      by m one two (inr was) (inr also) = h.single m one two was also

      others : (m : ℕ) (now : Attribute) → m ≢ inode → IsNamed r.names m now ⊎ IsUnnamed r.names m now → IsNamed (insert r.names key inode) m now ⊎ IsUnnamed (insert r.names key inode) m now
      others m now apart (inl is) = inl (record { links = is.links; key = is.key; leads = insert-other r.names key inode is.key m missing is.leads })
      others m now apart (inr is) = inr (record { links = is.links; none = λ other leads. elim (insert-cases r.names key inode other m leads) [ inl new ↦ apart (sym new.1) | inr was ↦ is.none other was ] })

  open_names : (number : ℕ) (block : Ocb) → row_at r.inodes.blocks number ≡ None → number ≤ length r.inodes.blocks → is_some (row_at r.inodes.attributes block.inode) ≡ true → HasNames (with_opened number block r)
  open_names number block free within there = record {
    leads = h.leads;
    single = h.single;
    roots = h.roots;
    links = h.links;
    used = λ m. used_more r.inodes (with_opened number block r).inodes m (row_at r.inodes.attributes m) (more_blocks r.inodes number block free m) (h.used m);
    opened = λ n other is. elim (put_cases r.inodes.blocks number block within n other is) [
      | inl put ↦ subst (λ (b : Ocb). is_some (row_at r.inodes.attributes b.inode) ≡ true) put.1 there
      | inr was ↦ h.opened n other was
    ];
  }

  move_names : (number : ℕ) (change : Ocb → Ocb) → ((block : Ocb) → row_at r.inodes.blocks number ≡ Some block → IsMoved block (change block)) → HasNames (with_moved number change r)
  move_names number change may = record {
    leads = h.leads;
    single = h.single;
    roots = h.roots;
    links = h.links;
    used = λ m. used_more r.inodes (with_moved number change r).inodes m (row_at r.inodes.attributes m) (let same = same_blocks r.inodes number change may m in omega (arith, same)) (h.used m);
    opened = λ n now is. let was = with_row-was r.inodes.blocks number change n now is in elim was.2 [
      | inl stays ↦ ap (λ (b : Ocb). is_some (row_at r.inodes.attributes b.inode)) (sym stays.1)
      | inr is ↦ ap (λ m. is_some (row_at r.inodes.attributes m)) (ap (λ (b : Ocb). b.inode) (sym is.1) ∙ (may was.0 (ap (row_at r.inodes.blocks) (sym is.0) ∙ was.1)).inode)
    ] ∙ h.opened n was.0 was.1;
  }

-- the same, but that one inode may have neither a link nor an open control block
pub record HasNamesBut (r : Resources) (inode : ℕ) : Type 0 where
  pub leads : (key : Key) (m : ℕ) → get r.names key ≡ Some m → is_some (row_at r.inodes.attributes m) ≡ true
  pub single : (m : ℕ) → HasAtMostOnePath r.names m
  pub roots : (root m : ℕ) → get r.names (root_key root) ≡ Some m → m ≡ root
  pub links : (m : ℕ) (attribute : Attribute) → row_at r.inodes.attributes m ≡ Some attribute → IsNamed r.names m attribute ⊎ IsUnnamed r.names m attribute
  pub used : (m : ℕ) → m ≢ inode → is_unused r.inodes m (row_at r.inodes.attributes m) ≡ false
  pub opened : (number : ℕ) (block : Ocb) → row_at r.inodes.blocks number ≡ Some block → is_some (row_at r.inodes.attributes block.inode) ≡ true

module _ (r : Resources) (inode : ℕ) (h : HasNamesBut r inode) where
  used_names : is_unused r.inodes inode (row_at r.inodes.attributes inode) ≡ false → HasNames r
  used_names used = record {
    leads = h.leads;
    single = h.single;
    roots = h.roots;
    links = h.links;
    used = λ m. elim (cases_eq m inode) [ inl is ↦ subst (λ k. is_unused r.inodes k (row_at r.inodes.attributes k) ≡ false) (sym is) used | inr apart ↦ h.used m apart ];
    opened = h.opened;
  }

  -- no path leads to what is unused
  pub unused_unnamed : is_unused r.inodes inode (row_at r.inodes.attributes inode) ≡ true → (key : Key) → get r.names key ≢ Some inode
  unused_unnamed unused = let is = unused_there r.inodes inode (row_at r.inodes.attributes inode) unused in by is.0 is.2 (h.links inode is.0 is.1)
    where
      by : (attribute : Attribute) → attribute.links ≡ 0 → IsNamed r.names inode attribute ⊎ IsUnnamed r.names inode attribute → (key : Key) → get r.names key ≢ Some inode
      by attribute none (inl is) = let one = is.links in absurd (omega (arith, none, one))
      by attribute none (inr is) = is.none

  freed_names : is_unused r.inodes inode (row_at r.inodes.attributes inode) ≡ true → HasNames (freed inode r)
  freed_names unused = record {
    leads = λ key m leads. ap is_some (others m (λ is. unused_unnamed unused key (leads ∙ ap Some is))) ∙ h.leads key m leads;
    single = h.single;
    roots = h.roots;
    links = λ m now is. elim (cases_eq m inode) [
      | inl same ↦ absurd (clash _ now (row-freed r.inodes.attributes inode) (ap (row_at (slice_set r.inodes.attributes inode None)) (sym same) ∙ is))
      | inr apart ↦ h.links m now (sym (others m apart) ∙ is)
    ];
    used = λ m. elim (cases_eq m inode) [
      | inl same ↦ ap (λ k. is_unused (freed inode r).inodes k (row_at (slice_set r.inodes.attributes inode None) k)) same ∙ ap (is_unused (freed inode r).inodes inode) (row-freed r.inodes.attributes inode)
      | inr apart ↦ ap (is_unused (freed inode r).inodes m) (others m apart) ∙ h.used m apart
    ];
    opened = λ number block is. ap is_some (others block.inode (λ same. not_open r.inodes number block is (ap (blocks_of r.inodes) same ∙ (unused_there r.inodes inode (row_at r.inodes.attributes inode) unused).3))) ∙ h.opened number block is;
  }
    where
      others : (m : ℕ) → m ≢ inode → row_at (slice_set r.inodes.attributes inode None) m ≡ row_at r.inodes.attributes m
      others m apart = row_at-set_other r.inodes.attributes inode m None apart

-- names do not see what is in inodes
same_but_content : (r : Resources) (files : Files) (pipes : Pipes) → HasNames r → HasNames (record r { files = files; pipes = pipes })
same_but_content r files pipes h = record { leads = h.leads; single = h.single; roots = h.roots; links = h.links; used = h.used; opened = h.opened }

unused_names : (own : Kind) (inode : ℕ) (r : Resources) → HasNamesBut r inode → HasNames (without_unused own inode r)
unused_names own inode r h =
    unused_cases HasNames own inode r
    (λ gone. let less = freed_names r inode h gone in
    content_cases HasNames own inode (freed inode r) (λ is. same_but_content (freed inode r) _ _ less) (λ is. same_but_content (freed inode r) _ _ less) (λ is. less))
    (λ stays. used_names r inode h stays)

module _ (r : Resources) (h : HasNames r) where
  pub unlink_names : (inode : ℕ) (key : Key) (mtime ctime : ℕ) → get r.names key ≡ Some inode → HasNamesBut (with_unlinked inode key mtime ctime r) inode
  unlink_names inode key mtime ctime leads = record {
    leads = λ other m to. with_row-some_at r.inodes.attributes inode (without_link mtime ctime) m ∙ h.leads other m (remove-kept r.names key other m to).0;
    single = λ m one two to_one to_two. h.single m one two (remove-kept r.names key one m to_one).0 (remove-kept r.names key two m to_two).0;
    roots = λ root m to. h.roots root m (remove-kept r.names key (root_key root) m to).0;
    links = λ m now there. let was = with_row-was r.inodes.attributes inode (without_link mtime ctime) m now there in elim was.2 [
      | inl stays ↦ others m now stays.0 (h.links m now (was.1 ∙ ap Some stays.1))
      | inr is ↦ inr (record { links = ap (λ (a : Attribute). a.links) (sym is.1); none = λ other to. let kept = remove-kept r.names key other m to in kept.1 (h.single inode other key (kept.0 ∙ ap Some is.0) leads) })
    ];
    used = λ m apart. ap (is_unused (with_unlinked inode key mtime ctime r).inodes m) (with_row-other r.inodes.attributes inode (without_link mtime ctime) m apart) ∙ h.used m;
    opened = λ number block there. with_row-some_at r.inodes.attributes inode (without_link mtime ctime) block.inode ∙ h.opened number block there;
  }
    where
      others : (m : ℕ) (now : Attribute) → m ≢ inode → IsNamed r.names m now ⊎ IsUnnamed r.names m now → IsNamed (remove r.names key) m now ⊎ IsUnnamed (remove r.names key) m now
      others m now apart (inl is) = inl (record { links = is.links; key = is.key; leads = remove-other r.names key is.key m is.leads (λ same. apart (same_Some _ _ (sym is.leads ∙ (ap (get r.names) same ∙ leads)))) })
      others m now apart (inr is) = inr (record { links = is.links; none = λ other to. is.none other (remove-kept r.names key other m to).0 })

  pub close_names : (number : ℕ) (block : Ocb) → row_at r.inodes.blocks number ≡ Some block → HasNamesBut (without_block number r) block.inode
  close_names number block there = record {
    leads = h.leads;
    single = h.single;
    roots = h.roots;
    links = h.links;
    used = λ m apart. used_more r.inodes (close_block r.inodes number) m (row_at r.inodes.attributes m) (let same = other_blocks r.inodes number block there m apart in omega (arith, same)) (h.used m);
    opened = λ n other is. elim (row_at-set_cases r.inodes.blocks number n None other is) [ inl was ↦ h.opened n other was | inr none ↦ absurd (cc) ];
  }

-- ---- what happens

-- the path of a free number, as a mount's root, leads nowhere
pub free_root : (r : Resources) → HasNames r → (root : ℕ) → row_at r.inodes.attributes root ≡ None → get r.names (root_key root) ≡ None
free_root r h root free = by (get r.names (root_key root)) refl
  where
    by : (there : Option ℕ) → get r.names (root_key root) ≡ there → there ≡ None
    by None is = refl
    by (Some inode) is = absurd (none-some _ (ap (row_at r.inodes.attributes) (h.roots root inode is) ∙ free) (h.leads (root_key root) inode is))

-- a path that leads somewhere is in a directory that a path leads to
pub led_above : (r : Resources) → HasTree r → (above : Key) (name : List ℕ) (inode : ℕ) → get r.names (under above name) ≡ Some inode → (directory : ℕ) × (get r.names above ≡ Some directory)
led_above r tree above name inode leads = let d = (tree.entries above name inode leads).directory in (d.inode, d.leads)

-- what begins with a path begins with another
module _ (r : Resources) (h : HasNames r) (one two : Key) (last next : List ℕ) (free : get r.names (under two next) ≡ None) (outside : is_below (under one last) two.0 (next ∷ two.1) ≡ false) (tree : (above : Key) (name : List ℕ) (inode : ℕ) → get r.names (under above name) ≡ Some inode → (directory : ℕ) × (get r.names above ≡ Some directory)) where
  renamed_links : (inode : ℕ) (attribute : Attribute) → IsNamed r.names inode attribute ⊎ IsUnnamed r.names inode attribute → IsNamed (moved_all r.names (under one last) (under two next)) inode attribute ⊎ IsUnnamed (moved_all r.names (under one last) (under two next)) inode attribute
  renamed_links inode attribute (inl is) = inl (record { links = is.links; key = go (under one last) (under two next) is.key; leads = is_led r.names h.single tree one two last next free outside is.key inode is.leads })
  renamed_links inode attribute (inr is) = inr (record { links = is.links; none = λ key leads. let was = was_led r.names (under one last) (under two next) key inode leads in is.none was.0 was.1.0 })

  moved_names : HasNames (record r { names = moved_all r.names (under one last) (under two next) })
  moved_names = record {
    leads = λ key inode leads. let was = was_led r.names (under one last) (under two next) key inode leads in h.leads was.0 inode was.1.0;
    single = single_moved r.names h.single tree one two last next free outside;
    roots = roots_moved r.names h.single tree one two last next free outside h.roots;
    links = λ inode attribute there. renamed_links inode attribute (h.links inode attribute there);
    used = h.used;
    opened = h.opened;
  }

pub names-keep : (change : ResourceChange) (r : Resources) → MayHappen change r → HasRoom r → HasTree r → HasNames r → HasNames (with_change change r)
names-keep (Mounts mount) r may room tree h =
    let new = inode_is_new r.inodes mount.root room.some_inodes may.0 in
    let more = come_names r h mount.root (root_key mount.root) (root_attribute r.user) refl new (free_root r h mount.root new.free) (λ root same. ap (λ (key : Key). key.0) (sym same)) in
    record { leads = more.leads; single = more.single; roots = more.roots; links = more.links; used = more.used; opened = more.opened }
names-keep (Comes inode directory name kind mode moment) r may room tree h =
    let new = inode_is_new r.inodes inode room.some_inodes may.0 in
    let attribute = new_attribute kind mode r.user moment in
    let more = come_names r h inode (under directory name) attribute refl new may.2 (λ root same. absurd (not_root root directory name (sym same))) in
    empty_cases HasNames kind inode (with_named inode (under directory name) attribute r) (λ is. same_but_content (with_named inode (under directory name) attribute r) _ _ more) (λ is. same_but_content (with_named inode (under directory name) attribute r) _ _ more) (λ is. more)
names-keep (Touches inode mode mtime ctime) r may room tree h = same_names r h inode (touched mode mtime ctime) (λ a. refl)
names-keep (Opens number block at) r may room tree h = let new = block_is_new r.inodes number room.some_blocks may.0 in open_names r h number block new.free new.within may.1
names-keep (Moves number move) r may room tree h = move_names r h number (moved move) may
names-keep (Writes inode moment bytes) r may room tree h = same_but_content _ (slice_set r.files inode (Some bytes)) r.pipes (same_names r h inode (resized (length bytes) moment) (λ a. refl))
names-keep (Fills inode moment after came) r may room tree h = same_but_content _ r.files (slice_set r.pipes inode (Some after.pipe)) (same_names r h inode (filled moment after) (λ a. filled-same moment after a (λ (b : Attribute). b.links) refl refl))
names-keep (Unlinks own directory name inode mtime ctime) r may room tree h = unused_names own inode (with_unlinked inode (under directory name) mtime ctime r) (unlink_names r h inode (under directory name) mtime ctime may.0)
names-keep (Closes own number block parting) r may room tree h = unused_names own block.inode (without_block number r) (close_names r h number block may.0)
names-keep (Renames above name directory next) r may room tree h = moved_names r h above directory name next may.1 may.3 (led_above r tree)
names-keep _ r may room tree h = record { leads = h.leads; single = h.single; roots = h.roots; links = h.links; used = h.used; opened = h.opened }
