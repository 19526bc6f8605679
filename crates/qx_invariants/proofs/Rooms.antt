-- Inodes and open control blocks have their numbers and a place each for what is in them, each inode of a user is owned by that user, and connections have each
-- open control block, whatever happens.
use Rattle.std.proofs.Common.{◌≡◌, inl, inr, ℕ, ◌+◌, ◌<◌, ◌≤◌, List, [], ◌∷◌, length, length-append, ◌∙◌, arith, refl, sym, ap, subst}
use Rattle.std.specs.Prelude.{Ok, Option, Some, None, option_map, slice_set}
use Rattle.std.proofs.Math.ListN.{length-set}
use Rattle.std.proofs.lemmas.List.{length-map}
use Rattle.qx_types.specs.UserLimits.{AreLimits, UserLimits}
use Rattle.qx_types.specs.declared.limits.TheConstants.Limits.{INODES}
use Rattle.qx_paths.specs.Prefixes.{MountPoint}
use Rattle.qx_machine.specs.declared.rows.Kind.{Kind}
use Rattle.qx_machine.specs.declared.rows.Ocb.{Ocb}
use Rattle.qx_machine.specs.declared.rows.WaitingCall.{WaitingCall}
use Rattle.qx_machine.specs.Clients.{with_abandoned}
use Rattle.qx_machine.specs.Defaults.{without_unused, without_block}
use Rattle.qx_machine.specs.Inodes.{Inodes, block_number, inode_number, new_attribute}
use Rattle.qx_machine.specs.Pipes.{Pipe}
use Rattle.qx_machine.specs.Resources.{Resources, resized}
use Rattle.qx_isolation.specs.Rows.{put_row, row_at, with_row}
use Rattle.qx_isolation.proofs.Places.{row_at-set_cases}
use Rattle.qx_invariants.specs.Changes.{Abandons, ResourceChange, Closes, Comes, Fills, IsMoved, MayHappen, Mounts, Moves, Notifies, Opens, Touches, Unlinks, Writes, moved, with_change, touched, without_link, with_changed, with_named, with_unlinked, Renames}
use Rattle.qx_invariants.specs.Holds.{HasRoom, HasUses, IsOwnedBy, IsUsed}
use Rattle.qx_iofunc.proofs.PlaceLemmas.{put_differ}
use Rattle.qx_invariants.proofs.Rows.{IsNew, content_cases, empty_cases, freed, block_is_new, inode_is_new, unused_cases, put_cases, with_row-was, filled-same}
use Rattle.qx_machine.specs.declared.rows.Attribute.{Attribute}
use Rattle.qx_machine.specs.Attributes.{root_attribute}
use Rattle.qx_machine.specs.Names.{under}
use Rattle.qx_machine.specs.PipeManager.{filled}

-- rows are numbered from 1 to the greatest, in a table that begins with the place 0
pub record AreNumbered {A : Type 0} (most : ℕ) (rows : List (Option A)) : Type 0 where
  pub each : (n : ℕ) (row : A) → row_at rows n ≡ Some row → (1 ≤ n) × (n ≤ most)
  pub some : 0 < length rows

module _ {A : Type 0} (most : ℕ) (rows : List (Option A)) (h : AreNumbered most rows) where
  put_numbered : (number : ℕ) (row : A) → IsNew rows most number → AreNumbered most (put_row rows number row)
  put_numbered number row new = record {
    each = λ n there is. elim (put_cases rows number row new.within n there is) [
      | inl put ↦ let same = put.0 in let from = new.from in let most_is = new.most_is in (omega (arith, from, same), omega (arith, most_is, same))
      | inr was ↦ h.each n there was
    ];
    some = let longer = (put_differ rows number row new.within).longer in let some = h.some in omega (arith, longer, some);
  }

  freed_numbered : (number : ℕ) → AreNumbered most (slice_set rows number None)
  freed_numbered number = record {
    each = λ n there is. elim (row_at-set_cases rows number n None there is) [ inl was ↦ h.each n there was | inr none ↦ absurd (cc) ];
    some = let same = length-set rows number None in let some = h.some in omega (arith, same, some);
  }

  -- a row changes, if it is there
  changed_numbered : (number : ℕ) (change : A → A) → AreNumbered most (with_row rows number change)
  changed_numbered number change = record {
    each = λ n there is. let was = with_row-was rows number change n there is in h.each n was.0 was.1;
    some = let same = length-set rows number (option_map change (row_at rows number)) in let some = h.some in omega (arith, same, some);
  }

-- the tables are of these limits, each of which is in its range, and no more is mounted than may be
record AreBounded (inodes : Inodes) (mounts : List MountPoint) (limits : UserLimits) : Type 0 where
  most_inodes : inodes.most_inodes ≡ limits.inodes
  most_blocks : inodes.most_blocks ≡ limits.blocks
  in_range : AreLimits limits
  few : length mounts ≤ limits.mounts

-- the parts of what is to be shown
record Parts (r : Resources) : Type 0 where
  inodes : AreNumbered r.limits.inodes r.inodes.attributes
  blocks : AreNumbered r.limits.blocks r.inodes.blocks
  bounds : AreBounded r.inodes r.mounts r.limits
  files : length r.files ≡ INODES + 1
  pipes : length r.pipes ≡ INODES + 1

parts : (r : Resources) → HasRoom r → Parts r
parts r h = record {
  inodes = record { each = h.inodes; some = h.some_inodes };
  blocks = record { each = h.blocks; some = h.some_blocks };
  bounds = record { most_inodes = h.most_inodes; most_blocks = h.most_blocks; in_range = h.limits; few = h.mounts };
  files = h.files;
  pipes = h.pipes;
}

whole : (r : Resources) → Parts r → HasRoom r
whole r h = record {
  inodes = h.inodes.each;
  some_inodes = h.inodes.some;
  blocks = h.blocks.each;
  some_blocks = h.blocks.some;
  most_inodes = h.bounds.most_inodes;
  most_blocks = h.bounds.most_blocks;
  limits = h.bounds.in_range;
  mounts = h.bounds.few;
  files = h.files;
  pipes = h.pipes;
}

-- an inode's number is one of so many from 1
pub few_inodes : (r : Resources) → HasRoom r → r.inodes.most_inodes ≤ INODES
few_inodes r room = let same = room.most_inodes in let few = room.limits.inodes.1 in omega (arith, same, few)

new_inode : (r : Resources) → Parts r → (number : ℕ) → inode_number r.inodes ≡ Ok number → IsNew r.inodes.attributes r.limits.inodes number
new_inode r h number is = subst (λ most. IsNew r.inodes.attributes most number) h.bounds.most_inodes (inode_is_new r.inodes number h.inodes.some is)

new_block : (r : Resources) → Parts r → (number : ℕ) → block_number r.inodes ≡ Ok number → IsNew r.inodes.blocks r.limits.blocks number
new_block r h number is = subst (λ most. IsNew r.inodes.blocks most number) h.bounds.most_blocks (block_is_new r.inodes number h.blocks.some is)

same_bounds : (inodes : Inodes) (mounts : List MountPoint) (limits : UserLimits) → AreBounded inodes mounts limits → (now : Inodes) → now.most_inodes ≡ inodes.most_inodes → now.most_blocks ≡ inodes.most_blocks → AreBounded now mounts limits
same_bounds inodes mounts limits h now most_inodes most_blocks = record { most_inodes = most_inodes ∙ h.most_inodes; most_blocks = most_blocks ∙ h.most_blocks; in_range = h.in_range; few = h.few }

with_inodes : (r : Resources) (inodes : Inodes) → inodes.most_inodes ≡ r.inodes.most_inodes → inodes.most_blocks ≡ r.inodes.most_blocks → AreNumbered r.limits.inodes inodes.attributes → AreNumbered r.limits.blocks inodes.blocks → Parts r → Parts (record r { inodes = inodes })
with_inodes r inodes most_inodes most_blocks attributes blocks h = record { inodes = attributes; blocks = blocks; bounds = same_bounds r.inodes r.mounts r.limits h.bounds inodes most_inodes most_blocks; files = h.files; pipes = h.pipes }

with_attributes : (r : Resources) (attributes : List (Option Attribute)) → AreNumbered r.limits.inodes attributes → Parts r → Parts (record r { inodes = record r.inodes { attributes = attributes } })
with_attributes r attributes numbered h = with_inodes r (record r.inodes { attributes = attributes }) refl refl numbered h.blocks h

with_files : (r : Resources) (inode : ℕ) (row : Option (List ℕ)) → Parts r → Parts (record r { files = slice_set r.files inode row })
with_files r inode row h = record { inodes = h.inodes; blocks = h.blocks; bounds = h.bounds; files = length-set r.files inode row ∙ h.files; pipes = h.pipes }

with_pipes : (r : Resources) (inode : ℕ) (row : Option (Pipe WaitingCall)) → Parts r → Parts (record r { pipes = slice_set r.pipes inode row })
with_pipes r inode row h = record { inodes = h.inodes; blocks = h.blocks; bounds = h.bounds; files = h.files; pipes = length-set r.pipes inode row ∙ h.pipes }

unused_parts : (own : Kind) (inode : ℕ) (r : Resources) → Parts r → Parts (without_unused own inode r)
unused_parts own inode r h =
    unused_cases Parts own inode r
    (λ gone. let less : Parts (freed inode r) = with_attributes r _ (freed_numbered r.limits.inodes r.inodes.attributes h.inodes inode) h in
    content_cases Parts own inode (freed inode r) (λ is. with_files _ inode None less) (λ is. with_pipes _ inode None less) (λ is. less)) (λ stays. h)

changed_parts : (r : Resources) (inode : ℕ) (change : Attribute → Attribute) → Parts r → Parts (with_changed inode change r)
changed_parts r inode change h = with_attributes r _ (changed_numbered r.limits.inodes r.inodes.attributes h.inodes inode change) h

parts-keep : (change : ResourceChange) (r : Resources) → MayHappen change r → Parts r → Parts (with_change change r)
parts-keep (Mounts mount) r may h = record {
  inodes = put_numbered r.limits.inodes r.inodes.attributes h.inodes mount.root _ (new_inode r h mount.root may.0);
  blocks = h.blocks;
  bounds = record {
    most_inodes = h.bounds.most_inodes;
    most_blocks = h.bounds.most_blocks;
    in_range = h.bounds.in_range;
    few = let longer = length-append r.mounts (record { prefix = mount.prefix; manager = mount.manager; root = mount.root } ∷ []) in let fewer = may.1 in omega (arith, longer, fewer);
  };
  files = h.files;
  pipes = h.pipes;
}
parts-keep (Comes inode directory name kind mode moment) r may h =
    let more : Parts _ = record { inodes = put_numbered r.limits.inodes r.inodes.attributes h.inodes inode _ (new_inode r h inode may.0); blocks = h.blocks; bounds = same_bounds r.inodes r.mounts r.limits h.bounds _ refl refl; files = h.files; pipes = h.pipes } in
    empty_cases Parts kind inode _ (λ is. with_files _ inode _ more) (λ device. with_pipes _ inode _ more) (λ is. more)
parts-keep (Touches inode mode mtime ctime) r may h = changed_parts r inode (touched mode mtime ctime) h
parts-keep (Opens number block at) r may h = with_inodes r _ refl refl h.inodes (put_numbered r.limits.blocks r.inodes.blocks h.blocks number block (new_block r h number may.0)) h
parts-keep (Moves number move) r may h = with_inodes r _ refl refl h.inodes (changed_numbered r.limits.blocks r.inodes.blocks h.blocks number (moved move)) h
parts-keep (Writes inode moment bytes) r may h = with_files _ inode _ (changed_parts r inode (resized (length bytes) moment) h)
parts-keep (Fills inode moment after came) r may h = with_pipes _ inode _ (changed_parts r inode (filled moment after) h)
parts-keep (Unlinks own directory name inode mtime ctime) r may h =
    let with_names = changed_parts r inode (without_link mtime ctime) h in
    unused_parts own inode _ (record { inodes = with_names.inodes; blocks = with_names.blocks; bounds = with_names.bounds; files = with_names.files; pipes = with_names.pipes })
parts-keep (Closes own number block parting) r may h = unused_parts own block.inode _ (with_inodes r _ refl refl h.inodes (freed_numbered r.limits.blocks r.inodes.blocks h.blocks number) h)
parts-keep (Renames above name directory next) r may h = record { inodes = h.inodes; blocks = h.blocks; bounds = h.bounds; files = h.files; pipes = h.pipes }
parts-keep (Notifies events) r may h = record { inodes = h.inodes; blocks = h.blocks; bounds = h.bounds; files = h.files; pipes = h.pipes }
parts-keep (Abandons process) r may h = record { inodes = h.inodes; blocks = h.blocks; bounds = h.bounds; files = h.files; pipes = length-map r.pipes (option_map (with_abandoned process)) ∙ h.pipes }

pub room-keeps : (change : ResourceChange) (r : Resources) → MayHappen change r → HasRoom r → HasRoom (with_change change r)
room-keeps change r may h = whole (with_change change r) (parts-keep change r may (parts r h))

-- ---- limits

-- they stay as they are
unused_same : (own : Kind) (inode : ℕ) (r : Resources) → (without_unused own inode r).limits ≡ r.limits
unused_same own inode r = unused_cases (λ (s : Resources). s.limits ≡ r.limits) own inode r (λ gone. content_cases (λ (s : Resources). s.limits ≡ r.limits) own inode (freed inode r) (λ is. refl) (λ is. refl) (λ is. refl)) (λ stays. refl)

pub limits_stay : (change : ResourceChange) (r : Resources) → (with_change change r).limits ≡ r.limits
limits_stay (Comes inode directory name kind mode moment) r = empty_cases (λ (s : Resources). s.limits ≡ r.limits) kind inode (with_named inode (under directory name) (new_attribute kind mode r.user moment) r) (λ is. refl) (λ device. refl) (λ is. refl)
limits_stay (Unlinks own directory name inode mtime ctime) r = unused_same own inode (with_unlinked inode (under directory name) mtime ctime r)
limits_stay (Closes own number block parting) r = unused_same own block.inode (without_block number r)
limits_stay _ r = refl

-- ---- owners

-- an attribute's owner stays
abbrev SameOwner : (Attribute → Attribute) → Type 0
SameOwner change = (a : Attribute) → (change a).owner ≡ a.owner

module _ (user : ℕ) where
  -- what stands in the user and in attributes alone is seen
  seen_owner : (r now : Resources) → now.user ≡ r.user → now.inodes.attributes ≡ r.inodes.attributes → IsOwnedBy user r → IsOwnedBy user now
  seen_owner r now same attributes h = record { user = same ∙ h.user; inodes = λ inode attribute there. h.inodes inode attribute (ap (λ rows. row_at rows inode) (sym attributes) ∙ there) }

  module _ (r : Resources) (h : IsOwnedBy user r) where
    same_owner : (inode : ℕ) (change : Attribute → Attribute) → SameOwner change → IsOwnedBy user (with_changed inode change r)
    same_owner inode change same = record {
      user = h.user;
      inodes = λ m now there. let was = with_row-was r.inodes.attributes inode change m now there in
          elim was.2 [ inl stays ↦ ap (λ (a : Attribute). a.owner) (sym stays.1) | inr is ↦ ap (λ (a : Attribute). a.owner) (sym is.1) ∙ same was.0 ] ∙ h.inodes m was.0 was.1;
    }

    come_owner : (inode : ℕ) (attribute : Attribute) → attribute.owner ≡ r.user → IsNew r.inodes.attributes r.inodes.most_inodes inode → (now : Resources) → now.user ≡ r.user → now.inodes.attributes ≡ put_row r.inodes.attributes inode attribute → IsOwnedBy user now
    come_owner inode attribute own new now same attributes = record {
      user = same ∙ h.user;
      inodes = λ m other there. elim (put_cases r.inodes.attributes inode attribute new.within m other (ap (λ rows. row_at rows m) (sym attributes) ∙ there)) [
        | inl is ↦ ap (λ (a : Attribute). a.owner) (sym is.1) ∙ (own ∙ h.user)
        | inr was ↦ h.inodes m other was
      ];
    }

    unused_owner : (own : Kind) (inode : ℕ) → IsOwnedBy user (without_unused own inode r)
    unused_owner own inode =
        unused_cases (IsOwnedBy user) own inode r
        (λ gone. let less : IsOwnedBy user (freed inode r) = record { user = h.user; inodes = λ m attribute there. elim (row_at-set_cases r.inodes.attributes inode m None attribute there) [ inl was ↦ h.inodes m attribute was | inr none ↦ absurd (cc) ] } in
        content_cases (IsOwnedBy user) own inode (freed inode r) (λ is. seen_owner (freed inode r) _ refl refl less) (λ is. seen_owner (freed inode r) _ refl refl less) (λ is. less))
        (λ stays. h)

  pub owner-keeps : (change : ResourceChange) (r : Resources) → MayHappen change r → HasRoom r → IsOwnedBy user r → IsOwnedBy user (with_change change r)
  owner-keeps (Mounts mount) r may room h = come_owner r h mount.root (root_attribute r.user) refl (inode_is_new r.inodes mount.root room.some_inodes may.0) _ refl refl
  owner-keeps (Comes inode directory name which mode moment) r may room h =
      let named = with_named inode (under directory name) (new_attribute which mode r.user moment) r in
      let more = come_owner r h inode (new_attribute which mode r.user moment) refl (inode_is_new r.inodes inode room.some_inodes may.0) named refl refl in
      empty_cases (IsOwnedBy user) which inode named (λ is. seen_owner named _ refl refl more) (λ is. seen_owner named _ refl refl more) (λ is. more)
  owner-keeps (Touches inode mode mtime ctime) r may room h = same_owner r h inode (touched mode mtime ctime) (λ a. refl)
  owner-keeps (Writes inode moment bytes) r may room h = seen_owner (with_changed inode (resized (length bytes) moment) r) _ refl refl (same_owner r h inode (resized (length bytes) moment) (λ a. refl))
  owner-keeps (Fills inode moment after came) r may room h = seen_owner (with_changed inode (filled moment after) r) _ refl refl (same_owner r h inode (filled moment after) (λ a. filled-same moment after a (λ (b : Attribute). b.owner) refl refl))
  owner-keeps (Unlinks own directory name inode mtime ctime) r may room h =
      unused_owner (with_unlinked inode (under directory name) mtime ctime r) (seen_owner (with_changed inode (without_link mtime ctime) r) _ refl refl (same_owner r h inode (without_link mtime ctime) (λ a. refl))) own inode
  owner-keeps (Closes own number block parting) r may room h = unused_owner (without_block number r) (seen_owner r _ refl refl h) own block.inode
  owner-keeps _ r may room h = seen_owner r _ refl refl h

-- ---- uses

-- what stands in open control blocks alone is seen
seen_uses : (r now : Resources) → now.inodes.blocks ≡ r.inodes.blocks → HasUses r → HasUses now
seen_uses r now same h = record { used = λ number block there. h.used number block (ap (λ rows. row_at rows number) (sym same) ∙ there) }

unused_uses : (own : Kind) (inode : ℕ) (r : Resources) → HasUses r → HasUses (without_unused own inode r)
unused_uses own inode r h =
    unused_cases HasUses own inode r
    (λ gone. content_cases HasUses own inode (freed inode r) (λ is. seen_uses r _ refl h) (λ is. seen_uses r _ refl h) (λ is. seen_uses r _ refl h)) (λ stays. h)

moved_used : (before after : Ocb) → IsMoved before after → IsUsed before → IsUsed after
moved_used before after is used = record {
  some = elim is.some [ inl more ↦ let some = used.some in omega (arith, more, some) | inr some ↦ some ];
  few = elim is.few [ inl fewer ↦ let few = used.few in omega (arith, fewer, few) | inr few ↦ few ];
}

pub uses-keep : (change : ResourceChange) (r : Resources) → MayHappen change r → HasRoom r → HasUses r → HasUses (with_change change r)
uses-keep (Comes inode directory name kind mode moment) r may room h =
    empty_cases HasUses kind inode (with_named inode (under directory name) (new_attribute kind mode r.user moment) r) (λ is. seen_uses r _ refl h) (λ is. seen_uses r _ refl h) (λ is. seen_uses r _ refl h)
uses-keep (Opens number block at) r may room h = record {
  used = λ n other there. elim (put_cases r.inodes.blocks number block (block_is_new r.inodes number room.some_blocks may.0).within n other there) [
    | inl is ↦ let one : other.uses ≡ 1 = ap (λ (b : Ocb). b.uses) (sym is.1) ∙ may.2 in record { some = omega (arith, one); few = omega (arith, one) }
    | inr was ↦ h.used n other was
  ];
}
uses-keep (Moves number move) r may room h = record {
  used = λ n now there. let was = with_row-was r.inodes.blocks number (moved move) n now there in elim was.2 [
    | inl stays ↦ subst IsUsed stays.1 (h.used n was.0 was.1)
    | inr is ↦ subst IsUsed is.1 (moved_used was.0 (moved move was.0) (may was.0 (ap (row_at r.inodes.blocks) (sym is.0) ∙ was.1)) (h.used n was.0 was.1))
  ];
}
uses-keep (Unlinks own directory name inode mtime ctime) r may room h = unused_uses own inode (with_unlinked inode (under directory name) mtime ctime r) (seen_uses r _ refl h)
uses-keep (Closes own number block parting) r may room h =
    unused_uses own block.inode (without_block number r) (record { used = λ n other there. elim (row_at-set_cases r.inodes.blocks number n None other there) [ inl was ↦ h.used n other was | inr none ↦ absurd (cc) ] })
uses-keep _ r may room h = seen_uses r _ refl h
