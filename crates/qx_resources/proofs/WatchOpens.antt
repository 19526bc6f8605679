-- What an open and the making of a directory come to: nothing comes to hold by them.
use Rattle.std.proofs.Common.{◌≡◌, inl, inr, ℕ, ◌≤◌, Bool, true, false, not, refl, sym, ap, ◌∙◌, arith, Option, Some, None, List, slice_set, ◌∷◌, [], ◌++◌, le_of_eq, count_by, nat_le, ◌⊎◌, Ok, Err}
use Rattle.std.proofs.lemmas.Bool.{cases_eq, cond_both}
use Rattle.std.specs.Prelude.{◌&&◌, is_some, if◌then◌else◌}
use Rattle.qx_base.specs.declared.errno.Errno.{Errno}
use Rattle.qx_base.specs.declared.errno.Errno.TheVariants.{EISDIR, ENOSPC, EACCES, EEXIST, ENOENT, ENFILE}
use Rattle.qx_types.specs.declared.flags.OFlags.{OFlags}
use Rattle.qx_types.specs.declared.flags.TheConstants.OFlags.{CREAT, EXCL, TRUNC}
use Rattle.qx_machine.specs.declared.rows.Attribute.{Attribute}
use Rattle.qx_machine.specs.declared.rows.Kind.{Kind}
use Rattle.qx_machine.specs.declared.rows.Kind.TheVariants.{Directory, File}
use Rattle.qx_machine.specs.declared.rows.NewOpen.{NewOpen}
use Rattle.qx_machine.specs.declared.rows.Ocb.{Ocb}
use Rattle.qx_machine.specs.declared.rows.WaitingCall.{WaitingCall}
use Rattle.qx_machine.specs.declared.rows.Wish.{Wish}
use Rattle.qx_machine.specs.Defaults.{MadeInode, allows, made_at, make_directory, open_existing, open_missing, open_path, open_spot, opened, writable}
use Rattle.qx_machine.specs.Inodes.{is_open, reads, writes, Inodes, Numbered, block_number, has, inode_number, new_attribute, new_inode, number_within, open_block}
use Rattle.qx_isolation.specs.Judgements.{found, need}
use Rattle.qx_machine.specs.Names.{Spot, is_directory, spot}
use Rattle.qx_machine.specs.Notification.{block_conditions, conditions_at, conditions_of}
use Rattle.qx_machine.specs.Pipes.{Pipe, pipe_of}
use Rattle.qx_machine.specs.RamManager.{emptied}
use Rattle.qx_machine.specs.Resources.{Resources, with_empty}
use Rattle.qx_isolation.specs.Rows.{row_at, lowest_from, put_row}
use Rattle.qx_machine.specs.Waiting.{sides_of}
use Rattle.qx_isolation.proofs.Places.{row_at-set_other, lowest_from_free}
use Rattle.qx_attr.proofs.CountLemmas.{count-put}
use Rattle.qx_attr.proofs.TableLemmas.{row-put}
use Rattle.qx_resources.proofs.WatchDeeds.{GivesStill}
use Rattle.qx_resources.proofs.WatchFacts.{IsStill}
use Rattle.qx_machine.proofs.Gives.{Gives, gives_done, gives_on, gives_by}
use Rattle.qx_resources.proofs.WatchQuiet.{IsQuiet, inode_of, quiet-over, quiet-both, pipe-falls}
use Rattle.qx_resources.specs.Watching.{HasNoStalePipe}
use Rattle.qx_machine.specs.declared.rows.Kind.TheVariants as kind

-- ---- blocks come

-- what is open stays so, and the pipes that it has open are as before
pub record Grows (r s : Resources) : Type 0 where
  pub rows : (number : ℕ) (block : Ocb) → row_at r.inodes.blocks number ≡ Some block → inode_of (row_at s.inodes.blocks number) ≡ Some block.inode
  pub counts : (which : OFlags → Bool) (inode : ℕ) → count_by (is_open which inode) r.inodes.blocks ≤ count_by (is_open which inode) s.inodes.blocks
  pub pipes : (number : ℕ) (block : Ocb) → row_at r.inodes.blocks number ≡ Some block → (row_at s.pipes block.inode ≡ row_at r.pipes block.inode) ⊎ (row_at r.pipes block.inode ≡ None)

pub grows-still : (r s : Resources) → Grows r s → IsStill r s
grows-still r s grows number = by (row_at r.inodes.blocks number) refl
  where
    by : (row : Option Ocb) → row_at r.inodes.blocks number ≡ row → IsQuiet (block_conditions r number) (block_conditions s number)
    by None is = quiet-both _ _ (ap (conditions_at r) is)
    by (Some block) is =
        quiet-over r s number (Some block.inode) (Some block.inode) (ap inode_of is) (grows.rows number block is)
        (elim (grows.pipes number block is) [
          | inl same ↦ pipe-falls r s block.inode (grows.counts reads block.inode) (grows.counts writes block.inode) same
          | inr none ↦ quiet-both _ _ (ap (conditions_of (sides_of r.inodes block.inode)) none)
        ])

-- the blocks are the same, and so is each pipe that one of them has open, or it was none
module _ (r s : Resources) (blocks : s.inodes.blocks ≡ r.inodes.blocks) (pipes : (number : ℕ) (block : Ocb) → row_at r.inodes.blocks number ≡ Some block → (row_at s.pipes block.inode ≡ row_at r.pipes block.inode) ⊎ (row_at r.pipes block.inode ≡ None)) where
  pub same-grows : Grows r s
  same-grows = record {
    rows = λ number block is. ap (λ (rows : List (Option Ocb)). inode_of (row_at rows number)) blocks ∙ ap inode_of is;
    counts = λ which inode. le_of_eq (ap (count_by (is_open which inode)) (sym blocks));
    pipes = pipes;
  }

pub same-still : (r s : Resources) → s.inodes.blocks ≡ r.inodes.blocks → s.pipes ≡ r.pipes → IsStill r s
same-still r s blocks pipes = grows-still r s (same-grows r s blocks (λ number block is. inl (ap (λ (rows : List (Option (Pipe WaitingCall))). row_at rows block.inode) pipes)))

-- ---- what is made and opened

-- a number that was given is the one that was looked for
within-is : (limit number : ℕ) (error : Errno) (given : ℕ) → number_within limit number error ≡ Ok given → number ≡ given
within-is limit number error given = by (nat_le number limit)
  where
    by : (test : Bool) → (if test then Ok number else Err error) ≡ Ok given → number ≡ given
    by true is = cc
    by false is = absurd (cc)

record IsMade (inodes : Inodes) (made : Numbered) : Type 0 where
  free : row_at inodes.attributes made.number ≡ None
  blocks : made.inodes.blocks ≡ inodes.blocks

inode-gives : (inodes : Inodes) (attribute : Attribute) → Gives (IsMade inodes) (new_inode inodes attribute)
inode-gives inodes attribute =
    gives_on _ (inode_number inodes) _ (λ number is.
    gives_done _ _ (record { free = ap (row_at inodes.attributes) (sym (within-is inodes.most_inodes (lowest_from 1 inodes.attributes) ENOSPC number is)) ∙ lowest_from_free 1 inodes.attributes; blocks = refl }))

-- the blocks are as before, and so are the pipes that they have open
record IsReady (r s : Resources) : Type 0 where
  blocks : s.inodes.blocks ≡ r.inodes.blocks
  pipes : (number : ℕ) (block : Ocb) → row_at r.inodes.blocks number ≡ Some block → (row_at s.pipes block.inode ≡ row_at r.pipes block.inode) ⊎ (row_at r.pipes block.inode ≡ None)

-- a block comes where none was
put-grows : (r s : Resources) (number : ℕ) (new : Ocb) → IsReady r s → row_at s.inodes.blocks number ≡ None → Grows r (record s { inodes = record s.inodes { blocks = put_row s.inodes.blocks number new; made = s.inodes.made ++ number ∷ [] } })
put-grows r s number new ready free = record {
  rows = λ other block is.
      let was : row_at s.inodes.blocks other ≡ Some block = ap (λ (rows : List (Option Ocb)). row_at rows other) ready.blocks ∙ is in
      elim (row-put s.inodes.blocks number new free other) [
        | inl same ↦ ap inode_of (same ∙ was)
        | inr put ↦ absurd (none-some _ _ (put.1) was)
      ];
  counts = λ which inode.
      let put = count-put (is_open which inode) refl s.inodes.blocks number new free in
      let same = ap (count_by (is_open which inode)) ready.blocks in
      omega (arith, put, same);
  pipes = ready.pipes;
}
  where
    none-some : (row : Option Ocb) (block : Ocb) → row ≡ None → row ≡ Some block → ⊥
    none-some row block none some = absurd (cc)

opened-still : (r s : Resources) (over : NewOpen) (flags : OFlags) (inode : ℕ) → IsReady r s → GivesStill r (opened over flags inode s)
opened-still r s over flags inode ready =
    gives_by (λ (block : Numbered). Grows r (record s { inodes = block.inodes })) _ (open_block s.inodes inode flags over.client) _
    (gives_on _ (block_number s.inodes) _ (λ number is.
    gives_done _ _ (put-grows r s number _ ready (ap (row_at s.inodes.blocks) (sym (within-is s.inodes.most_blocks (lowest_from 1 s.inodes.blocks) ENFILE number is)) ∙ lowest_from_free 1 s.inodes.blocks))))
    (λ block grows. gives_done _ _ (grows-still r _ grows))

ready-same : (r : Resources) → IsReady r r
ready-same r = record { blocks = refl; pipes = λ number block is. inl refl }

emptied-ready : (flags : OFlags) (inode moment : ℕ) (r : Resources) → IsReady r (emptied flags inode moment r)
emptied-ready flags inode moment r =
    cond_both (has flags TRUNC && writes flags && is_some (row_at r.files inode)) _ r (IsReady r) (λ is. record { blocks = refl; pipes = λ number block is. inl refl }) (λ is_not. ready-same r)

existing-still : (r : Resources) (over : NewOpen) (inode : ℕ) (wish : Wish) → GivesStill r (open_existing r over inode wish)
existing-still r over inode wish =
    gives_on _ (found (row_at r.inodes.attributes inode) ENOENT) _ (λ attribute there.
    gives_on _ (need (not (has wish.flags CREAT && has wish.flags EXCL)) EEXIST) _ (λ shared is_shared.
    gives_on _ (need (not (is_directory attribute.kind && writes wish.flags)) EISDIR) _ (λ fitting is_fitting.
    gives_on _ (need (allows attribute r.user wish.flags) EACCES) _ (λ allowed is_allowed.
    opened-still r (emptied wish.flags inode wish.moment r) over wish.flags inode (emptied-ready wish.flags inode wish.moment r)))))

module _ (r : Resources) (no_stale : HasNoStalePipe r) where
  -- a pipe or a device comes where no block has one open
  row-ready : (row : Option (Pipe WaitingCall)) (inode : ℕ) (s : Resources) → row_at r.inodes.attributes inode ≡ None → s.inodes.blocks ≡ r.inodes.blocks → s.pipes ≡ r.pipes → IsReady r (record s { pipes = slice_set s.pipes inode row })
  row-ready row inode s free blocks pipes = record {
    blocks = blocks;
    pipes = λ number block is. elim (cases_eq block.inode inode) [
      | inl same ↦ inr (no_stale number block is (ap (row_at r.inodes.attributes) same ∙ free))
      | inr apart ↦ inl (row_at-set_other s.pipes inode block.inode row apart ∙ ap (λ (rows : List (Option (Pipe WaitingCall))). row_at rows block.inode) pipes)
    ];
  }

  empty-ready : (kind : Kind) (inode : ℕ) (s : Resources) → row_at r.inodes.attributes inode ≡ None → s.inodes.blocks ≡ r.inodes.blocks → s.pipes ≡ r.pipes → IsReady r (with_empty kind inode s)
  empty-ready File inode s free blocks pipes = record { blocks = blocks; pipes = λ number block is. inl (ap (λ (rows : List (Option (Pipe WaitingCall))). row_at rows block.inode) pipes) }
  empty-ready Directory inode s free blocks pipes = record { blocks = blocks; pipes = λ number block is. inl (ap (λ (rows : List (Option (Pipe WaitingCall))). row_at rows block.inode) pipes) }
  empty-ready kind.Pipe inode s free blocks pipes = row-ready (Some (pipe_of None [] [] [])) inode s free blocks pipes
  empty-ready (kind.Device device) inode s free blocks pipes = row-ready (Some (pipe_of (Some device) [] [] [])) inode s free blocks pipes

  made-ready : (at : Spot) (parent : Attribute) (kind : Kind) (mode moment : ℕ) → Gives (λ (made : MadeInode). IsReady r made.after) (made_at r at parent kind mode moment)
  made-ready at parent kind mode moment =
      gives_by (IsMade r.inodes) _ (new_inode r.inodes (new_attribute kind mode r.user moment)) _ (inode-gives r.inodes _) (λ made is.
      gives_done _ _ (empty-ready kind made.number _ is.free is.blocks refl))

  missing-still : (own : Kind) (over : NewOpen) (at : Spot) (wish : Wish) → GivesStill r (open_missing own r over at wish)
  missing-still own over at wish =
      gives_on _ (need (has wish.flags CREAT) ENOENT) _ (λ making is_making.
      gives_on _ (writable r.inodes r.user at.parent) _ (λ parent is_parent.
      gives_on _ (block_number r.inodes) _ (λ free is_free.
      gives_by _ _ (made_at r at parent own wish.mode wish.moment) _ (made-ready at parent own wish.mode wish.moment) (λ made ready.
      opened-still r made.after over wish.flags made.inode ready))))

  spot-still : (own : Kind) (over : NewOpen) (at : Spot) (there : Option ℕ) (wish : Wish) → GivesStill r (open_spot own r over at there wish)
  spot-still own over at (Some inode) wish = existing-still r over inode wish
  spot-still own over at None wish = missing-still own over at wish

  pub open-still : (own : Kind) (over : NewOpen) (rest : List (List ℕ)) (wish : Wish) → GivesStill r (open_path own r over rest wish)
  open-still own over [] wish = existing-still r over over.root wish
  open-still own over (name ∷ rest) wish = gives_on _ (spot r.inodes r.names r.user over.root (name ∷ rest) ENOENT) _ (λ at is. spot-still own over at at.inode wish)

  pub directory-still : (root mode : ℕ) (rest : List (List ℕ)) (moment : ℕ) → GivesStill r (make_directory r root mode rest moment)
  directory-still root mode rest moment =
      gives_on _ (spot r.inodes r.names r.user root rest EEXIST) _ (λ at is.
      gives_on _ (need (not (is_some at.inode)) EEXIST) _ (λ missing is_missing.
      gives_on _ (writable r.inodes r.user at.parent) _ (λ parent is_parent.
      gives_by _ _ (made_at r at parent Directory mode moment) _ (made-ready at parent Directory mode moment) (λ made ready.
      gives_done _ _ (grows-still r _ (same-grows r made.after ready.blocks ready.pipes))))))
