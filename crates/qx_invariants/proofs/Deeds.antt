-- What deeds do to a user's resources: a property that each change which may happen keeps, each deed and each cancelled call keep.
use Rattle.std.proofs.Common.{◌≡◌, inl, inr, ℕ, zero, suc, ◌+◌, ◌≤◌, ◌==◌, List, [], ◌∷◌, ◌++◌, length, true, false, refl, sym, ap, ◌∙◌, subst, arith, ltb-true, ltb-false, ◌≢◌, Bool}
use Rattle.std.specs.Prelude.{IfOk, ℤ, ◌&&◌, Option, Some, None, Result, Ok, Err, is_some, nat_le, nat_lt, not, option_map, position, slice_set, ◌||◌}
use Rattle.std.specs.FinMap.{get, insert, remove}
use Rattle.std.specs.List.{AllByRecursion, count_by}
use Rattle.std.proofs.lemmas.List.{append-nil, append_assoc, set-set}
use Rattle.std.proofs.lemmas.Option.{same_Some}
use Rattle.std.proofs.lemmas.Bool.{and_parts, cases_eq, cond_both, eq-eqb, leb-true}
use Rattle.qx_base.specs.declared.errno.Errno.{Errno}
use Rattle.qx_base.specs.declared.errno.Errno.TheVariants.{EACCES, EBADF, EBUSY, EEXIST, EFBIG, EINVAL, EISDIR, EMFILE, ENOENT, ENOSPC, ENOTEMPTY, EPERM, ENOTDIR}
use Rattle.qx_devices.specs.Devices.{device_number}
use Rattle.qx_types.specs.declared.fields.NotifyAction.{NotifyAction}
use Rattle.qx_types.specs.declared.fields.Whence.{Whence}
use Rattle.qx_types.specs.declared.flags.OFlags.{OFlags}
use Rattle.qx_types.specs.declared.flags.TheConstants.OFlags.{CREAT, EXCL, TRUNC}
use Rattle.qx_types.specs.declared.limits.TheConstants.Limits.{LAST_CONNECTION}
use Rattle.qx_types.specs.declared.names.Manager.{Manager}
use Rattle.qx_types.specs.declared.names.Manager.TheVariants as managers
use Rattle.qx_types.specs.declared.outcome.Outcome.TheVariants.{WrongState}
use Rattle.qx_wire.specs.declared.message.Message.{Message}
use Rattle.qx_wire.specs.declared.message.Message.TheVariants as msg
use Rattle.qx_machine.specs.declared.rows.Access.TheVariants.{Write}
use Rattle.qx_machine.specs.declared.rows.Attribute.{Attribute}
use Rattle.qx_machine.specs.declared.rows.Context.{Context}
use Rattle.qx_machine.specs.declared.rows.Effect.TheVariants.{Keeps}
use Rattle.qx_types.specs.declared.outcome.Answer.{Answer}
use Rattle.qx_machine.specs.declared.rows.Kind.{Kind}
use Rattle.qx_machine.specs.declared.rows.Kind.TheVariants as kind
use Rattle.qx_machine.specs.declared.rows.Kind.TheVariants.{Directory, File}
use Rattle.qx_machine.specs.declared.rows.NewDup.{NewDup}
use Rattle.qx_machine.specs.declared.rows.NewOpen.{NewOpen}
use Rattle.qx_machine.specs.declared.rows.Ocb.{Ocb}
use Rattle.qx_machine.specs.declared.rows.Opened.{Opened}
use Rattle.qx_machine.specs.declared.rows.PulseWish.{PulseWish}
use Rattle.qx_machine.specs.declared.rows.Target.{Target}
use Rattle.qx_machine.specs.declared.rows.WaitingCall.{WaitingCall}
use Rattle.qx_machine.specs.declared.rows.Wish.{Wish}
use Rattle.qx_machine.specs.Attributes.{top_inode}
use Rattle.qx_machine.specs.Defaults.{MadeInode, allows, cleared, rename_path, rename_to, with_both_changed, with_entries_changed as written_to, chmod_block, close_dup, close_ocb, dup_open, free_block, is_own, list_block, made_at, make_directory, open_spot, open_existing, open_missing, open_path, opened, own_block, pipe_in, stat_block, stat_path, unlink_path, unnamed, unopened, without_block, without_name, without_unused, writable}
use Rattle.qx_machine.specs.Events.{Notified, disarmed, notified}
use Rattle.qx_machine.specs.Files.{put, total_size}
use Rattle.qx_machine.specs.Functions.{Deed, is_side, message_deed, new_coid, new_dup, new_open, reply_alone, side_root}
use Rattle.qx_machine.specs.Inodes.{Inodes, Numbered, is_open, is_shared, block_number, dup_block, has, inode_number, may, new_attribute, new_block, new_inode, open_block, readers_of, reads, with_attribute, with_offset, writers_of, writes}
use Rattle.qx_isolation.specs.Judgements.{found, need}
use Rattle.qx_machine.specs.Managers.{close_all, manager_deed, or_unreplied, own_kind, pipe_connect, pipe_io}
use Rattle.qx_machine.specs.Names.{Key, Spot, is_directory, is_empty, names_in, root_key, spot, under, Names, is_below, is_same_key, moved as moved_all}
use Rattle.qx_machine.specs.Notification.{conditions_at, event_of, notify_block}
use Rattle.qx_machine.specs.PipeManager.{cancel_call, deed_of_call, filled, read_pipe, released, seek_pipe, deed_of_pipe, write_pipe}
use Rattle.qx_machine.specs.Pipes.{PipeAfter, Pipe, cancel, nobody_answered, release}
use Rattle.qx_machine.specs.RamManager.{emptied, read_file, seek_file, with_bytes, write_file, written_at}
use Rattle.qx_machine.specs.Resources.{Resources, with_empty}
use Rattle.qx_isolation.specs.Rows.{put_row, row_at, with_row}
use Rattle.qx_machine.specs.Waiting.{Pipes, holds, is_call, is_gone, is_over, manner_of, offered, sides_of, waiting_call, wanted}
use Rattle.qx_isolation.proofs.Places.{row_at-set_other}
use Rattle.qx_invariants.specs.Changes.{AreKept, LeadsTo, ResourceChange, Closes, Comes, Fills, IsDone, IsMoved, IsOwnInode, MayHappen, MayPart, Moves, Notifies, OneLess, OneMore, Opens, Parting, ToOffset, Touches, Unlinks, WithClient, WithLast, Writes, moved, with_change, touched, without_link, with_named, IsDirectoryAt, Renames}
use Rattle.qx_invariants.specs.Waits.{is_astray, count_waiting_in}
use Rattle.qx_machine.proofs.AtOnce.{IsIdle, RepliesIdle, call-by, read-idle, write-idle}
use Rattle.qx_machine.proofs.Gives.{Gives, found-row, gives_by, gives_done, gives_error, gives_on, gives-value, need-true}
use Rattle.qx_attr.proofs.CountLemmas.{within_table}
use Rattle.qx_iofunc.proofs.PlaceLemmas.{put_at, set_at}
use Rattle.qx_iofunc.proofs.OpenLemmas.{none_in}
use Rattle.qx_invariants.proofs.Calls.{LeavesWell, cancel_well, idle_well, no_one, put_short, read_well, release_none, release_well, write_well}
use Rattle.qx_invariants.proofs.Events.{disarmed-kept, notified-kept}
use Rattle.qx_invariants.proofs.Rows.{IsNew, content_cases, filled-alike, filled-kind, freed, unused_cases, with_row-some_at, inode_is_new, put_there, some-is, the-some, with_row-at, with_row-some}
use Rattle.qx_names.proofs.Keys.{insert-at, nothing_behind, remove-at, remove-other}
use Rattle.qx_invariants.proofs.Spots.{AreComponents, IsSpot, spot-gives}
use Rattle.qx_invariants.proofs.Told.{CameWith, IsClosing, IsMadeThere, SeenWith, Told, nothing, seeing, telling, told_by}

is-none : (row : Option ℕ) → not (is_some row) ≡ true → row ≡ None
is-none None is = refl
is-none (Some value) is = absurd (cc)

set-some : {A : Type 0} (places : List (Option A)) (n : ℕ) (row : A) (m : ℕ) → is_some (row_at places m) ≡ true → is_some (row_at (slice_set places n (Some row)) m) ≡ true
set-some [] n row m is = is
set-some (place ∷ places) zero row zero is = refl
set-some (place ∷ places) zero row (suc m) is = is
set-some (place ∷ places) (suc n) row zero is = is
set-some (place ∷ places) (suc n) row (suc m) is = set-some places n row m is

empty-inodes : (kind : Kind) (number : ℕ) (r : Resources) (inodes : Inodes) → record (with_empty kind number r) { inodes = inodes } ≡ with_empty kind number (record r { inodes = inodes })
empty-inodes File number r inodes = refl
empty-inodes _ number r inodes = refl

empty-same : (kind : Kind) (number : ℕ) (r : Resources) → (with_empty kind number r).inodes ≡ r.inodes
empty-same File number r = refl
empty-same _ number r = refl

empty-names : (kind : Kind) (number : ℕ) (r : Resources) → (with_empty kind number r).names ≡ r.names
empty-names File number r = refl
empty-names _ number r = refl

emptied-there : (r : Resources) (flags : OFlags) (inode moment : ℕ) → is_some (row_at r.inodes.attributes inode) ≡ true → is_some (row_at (emptied flags inode moment r).inodes.attributes inode) ≡ true
emptied-there r flags inode moment there =
    cond_both (has flags TRUNC && writes flags && is_some (row_at r.files inode)) (with_bytes inode moment [] r) r (λ (s : Resources). is_some (row_at s.inodes.attributes inode) ≡ true)
    (λ is. with_row-some_at r.inodes.attributes inode _ inode ∙ there) (λ is_not. there)

emptied-leads : (r : Resources) (flags : OFlags) (inode moment : ℕ) (at : Key) → LeadsTo r at inode → LeadsTo (emptied flags inode moment r) at inode
emptied-leads r flags inode moment at leads =
    cond_both (has flags TRUNC && writes flags && is_some (row_at r.files inode)) (with_bytes inode moment [] r) r (λ (s : Resources). LeadsTo s at inode) (λ is. leads) (λ is_not. leads)

-- a manager's own kind is one of its own
own-is : (own : Kind) → is_own own own ≡ true
own-is File = refl
own-is Directory = refl
own-is kind.Pipe = refl
own-is (kind.Device device) = eq-eqb (device_number device) (device_number device) refl

shared-block : (row : Option Ocb) → is_shared row ≡ true → (block : Ocb) × (row ≡ Some block)
shared-block None is = absurd (cc)
shared-block (Some block) is = (block, refl)

-- ---- what a message came over

-- the client's new connection, and the root of the mount
record IsNewOpen (context : Context) (over : NewOpen) : Type 0 where
  connection : new_coid context.target.over ≡ Some over.coid
  root : context.target.root ≡ Some over.root
  client : over.client ≡ context.client

new_open-is : (context : Context) (over : NewOpen) → new_open context ≡ Ok over → IsNewOpen context over
new_open-is context over is =
    gives-value (IsNewOpen context) _ over is
    (gives_on _ (found (new_coid context.target.over) EINVAL) _ (λ coid there.
    gives_on _ (found context.target.root EINVAL) _ (λ root at_root.
    gives_done _ _ (record { connection = found-row _ _ coid there; root = found-row _ _ root at_root; client = refl }))))

new_dup-is : (context : Context) (dup : NewDup) → new_dup context ≡ Ok dup → (new_coid context.target.over ≡ Some dup.coid) × (context.opened ≡ Ok dup.old)
new_dup-is context dup is =
    gives-value (λ (dup : NewDup). (new_coid context.target.over ≡ Some dup.coid) × (context.opened ≡ Ok dup.old)) _ dup is
    (gives_on _ (found (new_coid context.target.over) EINVAL) _ (λ coid there.
    gives_on _ context.opened _ (λ old was. gives_done _ _ (found-row _ _ coid there, was))))

side_root-is : (target : Target) (root : ℕ) → side_root target ≡ Ok root → target.root ≡ Some root
side_root-is target root is =
    gives-value (λ root. target.root ≡ Some root) _ root is
    (gives_on _ (need (is_side target.over) EINVAL) _ (λ aside is_one. record { gives = by target.root }))
  where
    by : (row : Option ℕ) → IfOk (found row EINVAL) (λ root. row ≡ Some root)
    by None = tt
    by (Some value) = refl

-- what is open stays open at another offset, with one connection more while few have it, and with one less while more than one has it
offset-moved : (block : Ocb) (offset : ℕ) → IsMoved block (moved (ToOffset offset) block)
offset-moved block offset = record { inode = refl; flags = refl; client = refl; some = inl (omega arith); few = inl (omega arith) }

more-moved : (block : Ocb) → nat_lt block.uses LAST_CONNECTION ≡ true → IsMoved block (moved OneMore block)
more-moved block is_few = let few = ltb-true block.uses LAST_CONNECTION is_few in record { inode = refl; flags = refl; client = refl; some = inr (omega arith); few = inr (omega (arith, few)) }

less-moved : (block : Ocb) → nat_lt 1 block.uses ≡ true → IsMoved block (moved OneLess block)
less-moved block is_shared = let shared = ltb-true 1 block.uses is_shared in record { inode = refl; flags = refl; client = refl; some = inr (omega (arith, shared)); few = inl (omega arith) }

last-use : (block : Ocb) → nat_lt 1 block.uses ≡ false → block.uses ≤ 1
last-use block is_last = ltb-false 1 block.uses is_last

-- the components that a message names
abbrev pub NamesComponents : Message → Type 0
NamesComponents (msg.Open flags mode rest) = AreComponents rest
NamesComponents (msg.Unlink rest) = AreComponents rest
NamesComponents (msg.Mknod mode rest) = AreComponents rest
NamesComponents (msg.Rename rests) = AreComponents rests.0 × AreComponents rests.1
NamesComponents _ = Unit {0}

-- ---- directories that stay

not_true : (b : Bool) → not b ≡ true → b ≡ false
not_true true e = cc
not_true false e = refl

own_name : (above : Key) (name : List ℕ) → ◌≡◌ {A = Key} above (under above name) → ⊥
own_name above name e = let lengths = ap (λ (key : Key). length key.1) e in omega (arith, lengths)

unused_names_same : (own : Kind) (inode : ℕ) (r : Resources) → (without_unused own inode r).names ≡ r.names
unused_names_same own inode r = unused_cases (λ (s : Resources). s.names ≡ r.names) own inode r (λ gone. content_cases (λ (s : Resources). s.names ≡ r.names) own inode (freed inode r) (λ is. refl) (λ is. refl) (λ is. refl)) (λ stays. refl)

set-directory : (r : Resources) (inode : ℕ) (was now : Attribute) → row_at r.inodes.attributes inode ≡ Some was → now.kind ≡ was.kind → (above : Key) → IsDirectoryAt r above → IsDirectoryAt (record r { inodes = with_attribute r.inodes inode now }) above
set-directory r inode was now there same above d = elim (cases_eq d.inode inode) [
  | inl is ↦ record {
    inode = d.inode;
    attribute = now;
    leads = d.leads;
    there = ap (row_at (slice_set r.inodes.attributes inode (Some now))) is ∙ set_at r.inodes.attributes inode now (within_table r.inodes.attributes inode was there);
    directory = ap is_directory (same ∙ ap (λ (a : Attribute). a.kind) (same_Some _ _ (sym there ∙ (ap (row_at r.inodes.attributes) (sym is) ∙ d.there)))) ∙ d.directory;
  }
  | inr apart ↦ record { inode = d.inode; attribute = d.attribute; leads = d.leads; there = row_at-set_other r.inodes.attributes inode d.inode (Some now) apart ∙ d.there; directory = d.directory }
]

unused_directory_other : (own : Kind) (inode : ℕ) (r : Resources) (above : Key) (d : IsDirectoryAt r above) → d.inode ≢ inode → IsDirectoryAt (without_unused own inode r) above
unused_directory_other own inode r above d apart = record {
  inode = d.inode;
  attribute = d.attribute;
  leads = ap (λ (n : Names). get n above) (unused_names_same own inode r) ∙ d.leads;
  there = unused_cases (λ (s : Resources). row_at s.inodes.attributes d.inode ≡ Some d.attribute) own inode r
      (λ gone. content_cases (λ (s : Resources). row_at s.inodes.attributes d.inode ≡ Some d.attribute) own inode (freed inode r) (λ is. less) (λ is. less) (λ is. less)) (λ stays. d.there);
  directory = d.directory;
}
  where
    less : row_at (slice_set r.inodes.attributes inode None) d.inode ≡ Some d.attribute
    less = row_at-set_other r.inodes.attributes inode d.inode None apart ∙ d.there

-- ---- a block goes

module _ (r : Resources) (own : Kind) where
  -- a block of the manager's own
  abbrev IsOwnBlock : ℕ → Ocb → Type 0
  IsOwnBlock number block = (row_at r.inodes.blocks number ≡ Some block) × IsOwnInode own r block.inode

  own_block-gives : (number : ℕ) → Gives (IsOwnBlock number) (own_block r.inodes number own)
  own_block-gives number =
      gives_on _ (found (row_at r.inodes.blocks number) EBADF) _ (λ block opened.
      gives_on _ (found (row_at r.inodes.attributes block.inode) EBADF) _ (λ attribute there.
      gives_on _ (need (is_own own attribute.kind) EBADF) _ (λ mine is_mine.
      gives_done _ _ (found-row _ _ block opened, record { attribute = attribute; there = found-row _ _ attribute there; owned = need-true _ _ mine is_mine }))))

pipe_in-there : (own : Kind) (r : Resources) (inode : ℕ) (pipe : Pipe WaitingCall) → pipe_in own r inode ≡ Some pipe → row_at r.pipes inode ≡ Some pipe
pipe_in-there kind.Pipe r inode pipe is = is
pipe_in-there (kind.Device device) r inode pipe is = is
pipe_in-there _ r inode pipe is = absurd (cc)

-- the pipe as it is afterwards
pipe_in-set : (own : Kind) (r s : Resources) (inode : ℕ) (pipe after : Pipe WaitingCall) → pipe_in own r inode ≡ Some pipe → s.pipes ≡ slice_set r.pipes inode (Some after) → pipe_in own s inode ≡ Some after
pipe_in-set kind.Pipe r s inode pipe after is are = ap (λ (pipes : Pipes). row_at pipes inode) are ∙ set_at r.pipes inode after (within_table r.pipes inode pipe is)
pipe_in-set (kind.Device device) r s inode pipe after is are = ap (λ (pipes : Pipes). row_at pipes inode) are ∙ set_at r.pipes inode after (within_table r.pipes inode pipe is)
pipe_in-set _ r s inode pipe after is are = absurd (cc)

-- what a call leaves was done to the pipe, or to the device
done-well : (r : Resources) (inode : ℕ) (pipe : Pipe WaitingCall) (came : List WaitingCall) (after : PipeAfter WaitingCall) → row_at r.pipes inode ≡ Some pipe → count_by (is_astray r.inodes.blocks inode) came ≡ 0 → LeavesWell pipe came after → IsDone r inode after came
done-well r inode pipe came after there over well = record { pipe = pipe; there = there; over = over; once = well.once; settled = well.settled; device = well.rules.device; short = well.rules.short }

module _ (K : Resources → Told → Type 0) (keeps : (change : ResourceChange) (r : Resources) (told : Told) → MayHappen change r → K r told → K (with_change change r) (told_by change told)) where
  module _ (answers : List (WaitingCall × Answer)) (seen : List ResourceChange) where
    -- the resources have the property, with what was answered before and by that, and what was seen before and then
    abbrev HasClosed : Resources → List (WaitingCall × Answer) → List ResourceChange → Type 0
    HasClosed state more then = K state (record (telling (answers ++ more) []) { seen = then })

    -- a block is closed
    pub record Closed (r : Resources) (own : Kind) (number : ℕ) (parting : Parting) (deed : Deed Resources) : Type 0 where
      pub block : Ocb
      pub there : row_at r.inodes.blocks number ≡ Some block
      pub kept : HasClosed deed.state deed.answers (Closes own number block parting ∷ seen)

    -- any number of blocks are closed
    pub record AllClosed (deed : Deed Resources) : Type 0 where
      pub then : List ResourceChange
      pub kept : HasClosed deed.state deed.answers then
      pub only : AllByRecursion IsClosing seen → AllByRecursion IsClosing then

    nothing-closed : (r : Resources) (then : List ResourceChange) → K r (record (telling answers []) { seen = then }) → HasClosed r [] then
    nothing-closed r then h = subst (λ all. K r (record (telling all []) { seen = then })) (sym (append-nil answers)) h

    pub or_unreplied-closed : (r : Resources) → K r (record (telling answers []) { seen = seen }) → (own : Kind) (number : ℕ) (parting : Parting) (given : Result (Deed Resources) Errno) → Gives (Closed r own number parting) given → AllClosed (or_unreplied r given)
    or_unreplied-closed r h own number parting (Ok deed) closed = let is = gives-value (Closed r own number parting) (Ok deed) deed refl closed in record { then = Closes own number is.block parting ∷ seen; kept = is.kept; only = λ all. (tt, all) }
    or_unreplied-closed r h own number parting (Err error) closed = record { then = seen; kept = nothing-closed r seen h; only = λ all. all }

    module _ (r : Resources) (h : K r (record (telling answers []) { seen = seen })) where
      freed-closed : (own : Kind) (number moment : ℕ) (block : Ocb) → row_at r.inodes.blocks number ≡ Some block → IsOwnInode own r block.inode → (parting : Parting) → MayPart parting block → (row : Option (Pipe WaitingCall)) → pipe_in own r block.inode ≡ row
          → (λ (deed : Deed Resources). HasClosed deed.state deed.answers (Closes own number block parting ∷ seen)) (unopened own block.inode (released (without_block number r) number block.inode moment row))
      freed-closed own number moment block there owned parting may None its =
          nothing-closed (without_unused own block.inode (without_block number r)) (Closes own number block parting ∷ seen)
          (keeps (Closes own number block parting) r (record (telling answers []) { seen = seen }) (there, owned, ap (count_waiting_in (is_over number)) its, may) h)
      freed-closed own number moment block there owned parting may (Some pipe) its =
          let sides = sides_of (without_block number r).inodes block.inode in
          let after : PipeAfter WaitingCall = release wanted offered is_gone (is_over number) sides pipe in
          keeps (Closes own number block parting) (deed_of_pipe r block.inode moment after).state (record (telling (answers ++ after.answers) []) { seen = seen }) (
            there,
            record {
              attribute = filled moment after owned.attribute;
              there = with_row-at r.inodes.attributes block.inode (filled moment after) ∙ ap (option_map (filled moment after)) owned.there;
              owned = ap (is_own own) (filled-kind moment after owned.attribute) ∙ owned.owned;
            },
            ap (count_waiting_in (is_over number)) (pipe_in-set own r (deed_of_pipe r block.inode moment after).state block.inode pipe after.pipe its refl) ∙ release_none wanted offered is_gone (is_over number) sides pipe,
            may,
          )
          (keeps (Fills block.inode moment after []) r (record (telling answers []) { seen = seen }) (done-well r block.inode pipe [] after (pipe_in-there own r block.inode pipe its) refl (release_well pipe (is_over number) sides)) h)

      -- the event of the block goes with it
      pub close_ocb-gives : (own : Kind) (number moment : ℕ) (parting : Parting) → ((block : Ocb) → row_at r.inodes.blocks number ≡ Some block → MayPart parting block) → Gives (Closed r own number parting) (close_ocb own r number moment)
      close_ocb-gives own number moment parting may =
          gives_by (Closed r own number parting) _ (free_block own r number moment) _
          (gives_by (IsOwnBlock r own number) _ (own_block r.inodes number own) _ (own_block-gives r own number) (λ block is.
          gives_done _ _ (record { block = block; there = is.0; kept = freed-closed own number moment block is.0 is.1 parting (may block is.0) (pipe_in own r block.inode) refl })))
          (λ deed closed. gives_done _ _ (record {
            block = closed.block;
            there = closed.there;
            kept = keeps (Notifies (disarmed number deed.state.events)) deed.state (record (telling (answers ++ deed.answers) []) { seen = Closes own number closed.block parting ∷ seen }) (disarmed-kept deed.state.limits.events number deed.state.events) closed.kept;
          }))

  -- all of them go, one after the other
  pub close_all-closed : (manager : Manager) (moment : ℕ) (numbers : List ℕ) (answers : List (WaitingCall × Answer)) (seen : List ResourceChange) (r : Resources) → K r (record (telling answers []) { seen = seen }) → AllClosed answers seen (close_all manager moment numbers r)
  close_all-closed manager moment [] answers seen r h = record { then = seen; kept = nothing-closed answers seen r seen h; only = λ all. all }
  close_all-closed manager moment (number ∷ numbers) answers seen r h =
      let own = own_kind manager in
      let first : Deed Resources = or_unreplied r (close_ocb own r number moment) in
      let closed : AllClosed answers seen first = or_unreplied-closed answers seen r h own number WithClient _ (close_ocb-gives answers seen r h own number moment WithClient (λ block there. tt)) in
      let rest : Deed Resources = close_all manager moment numbers first.state in
      let all : AllClosed (answers ++ first.answers) closed.then rest = close_all-closed manager moment numbers (answers ++ first.answers) closed.then first.state closed.kept in
      record {
        then = all.then;
        kept = subst (λ told. K rest.state (record (telling told []) { seen = all.then })) (append_assoc answers first.answers rest.answers) all.kept;
        only = λ before. all.only (closed.only before);
      }

  -- ---- what stands there

  module _ (r : Resources) (told : Told) (h : K r told) where
    touch-keeps : (inode : ℕ) (attribute now : Attribute) → row_at r.inodes.attributes inode ≡ Some attribute → now ≡ touched now.mode now.mtime now.ctime attribute → K (record r { inodes = with_attribute r.inodes inode now }) told
    touch-keeps inode attribute now there alike =
        subst (λ attributes. K (record r { inodes = record r.inodes { attributes = attributes } }) told)
        (with_row-some r.inodes.attributes inode (touched now.mode now.mtime now.ctime) attribute there ∙ ap (λ a. slice_set r.inodes.attributes inode (Some a)) (sym alike))
        (keeps (Touches inode now.mode now.mtime now.ctime) r told tt h)

    emptied-keeps : (flags : OFlags) (inode moment : ℕ) → K (emptied flags inode moment r) told
    emptied-keeps flags inode moment =
        cond_both (has flags TRUNC && writes flags && is_some (row_at r.files inode)) _ r (λ s. K s told)
        (λ is. let file = the-some (row_at r.files inode) ((and_parts (has flags TRUNC && writes flags) (is_some (row_at r.files inode)) is).1) in
        keeps (Writes inode moment []) r told (record { was = file.0; there = file.1; file = inl (omega arith); files = inl (omega arith) }) h) (λ is_not. h)

  -- ---- what comes

  module _ (r : Resources) (h : K r nothing) (root : ℕ) where
    writable-gives : (directory : ℕ) → Gives (λ attribute. row_at r.inodes.attributes directory ≡ Some attribute) (writable r.inodes r.user directory)
    writable-gives directory =
        gives_on _ (found (row_at r.inodes.attributes directory) ENOENT) _ (λ attribute there.
        gives_on _ (need (may attribute r.user Write) EACCES) _ (λ allowed is. gives_done _ _ (found-row _ _ attribute there)))

    -- an inode of this kind was made under this path, and is there
    pub record IsMade (kind : Kind) (key : Key) (made : MadeInode) : Type 0 where
      pub directory : Key
      pub root_is : root ≡ directory.0
      pub name : List ℕ
      pub mode : ℕ
      pub moment : ℕ
      pub kept : K made.after (seeing (Comes made.inode directory name kind mode moment ∷ []))
      pub there : is_some (row_at made.after.inodes.attributes made.inode) ≡ true
      pub leads : get made.after.names key ≡ Some made.inode

    module _ (at : Spot) (is_spot : IsSpot r root at) (missing : at.inode ≡ None) (parent : Attribute) (there : row_at r.inodes.attributes at.parent ≡ Some parent) (kind : Kind) (mode moment number : ℕ) (free : inode_number r.inodes ≡ Ok number) where
      abbrev attribute : Attribute
      attribute = new_attribute kind mode r.user moment

      abbrev named : Resources
      named = with_named number (under is_spot.above is_spot.name) attribute r

      is_new : IsNew r.inodes.attributes r.inodes.most_inodes number
      is_new = let inside = within_table r.inodes.attributes at.parent parent there in inode_is_new r.inodes number (omega (arith, inside)) free

      abbrev its_told : Told
      its_told = seeing (Comes number is_spot.above is_spot.name kind mode moment ∷ [])

      named-keeps : K (with_empty kind number named) its_told
      named-keeps = keeps (Comes number is_spot.above is_spot.name kind mode moment) r nothing (free, is_spot.directory, ap (get r.names) (sym is_spot.key_is) ∙ (sym is_spot.inode_is ∙ missing), is_spot.component) h

      made-keeps : K (with_empty kind number (record r {
        inodes = with_attribute (record r.inodes { attributes = put_row r.inodes.attributes number attribute }) at.parent (written_to moment parent);
        names = insert r.names at.key number;
      })) its_told
      made-keeps =
          let parent_there = put_there r.inodes.attributes number attribute at.parent parent is_new.within is_new.free there in
          subst (λ key. K (with_empty kind number (record r { inodes = with_attribute named.inodes at.parent (written_to moment parent); names = insert r.names key number })) its_told) (sym is_spot.key_is)
          (subst (λ s. K s its_told) (empty-inodes kind number named (with_attribute named.inodes at.parent (written_to moment parent)))
          (subst (λ inodes. K (record (with_empty kind number named) { inodes = with_attribute inodes at.parent (written_to moment parent) }) its_told) (empty-same kind number named)
          (touch-keeps (with_empty kind number named) its_told named-keeps at.parent parent (written_to moment parent) (ap (λ (inodes : Inodes). row_at inodes.attributes at.parent) (empty-same kind number named) ∙ parent_there) refl)))

      made-there : is_some (row_at (slice_set (put_row r.inodes.attributes number attribute) at.parent (Some (written_to moment parent))) number) ≡ true
      made-there =
          set-some (put_row r.inodes.attributes number attribute) at.parent (written_to moment parent) number (ap is_some (put_at r.inodes.attributes number attribute is_new.within))

    made-gives : (at : Spot) → IsSpot r root at → at.inode ≡ None → (parent : Attribute) → row_at r.inodes.attributes at.parent ≡ Some parent → (kind : Kind) (mode moment : ℕ) → Gives (IsMade kind at.key) (made_at r at parent kind mode moment)
    made-gives at is_spot missing parent there kind mode moment =
        gives_by (λ (made : Numbered). (inode_number r.inodes ≡ Ok made.number) × (made.inodes ≡ record r.inodes { attributes = put_row r.inodes.attributes made.number (new_attribute kind mode r.user moment) })) _ (new_inode r.inodes (new_attribute kind mode r.user moment)) _
        (gives_on _ (inode_number r.inodes) _ (λ number is. gives_done _ _ (is, refl)))
        (λ made is. gives_done _ _ (by made.number made.inodes is.0 is.1))
      where
        by : (number : ℕ) (inodes : Inodes) → inode_number r.inodes ≡ Ok number → inodes ≡ record r.inodes { attributes = put_row r.inodes.attributes number (new_attribute kind mode r.user moment) }
            → IsMade kind at.key (record { inode = number; after = with_empty kind number (record r { inodes = with_attribute inodes at.parent (written_to moment parent); names = insert r.names at.key number }) })
        by number inodes free are =
            subst (λ inodes. IsMade kind at.key (record { inode = number; after = with_empty kind number (record r { inodes = with_attribute inodes at.parent (written_to moment parent); names = insert r.names at.key number }) })) (sym are) (record {
              directory = is_spot.above;
              root_is = is_spot.root_is;
              name = is_spot.name;
              mode = mode;
              moment = moment;
              kept = made-keeps at is_spot missing parent there kind mode moment number free;
              there = ap (λ (inodes : Inodes). is_some (row_at inodes.attributes number)) (empty-same kind number _) ∙ made-there at is_spot missing parent there kind mode moment number free;
              leads = ap (λ names. get names at.key) (empty-names kind number _) ∙ insert-at r.names at.key number;
            })

  -- ---- a cancelled call

  -- where no call comes
  abbrev pub Cancelled : Deed Resources → Type 0
  Cancelled deed = K deed.state (telling deed.answers [])

  pub cancel-gives : (r : Resources) → K r nothing → (process thread call moment : ℕ) → Gives Cancelled (cancel_call r process thread call moment)
  cancel-gives r h process thread call moment =
      gives_on _ (found (position (holds (is_call process thread call)) r.pipes) WrongState) _ (λ inode at.
      gives_on _ (found (row_at r.pipes inode) WrongState) _ (λ pipe here.
      gives_done _ _ (keeps (Fills inode moment (cancel wanted offered is_gone (is_call process thread call) pipe) []) r nothing (done-well r inode pipe [] _ (found-row _ _ pipe here) refl (cancel_well pipe (is_call process thread call))) h)))

-- ---- each deed

module _ (K : Resources → Told → Type 0) (keeps : (change : ResourceChange) (r : Resources) (told : Told) → MayHappen change r → K r told → K (with_change change r) (told_by change told)) (r : Resources) (context : Context) where
  abbrev Q : Resources → Type 0
  Q s = K s nothing

  -- the resources after the deed have the property, with what was answered and seen
  pub record Kept (deed : Deed Resources) : Type 0 where
    pub came : List WaitingCall
    pub seen : List ResourceChange
    pub kept : K deed.state (record (telling deed.answers came) { seen = seen })
    pub own : CameWith context deed.reply came
    pub effect : SeenWith r context deed.reply seen

  alone : (status : ℕ) (bytes : List ℕ) (state : Resources) → Q state → Kept (reply_alone status bytes Keeps state)
  alone status bytes state h = record { came = []; seen = []; kept = h; own = refl; effect = tt }

  -- ---- what is opened

  -- an open is of this client, in the mount to which the message was sent
  module _ (over : NewOpen) (is_new : new_open context ≡ Ok over) where
    opens : IsNewOpen context over
    opens = new_open-is context over is_new

    -- what a path in its mount leads to, beside what was made there
    opened-gives : (s : Resources) (seen : List ResourceChange) → K s (seeing seen) → AllByRecursion (IsMadeThere context) seen → (flags : OFlags) (inode : ℕ) → is_some (row_at s.inodes.attributes inode) ≡ true → (at : Key) → LeadsTo s at inode → over.root ≡ at.0 → Gives Kept (opened over flags inode s)
    opened-gives s seen h made flags inode there at leads root_is =
        gives_by (λ (block : Numbered). K (record s { inodes = block.inodes }) (seeing (Opens block.number (new_block inode flags over.client) at ∷ seen))) _ (open_block s.inodes inode flags over.client) _
        (gives_on _ (block_number s.inodes) _ (λ number is. gives_done _ _ (keeps (Opens number (new_block inode flags over.client) at) s (seeing seen) (is, there, refl, leads) h)))
        (λ block kept. gives_done _ _ (record {
          came = [];
          seen = Opens block.number (new_block inode flags over.client) at ∷ seen;
          kept = kept;
          own = refl;
          effect = inl (record {
            over = opens.connection;
            block = new_block inode flags over.client;
            at = at;
            before = seen;
            last = refl;
            root = opens.root ∙ ap Some root_is;
            client = opens.client;
            uses = refl;
            made = made;
          });
        }))

    module _ (h : Q r) where
      existing-gives : (inode : ℕ) (wish : Wish) (at : Key) → LeadsTo r at inode → over.root ≡ at.0 → Gives Kept (open_existing r over inode wish)
      existing-gives inode wish at leads root_is =
          gives_on _ (found (row_at r.inodes.attributes inode) ENOENT) _ (λ attribute there.
          gives_on _ (need (not (has wish.flags CREAT && has wish.flags EXCL)) EEXIST) _ (λ shared is_shared.
          gives_on _ (need (not (is_directory attribute.kind && writes wish.flags)) EISDIR) _ (λ fitting is_fitting.
          gives_on _ (need (allows attribute r.user wish.flags) EACCES) _ (λ allowed is_allowed.
          opened-gives (emptied wish.flags inode wish.moment r) [] (emptied-keeps K keeps r nothing h wish.flags inode wish.moment) tt wish.flags inode
          (emptied-there r wish.flags inode wish.moment (some-is _ attribute (found-row _ _ attribute there))) at (emptied-leads r wish.flags inode wish.moment at leads) root_is))))

      module _ (own : Kind) (mine : own_kind context.target.manager ≡ own) where
        missing-gives : (at : Spot) → IsSpot r over.root at → at.inode ≡ None → (wish : Wish) → Gives Kept (open_missing own r over at wish)
        missing-gives at is_spot missing wish =
            gives_on _ (need (has wish.flags CREAT) ENOENT) _ (λ making is_making.
            gives_by (λ attribute. row_at r.inodes.attributes at.parent ≡ Some attribute) _ (writable r.inodes r.user at.parent) _ (writable-gives K keeps r h over.root at.parent) (λ parent there.
            gives_on _ (block_number r.inodes) _ (λ free is_free.
            gives_by (IsMade K keeps r h over.root own at.key) _ (made_at r at parent own wish.mode wish.moment) _ (made-gives K keeps r h over.root at is_spot missing parent there own wish.mode wish.moment) (λ made is.
            opened-gives made.after (Comes made.inode is.directory is.name own is.mode is.moment ∷ []) is.kept ((opens.root ∙ ap Some is.root_is, ap (λ kind. is_own kind own) mine ∙ own-is own), tt) wish.flags made.inode is.there
            at.key (inl is.leads) (is_spot.root_is ∙ ap (λ (key : Key). key.0) (sym is_spot.key_is))))))

        open_at-gives : (at : Spot) (there : Option ℕ) → IsSpot r over.root at → at.inode ≡ there → (wish : Wish) → Gives Kept (open_spot own r over at there wish)
        open_at-gives at (Some inode) is_spot is wish = existing-gives inode wish at.key (inl (sym is_spot.inode_is ∙ is)) (is_spot.root_is ∙ ap (λ (key : Key). key.0) (sym is_spot.key_is))
        open_at-gives at None is_spot is wish = missing-gives at is_spot is wish

        open-gives : (rest : List (List ℕ)) (wish : Wish) → AreComponents rest → Gives Kept (open_path own r over rest wish)
        open-gives [] wish components = existing-gives over.root wish (root_key over.root) (inr refl) refl
        open-gives (name ∷ rest) wish components =
            gives_by (IsSpot r over.root) _ (spot r.inodes r.names r.user over.root (name ∷ rest) ENOENT) _ (spot-gives r r.user over.root (name ∷ rest) ENOENT components) (λ at is_spot. open_at-gives at at.inode is_spot refl wish)

  module _ (h : Q r) where
    -- ---- what comes

    directory-gives : (root mode : ℕ) (rest : List (List ℕ)) (moment : ℕ) → context.target.root ≡ Some root → AreComponents rest → Gives Kept (make_directory r root mode rest moment)
    directory-gives root mode rest moment at_root components =
        gives_by (IsSpot r root) _ (spot r.inodes r.names r.user root rest EEXIST) _ (spot-gives r r.user root rest EEXIST components) (λ at is_spot.
        gives_on _ (need (not (is_some at.inode)) EEXIST) _ (λ missing is_missing.
        gives_by (λ attribute. row_at r.inodes.attributes at.parent ≡ Some attribute) _ (writable r.inodes r.user at.parent) _ (writable-gives K keeps r h root at.parent) (λ parent there.
        gives_by (IsMade K keeps r h root Directory at.key) _ (made_at r at parent Directory mode moment) _ (made-gives K keeps r h root at is_spot (is-none at.inode (need-true _ _ missing is_missing)) parent there Directory mode moment) (λ made is.
        gives_done _ _ (record {
          came = [];
          seen = Comes made.inode is.directory is.name Directory is.mode is.moment ∷ [];
          kept = is.kept;
          own = refl;
          effect = ((at_root ∙ ap Some is.root_is, refl), tt);
        })))))

    -- ---- what goes

    module _ (own : Kind) where
      module _ (root : ℕ) (at : Spot) (is_spot : IsSpot r root at) (inode : ℕ) (leads : at.inode ≡ Some inode) (parent : Attribute) (above_there : row_at r.inodes.attributes at.parent ≡ Some parent) (empty : names_in r.names inode ≡ [])
          (attribute : Attribute) (there : row_at r.inodes.attributes inode ≡ Some attribute) (owned : is_own own attribute.kind ≡ true) (moment : ℕ) where
        abbrev touched_parent : Resources
        touched_parent = record r { inodes = with_attribute r.inodes at.parent (written_to moment parent) }

        -- its attribute once its directory's has changed, which may be its own
        abbrev IsLike : Attribute → Type 0
        IsLike now = (row_at touched_parent.inodes.attributes inode ≡ Some now) × (without_link attribute.mtime moment now ≡ unnamed moment attribute) × (now.kind ≡ attribute.kind)

        its_attribute : (now : Attribute) × IsLike now
        its_attribute = elim (cases_eq inode at.parent) [
          | inl same ↦
              let alike : parent ≡ attribute = same_Some _ _ (sym above_there ∙ (ap (row_at r.inodes.attributes) (sym same) ∙ there)) in (
                written_to moment parent,
                (
                  ap (row_at touched_parent.inodes.attributes) same ∙ set_at r.inodes.attributes at.parent (written_to moment parent) (within_table r.inodes.attributes at.parent parent above_there),
                  ap (λ (a : Attribute). without_link attribute.mtime moment (written_to moment a)) alike,
                  ap (λ (a : Attribute). a.kind) alike,
                ),
              )
          | inr apart ↦ (attribute, (row_at-set_other r.inodes.attributes at.parent inode (Some (written_to moment parent)) apart ∙ there, refl, refl))
        ]

        unnamed-keeps : Q (without_unused own inode (without_name at parent inode attribute moment r))
        unnamed-keeps =
            let now = its_attribute.0 in
            let is = its_attribute.1 in
            subst (λ key. Q (without_unused own inode (record touched_parent { inodes = with_attribute touched_parent.inodes inode (unnamed moment attribute); names = remove r.names key }))) (sym is_spot.key_is)
            (subst (λ attributes. Q (without_unused own inode (record touched_parent { inodes = record touched_parent.inodes { attributes = attributes }; names = remove r.names (under is_spot.above is_spot.name) })))
            (with_row-some touched_parent.inodes.attributes inode (without_link attribute.mtime moment) now is.0 ∙ ap (λ a. slice_set touched_parent.inodes.attributes inode (Some a)) is.1)
            (keeps (Unlinks own is_spot.above is_spot.name inode attribute.mtime moment) touched_parent nothing
            (ap (get r.names) (sym is_spot.key_is) ∙ (sym is_spot.inode_is ∙ leads), empty, record { attribute = now; there = is.0; owned = ap (is_own own) is.2 ∙ owned })
            (touch-keeps K keeps r nothing h at.parent parent (written_to moment parent) above_there refl)))

      unlink-gives : (root : ℕ) (rest : List (List ℕ)) (moment : ℕ) → AreComponents rest → Gives Kept (unlink_path own r root rest moment)
      unlink-gives root rest moment components =
          gives_by (IsSpot r root) _ (spot r.inodes r.names r.user root rest EBUSY) _ (spot-gives r r.user root rest EBUSY components) (λ at is_spot.
          gives_on _ (found at.inode ENOENT) _ (λ inode leads.
          gives_by (λ attribute. row_at r.inodes.attributes at.parent ≡ Some attribute) _ (writable r.inodes r.user at.parent) _ (writable-gives K keeps r h root at.parent) (λ parent above_there.
          gives_on _ (need (is_empty (names_in r.names inode)) ENOTEMPTY) _ (λ empty is_one.
          gives_on _ (found (row_at r.inodes.attributes inode) ENOENT) _ (λ attribute there.
          gives_on _ (need (is_own own attribute.kind) ENOENT) _ (λ mine is_mine.
          gives_done _ _ (alone _ _ _ (unnamed-keeps root at is_spot inode (found-row _ _ inode leads) parent above_there (none_in _ (need-true _ _ empty is_one)) attribute (found-row _ _ attribute there) (need-true _ _ mine is_mine) moment))))))))

      -- a name goes to another place
      module _ (root : ℕ) (from to : Spot) (is_from : IsSpot r root from) (is_to : IsSpot r root to) (parent other : Attribute) (from_there : row_at r.inodes.attributes from.parent ≡ Some parent) (to_there : row_at r.inodes.attributes to.parent ≡ Some other) (moment : ℕ) where
        abbrev first_changed : Resources
        first_changed = record r { inodes = with_attribute r.inodes from.parent (written_to moment parent) }

        abbrev both : Resources
        both = with_both_changed from parent to other moment r

        -- the other directory's attribute once the first one has changed, which may be its own
        its_other : (now : Attribute) × ((row_at first_changed.inodes.attributes to.parent ≡ Some now) × ((written_to moment other ≡ touched other.mode moment moment now) × (now.kind ≡ other.kind)))
        its_other = elim (cases_eq to.parent from.parent) [
          | inl same ↦
              let alike : parent ≡ other = same_Some _ _ (sym from_there ∙ (ap (row_at r.inodes.attributes) (sym same) ∙ to_there)) in (
                written_to moment parent,
                (
                  ap (row_at first_changed.inodes.attributes) same ∙ set_at r.inodes.attributes from.parent (written_to moment parent) (within_table r.inodes.attributes from.parent parent from_there),
                  (ap (λ (a : Attribute). touched other.mode moment moment (written_to moment a)) (sym alike), ap (λ (a : Attribute). a.kind) alike),
                ),
              )
          | inr apart ↦ (other, (row_at-set_other r.inodes.attributes from.parent to.parent (Some (written_to moment parent)) apart ∙ to_there, (refl, refl)))
        ]

        both-keeps : Q both
        both-keeps = touch-keeps K keeps first_changed nothing (touch-keeps K keeps r nothing h from.parent parent (written_to moment parent) from_there refl) to.parent its_other.0 (written_to moment other) its_other.1.0 its_other.1.1.0

        both-directory : IsDirectoryAt both is_to.above
        both-directory =
            set-directory first_changed to.parent its_other.0 (written_to moment other) its_other.1.0 (sym its_other.1.1.1) is_to.above
            (set-directory r from.parent parent (written_to moment parent) from_there refl is_to.above is_to.directory)

        -- the new name is free, in its directory
        abbrev IsFree : Resources → Type 0
        IsFree s = Q s × ((get s.names to.key ≡ None) × IsDirectoryAt s is_to.above)

        cleared-keeps : (there : ℕ) (target : Attribute) → to.inode ≡ Some there → row_at both.inodes.attributes there ≡ Some target → names_in r.names there ≡ [] → is_own own target.kind ≡ true → Q (without_unused own there (record both { inodes = with_attribute both.inodes there (unnamed moment target); names = remove r.names to.key }))
        cleared-keeps there target leads its empty owned =
            subst (λ key. Q (without_unused own there (record both { inodes = with_attribute both.inodes there (unnamed moment target); names = remove r.names key }))) (sym is_to.key_is)
            (subst (λ attributes. Q (without_unused own there (record both { inodes = record both.inodes { attributes = attributes }; names = remove r.names (under is_to.above is_to.name) })))
            (with_row-some both.inodes.attributes there (without_link target.mtime moment) target its)
            (keeps (Unlinks own is_to.above is_to.name there target.mtime moment) both nothing
            (ap (get r.names) (sym is_to.key_is) ∙ (sym is_to.inode_is ∙ leads), empty, record { attribute = target; there = its; owned = owned })
            both-keeps))

        cleared-free : (there : ℕ) (target : Attribute) → to.inode ≡ Some there → row_at both.inodes.attributes there ≡ Some target → names_in r.names there ≡ [] → is_own own target.kind ≡ true
            → IsFree (without_unused own there (record both { inodes = with_attribute both.inodes there (unnamed moment target); names = remove r.names to.key }))
        cleared-free there target leads its empty owned = (cleared-keeps there target leads its empty owned, (free, directory))
          where
            s : Resources
            s = record both { inodes = with_attribute both.inodes there (unnamed moment target); names = remove r.names to.key }

            free : get (without_unused own there (record both { inodes = with_attribute both.inodes there (unnamed moment target); names = remove r.names to.key })).names to.key ≡ None
            free = ap (λ (n : Names). get n to.key) (unused_names_same own there (record both { inodes = with_attribute both.inodes there (unnamed moment target); names = remove r.names to.key })) ∙ remove-at r.names to.key

            leads_there : get r.names (under is_to.above is_to.name) ≡ Some there
            leads_there = ap (get r.names) (sym is_to.key_is) ∙ (sym is_to.inode_is ∙ leads)

            -- what goes is not the directory that has the name
            apart : both-directory.inode ≢ there
            apart same = nothing_behind r.names there is_to.above (both-directory.leads ∙ ap Some same) is_to.name empty there leads_there

            directory : IsDirectoryAt (without_unused own there (record both { inodes = with_attribute both.inodes there (unnamed moment target); names = remove r.names to.key })) is_to.above
            directory = unused_directory_other own there (record both { inodes = with_attribute both.inodes there (unnamed moment target); names = remove r.names to.key }) is_to.above (record {
              inode = both-directory.inode;
              attribute = both-directory.attribute;
              leads = remove-other r.names to.key is_to.above both-directory.inode both-directory.leads (λ same. own_name is_to.above is_to.name (same ∙ is_to.key_is));
              there = row_at-set_other both.inodes.attributes there both-directory.inode (Some (unnamed moment target)) apart ∙ both-directory.there;
              directory = both-directory.directory;
            }) apart

        cleared-gives : (attribute : Attribute) (x : Option ℕ) → to.inode ≡ x → Gives IsFree (cleared own attribute to x moment both)
        cleared-gives _ None none = gives_done _ _ (both-keeps, (sym is_to.inode_is ∙ none, both-directory))
        cleared-gives attribute (Some there) leads =
            gives_on _ (found (row_at both.inodes.attributes there) ENOENT) _ (λ target its.
            gives_on _ (need (is_directory target.kind || not (is_directory attribute.kind)) ENOTDIR) _ (λ onto is_onto.
            gives_on _ (need (is_directory attribute.kind || not (is_directory target.kind)) EISDIR) _ (λ no_directory is_none.
            gives_on _ (need (is_empty (names_in r.names there)) ENOTEMPTY) _ (λ empty is_one.
            gives_on _ (need (is_own own target.kind) ENOENT) _ (λ mine is_mine.
            gives_done _ _ (cleared-free there target leads (found-row _ _ target its) (none_in _ (need-true _ _ empty is_one)) (need-true _ _ mine is_mine)))))))

        renamed-keeps : (s : Resources) → IsFree s → is_below from.key to.key.0 to.key.1 ≡ false → Q (record s { names = moved_all s.names from.key to.key })
        renamed-keeps s is outside =
            subst (λ key. Q (record s { names = moved_all s.names key to.key })) (sym is_from.key_is)
            (subst (λ key. Q (record s { names = moved_all s.names (under is_from.above is_from.name) key })) (sym is_to.key_is)
            (keeps (Renames is_from.above is_from.name is_to.above is_to.name) s nothing (
              is.1.1,
              ap (get s.names) (sym is_to.key_is) ∙ is.1.0,
              is_to.component,
              ap (λ key. is_below key is_to.above.0 (is_to.name ∷ is_to.above.1)) (sym is_from.key_is) ∙ ap (λ (key : Key). is_below from.key key.0 key.1) (sym is_to.key_is) ∙ outside,
              sym is_from.root_is ∙ is_to.root_is,
            ) is.0))

      rename-gives : (root : ℕ) (old new : List (List ℕ)) (moment : ℕ) → AreComponents old → AreComponents new → Gives Kept (rename_path own r root old new moment)
      rename-gives root old new moment components others =
          gives_on _ (need (not (length old == 0) && not (length new == 0)) EBUSY) _ (λ named is_named.
          gives_by (IsSpot r root) _ (spot r.inodes r.names r.user root old EBUSY) _ (spot-gives r r.user root old EBUSY components) (λ from is_from.
          gives_on _ (found from.inode ENOENT) _ (λ inode leads.
          gives_by (IsSpot r root) _ (spot r.inodes r.names r.user root new EBUSY) _ (spot-gives r r.user root new EBUSY others) (λ to is_to.
          gives_by (λ attribute. row_at r.inodes.attributes from.parent ≡ Some attribute) _ (writable r.inodes r.user from.parent) _ (writable-gives K keeps r h root from.parent) (λ parent from_there.
          gives_by (λ attribute. row_at r.inodes.attributes to.parent ≡ Some attribute) _ (writable r.inodes r.user to.parent) _ (writable-gives K keeps r h root to.parent) (λ other to_there.
          cond_both (is_same_key from.key to.key) (Ok (reply_alone 0 [] Keeps r)) (rename_to own r from inode parent to other moment) (Gives Kept)
          (λ same. gives_done _ _ (alone _ _ _ h))
          (λ apart.
          gives_on _ (found (row_at r.inodes.attributes inode) ENOENT) _ (λ attribute there.
          gives_on _ (need (not (is_below from.key to.key.0 to.key.1)) EINVAL) _ (λ outside is_outside.
          gives_by (IsFree root from to is_from is_to parent other from_there to_there moment) _ (cleared own attribute to to.inode moment (with_both_changed from parent to other moment r)) _ (cleared-gives root from to is_from is_to parent other from_there to_there moment attribute to.inode refl) (λ s is.
          gives_done _ _ (alone _ _ _ (renamed-keeps root from to is_from is_to parent other from_there to_there moment s is (not_true _ (need-true _ _ outside is_outside))))))))))))))

    -- ---- what is done to a pipe

    -- a call over the open control block of a pipe
    own_over : (number : ℕ) (block : Ocb) (call : WaitingCall) → row_at r.inodes.blocks number ≡ Some block → call.block ≡ number → count_by (is_astray r.inodes.blocks block.inode) (call ∷ []) ≡ 0
    own_over number block call there is =
        let is_its : is_open (λ flags. true) block.inode (row_at r.inodes.blocks call.block) ≡ true = ap (λ n. is_open (λ flags. true) block.inode (row_at r.inodes.blocks n)) is ∙ (ap (is_open (λ flags. true) block.inode) there ∙ ap (λ b. b && true) (eq-eqb block.inode block.inode refl)) in
        no_one (not (is_open (λ flags. true) block.inode (row_at r.inodes.blocks call.block))) (ap not is_its)

    -- nobody waits in a pipe, or in a device, before or after a call that is replied to at once: its bytes change, and the times of its inode
    idle-keeps : (inode moment : ℕ) (pipe : Pipe WaitingCall) (came : List WaitingCall) (after : PipeAfter WaitingCall) → row_at r.pipes inode ≡ Some pipe → IsIdle pipe → IsIdle after.pipe → LeavesWell pipe came after → Q (deed_of_pipe r inode moment after).state
    idle-keeps inode moment pipe came after here before left well = by (row_at r.inodes.attributes inode) refl
      where
        attributes : List (Option Attribute)
        attributes = r.inodes.attributes

        quiet : PipeAfter WaitingCall
        quiet = nobody_answered after.pipe

        kept : Q (deed_of_pipe r inode moment quiet).state
        kept = keeps (Fills inode moment quiet []) r nothing (done-well r inode pipe [] quiet here refl (idle_well pipe came after before left well)) h

        with_rows : List (Option Attribute) → Resources
        with_rows rows = record r { inodes = record r.inodes { attributes = rows }; pipes = slice_set r.pipes inode (Some after.pipe) }

        by : (row : Option Attribute) → row_at attributes inode ≡ row → Q (with_rows (with_row attributes inode (filled moment after)))
        by None none = subst (λ rows. Q (with_rows rows)) (ap (λ row. slice_set attributes inode (option_map (filled moment quiet) row)) none ∙ sym (ap (λ row. slice_set attributes inode (option_map (filled moment after) row)) none)) kept
        by (Some attribute) there =
            let was : Attribute = filled moment quiet attribute in
            let now : Attribute = filled moment after attribute in
            subst (λ rows. Q (with_rows rows)) (set-set attributes inode (option_map (filled moment quiet) (row_at attributes inode)) (Some now) ∙ sym (with_row-some attributes inode (filled moment after) attribute there))
            (touch-keeps K keeps (deed_of_pipe r inode moment quiet).state nothing kept inode was now (with_row-at attributes inode (filled moment quiet) ∙ ap (option_map (filled moment quiet)) there) (filled-alike moment after attribute))

    -- a call comes to a pipe, or to a device, and leaves it as each call may
    came-keeps : (over : Opened) (count : ℕ) (bytes : List ℕ) → context.opened ≡ Ok over → (block : Ocb) → row_at r.inodes.blocks over.number ≡ Some block → (pipe : Pipe WaitingCall) → row_at r.pipes block.inode ≡ Some pipe → (after : PipeAfter WaitingCall)
        → LeavesWell pipe (waiting_call over count bytes ∷ []) after → (IsIdle pipe → RepliesIdle after) → Kept (deed_of_call r block.inode over.moment pipe after)
    came-keeps over count bytes was block opened pipe here after well replies =
        let call = waiting_call over count bytes in
        call-by Kept r block.inode over.moment pipe after (record {
          came = call ∷ [];
          seen = [];
          kept = keeps (Fills block.inode over.moment after (call ∷ [])) r nothing (done-well r block.inode pipe (call ∷ []) after here (own_over over.number block call opened refl) well) h;
          own = record { call = call; alone = refl; here = refl; opened = over; was = was; process = refl; thread = refl; over = refl };
          effect = refl;
        })
        (λ nobody status given is. alone status given _ (idle-keeps block.inode over.moment pipe (call ∷ []) after here nobody (replies nobody status given is) well))

    read-gives : (over : Opened) (count : ℕ) → context.opened ≡ Ok over → Gives Kept (read_pipe r over count)
    read-gives over count was =
        gives_on _ (found (row_at r.inodes.blocks over.number) EBADF) _ (λ block opened.
        gives_on _ (need (reads block.flags) EBADF) _ (λ may allowed.
        gives_on _ (found (row_at r.pipes block.inode) EISDIR) _ (λ pipe here.
        gives_done _ _ (came-keeps over count [] was block (found-row _ _ block opened) pipe (found-row _ _ pipe here) _ (read_well pipe (manner_of (writers_of r.inodes block.inode) block over.is_asked) (waiting_call over count [])) (read-idle wanted offered is_gone _ _ pipe)))))

    write-gives : (over : Opened) (bytes : List ℕ) → context.opened ≡ Ok over → Gives Kept (write_pipe r over bytes)
    write-gives over bytes was =
        gives_on _ (found (row_at r.inodes.blocks over.number) EBADF) _ (λ block opened.
        gives_on _ (need (writes block.flags) EBADF) _ (λ may allowed.
        gives_on _ (found (row_at r.pipes block.inode) EBADF) _ (λ pipe here.
        gives_done _ _ (came-keeps over 0 bytes was block (found-row _ _ block opened) pipe (found-row _ _ pipe here) _ (write_well pipe (manner_of (readers_of r.inodes block.inode) block over.is_asked) (waiting_call over 0 bytes)) (write-idle wanted offered is_gone _ _ pipe)))))

    -- ---- a close

    -- a close takes one use away, or the last one with the block
    close_dup-gives : (own : Kind) (over : Opened) → context.opened ≡ Ok over → Gives Kept (close_dup own r over)
    close_dup-gives own over was =
        cond_both (is_shared (row_at r.inodes.blocks over.number)) _ _ (Gives Kept)
        (λ shared. let block = shared-block (row_at r.inodes.blocks over.number) shared in
        gives_done _ _ (record {
          came = [];
          seen = Moves over.number OneLess ∷ [];
          kept = keeps (Moves over.number OneLess) r nothing (λ block there. less-moved block (sym (ap is_shared there) ∙ shared)) h;
          own = refl;
          effect = record { opened = over; was = was; coid_is = refl; block = block.0; there = block.1; how = inl refl };
        }))
        (λ last.
        gives_by (Closed K keeps [] [] r own over.number WithLast) _ (close_ocb own r over.number over.moment) _
        (close_ocb-gives K keeps [] [] r h own over.number over.moment WithLast (λ block there. last-use block (sym (ap is_shared there) ∙ last))) (λ deed closed.
        gives_done _ _ (record {
          came = [];
          seen = Closes own over.number closed.block WithLast ∷ [];
          kept = closed.kept;
          own = refl;
          effect = record { opened = over; was = was; coid_is = refl; block = closed.block; there = closed.there; how = inr (own, last-use closed.block (sym (ap is_shared closed.there) ∙ last), refl) };
        })))

    -- a dup adds one
    dup-gives : (dup : NewDup) → new_dup context ≡ Ok dup → Gives Kept (dup_open r dup)
    dup-gives dup is_new =
        let over = new_dup-is context dup is_new in
        gives_by (λ (inodes : Inodes). K (record r { inodes = inodes }) (seeing (Moves dup.old.number OneMore ∷ []))) _ (dup_block r.inodes dup.old.number) _
        (gives_on _ (found (row_at r.inodes.blocks dup.old.number) EBADF) _ (λ block opened.
        gives_on _ (need (nat_lt block.uses LAST_CONNECTION) EMFILE) _ (λ few is_few.
        gives_done _ _ (keeps (Moves dup.old.number OneMore) r nothing (λ other there. more-moved other (ap (λ (b : Ocb). nat_lt b.uses LAST_CONNECTION) (same_Some _ _ (sym there ∙ found-row _ _ block opened)) ∙ need-true _ _ few is_few)) h))))
        (λ inodes kept. gives_done _ _ (record {
          came = [];
          seen = Moves dup.old.number OneMore ∷ [];
          kept = kept;
          own = refl;
          effect = inr (record { over = over.0; opened = dup.old; was = over.1; number_is = refl; alone = refl });
        }))

    -- ---- what tells, and what moves

    stat_path-gives : (root : ℕ) (rest : List (List ℕ)) (moment : ℕ) → Gives Kept (stat_path r root rest moment)
    stat_path-gives root rest moment = search (gives_on, gives_done, alone, h)

    stat_block-gives : (over : Opened) → Gives Kept (stat_block r over)
    stat_block-gives over = search (gives_on, gives_done, alone, h)

    list-gives : (over : Opened) (after : List ℕ) → Gives Kept (list_block r over after)
    list-gives over after = search (gives_on, gives_done, alone, h)

    chmod-gives : (over : Opened) (mode : ℕ) → Gives Kept (chmod_block r over mode)
    chmod-gives over mode =
        gives_on _ (found (row_at r.inodes.blocks over.number) EBADF) _ (λ block opened.
        gives_on _ (need (not (block.inode == top_inode)) EPERM) _ (λ other is_other.
        gives_on _ (found (row_at r.inodes.attributes block.inode) EBADF) _ (λ attribute there.
        gives_done _ _ (alone _ _ _ (touch-keeps K keeps r nothing h block.inode attribute (record attribute { mode = mode; ctime = over.moment }) (found-row _ _ attribute there) refl)))))

    seek_pipe-gives : (over : Opened) (whence : Whence) (by : ℤ) → Gives Kept (seek_pipe r over whence by)
    seek_pipe-gives over whence by = search (gives_on, gives_error)

    moved-keeps : (number offset : ℕ) → Q (record r { inodes = with_offset r.inodes number offset })
    moved-keeps number offset = keeps (Moves number (ToOffset offset)) r nothing (λ block there. offset-moved block offset) h

    read_file-gives : (over : Opened) (count : ℕ) → Gives Kept (read_file r over count)
    read_file-gives over count = search (gives_on, gives_done, alone, moved-keeps) depth 8

    seek_file-gives : (over : Opened) (whence : Whence) (by : ℤ) → Gives Kept (seek_file r over whence by)
    seek_file-gives over whence by = search (gives_on, gives_done, alone, moved-keeps) depth 8

    written-gives : (number inode : ℕ) (bytes : List ℕ) (offset : ℕ) (new : List ℕ) (moment : ℕ) → row_at r.files inode ≡ Some bytes → Gives Kept (written_at r number inode bytes offset new moment)
    written-gives number inode bytes offset new moment here =
        gives_on _ (need (nat_le (offset + length new) r.limits.file) EFBIG) _ (λ short is_short.
        gives_on _ (need (nat_le (total_size (slice_set r.files inode (Some (put bytes offset new)))) r.limits.bytes) ENOSPC) _ (λ few is_few.
        gives_done _ _ (alone _ _ _ (keeps (Moves number (ToOffset (offset + length new))) (with_bytes inode moment (put bytes offset new) r) nothing (λ block there. offset-moved block (offset + length new)) (keeps (Writes inode moment (put bytes offset new)) r nothing (record { was = bytes; there = here; file = put_short bytes new offset r.limits.file (leb-true _ _ (need-true _ _ short is_short)); files = inr (leb-true _ _ (need-true _ _ few is_few)) }) h)))))

    write_file-gives : (over : Opened) (new : List ℕ) → Gives Kept (write_file r over new)
    write_file-gives over new =
        gives_on _ (found (row_at r.inodes.blocks over.number) EBADF) _ (λ block opened.
        gives_on _ (need (writes block.flags) EBADF) _ (λ may allowed.
        gives_on _ (found (row_at r.files block.inode) EBADF) _ (λ bytes here.
        cond_both (length new == 0) _ _ (Gives Kept) (λ none. gives_done _ _ (alone _ _ _ h)) (λ some. written-gives over.number block.inode bytes _ new over.moment (found-row _ _ bytes here)))))

    -- ---- a notification

    notify-gives : (over : Opened) (action : NotifyAction) (wish : PulseWish) → Gives Kept (notify_block r over action wish)
    notify-gives over action wish =
        gives_on _ (found (row_at r.inodes.blocks over.number) EBADF) _ (λ block opened.
        gives_by (λ (given : Notified). AreKept r.limits.events r.events given.events) _ (notified r.limits.events action (event_of over wish) (conditions_at r (Some block)) r.events) _ (notified-kept r.limits.events action (event_of over wish) (conditions_at r (Some block)) r.events) (λ given is.
        gives_done _ _ (alone _ _ _ (keeps (Notifies given.events) r nothing is h))))

    -- ---- the managers

    ram-gives : own_kind context.target.manager ≡ File → (message : Message) → NamesComponents message → Gives Kept (manager_deed managers.Ram r context message)
    ram-gives mine (msg.Open flags mode rest) names = gives_on _ (new_open context) _ (λ over is. open-gives over is h File mine rest _ names)
    ram-gives mine (msg.Stat rest) names = gives_on _ (side_root context.target) _ (λ root is. stat_path-gives root rest context.moment)
    ram-gives mine (msg.Unlink rest) names = gives_on _ (side_root context.target) _ (λ root is. unlink-gives File root rest context.moment names)
    ram-gives mine (msg.Mknod mode rest) names = gives_on _ (side_root context.target) _ (λ root is. directory-gives root mode rest context.moment (side_root-is context.target root is) names)
    ram-gives mine (msg.Rename rests) names = gives_on _ (side_root context.target) _ (λ root is. rename-gives File root rests.0 rests.1 context.moment names.0 names.1)
    ram-gives mine (msg.Read count) names = gives_on _ context.opened _ (λ over is. read_file-gives over count)
    ram-gives mine (msg.Write bytes) names = gives_on _ context.opened _ (λ over is. write_file-gives over bytes)
    ram-gives mine msg.Close names = gives_on _ context.opened _ (λ over is. close_dup-gives File over is)
    ram-gives mine (msg.Dup old) names = gives_on _ (new_dup context) _ (λ dup is. dup-gives dup is)
    ram-gives mine (msg.Lseek whence offset) names = gives_on _ context.opened _ (λ over is. seek_file-gives over whence offset)
    ram-gives mine msg.Fstat names = gives_on _ context.opened _ (λ over is. stat_block-gives over)
    ram-gives mine (msg.List after) names = gives_on _ context.opened _ (λ over is. list-gives over after)
    ram-gives mine (msg.Notify action conditions code value) names = gives_on _ context.opened _ (λ over is. notify-gives over action _)
    ram-gives mine (msg.Chmod mode) names = gives_on _ context.opened _ (λ over is. chmod-gives over mode)

    pipe-gives : (own : Kind) → own_kind context.target.manager ≡ own → (message : Message) → NamesComponents message → Gives Kept (message_deed (pipe_connect own) (pipe_io own) r context message)
    pipe-gives own mine (msg.Open flags mode rest) names = gives_on _ (new_open context) _ (λ over is. open-gives over is h own mine rest _ names)
    pipe-gives own mine (msg.Stat rest) names = gives_on _ (side_root context.target) _ (λ root is. stat_path-gives root rest context.moment)
    pipe-gives own mine (msg.Unlink rest) names = gives_on _ (side_root context.target) _ (λ root is. unlink-gives own root rest context.moment names)
    pipe-gives own mine (msg.Mknod mode rest) names = gives_error _ _
    pipe-gives own mine (msg.Rename rests) names = gives_error _ _
    pipe-gives own mine (msg.Read count) names = gives_on _ context.opened _ (λ over is. read-gives over count is)
    pipe-gives own mine (msg.Write bytes) names = gives_on _ context.opened _ (λ over is. write-gives over bytes is)
    pipe-gives own mine msg.Close names = gives_on _ context.opened _ (λ over is. close_dup-gives own over is)
    pipe-gives own mine (msg.Dup old) names = gives_on _ (new_dup context) _ (λ dup is. dup-gives dup is)
    pipe-gives own mine (msg.Lseek whence offset) names = gives_on _ context.opened _ (λ over is. seek_pipe-gives over whence offset)
    pipe-gives own mine msg.Fstat names = gives_on _ context.opened _ (λ over is. stat_block-gives over)
    pipe-gives own mine (msg.List after) names = gives_on _ context.opened _ (λ over is. list-gives over after)
    pipe-gives own mine (msg.Notify action conditions code value) names = gives_on _ context.opened _ (λ over is. notify-gives over action _)
    pipe-gives own mine (msg.Chmod mode) names = gives_on _ context.opened _ (λ over is. chmod-gives over mode)

    pub manager-gives : (manager : Manager) → context.target.manager ≡ manager → (message : Message) → NamesComponents message → Gives Kept (manager_deed manager r context message)
    manager-gives managers.Ram here message names = ram-gives (ap own_kind here) message names
    manager-gives managers.Pipe here message names = pipe-gives kind.Pipe (ap own_kind here) message names
    manager-gives (managers.Device device) here message names = pipe-gives (kind.Device device) (ap own_kind here) message names
