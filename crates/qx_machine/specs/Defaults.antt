-- What any manager does by default to what a path leads to, and to what is open (C Library Reference: open, mkdir, unlink, stat, fstat,
-- readdir, chmod, close; Writing a Resource Manager: the iofunc layer). That a name is taken from an empty directory by unlink, and how a
-- listing is cut, is this profile.
use Rattle.std.specs.Prelude.{ℕ, ◌&&◌, ◌||◌, ◌==◌, not, Bool, List, [], Option, Some, None, Result, Ok, is_some, length, if◌then◌else◌}
use Rattle.std.specs.FinMap.{insert, remove}
use Rattle.qx_base.specs.declared.errno.Errno.{Errno}
use Rattle.qx_base.specs.declared.errno.Errno.TheVariants.{EACCES, EBADF, EBUSY, EEXIST, EISDIR, ENOENT, ENOTDIR, ENOTEMPTY, EPERM, EINVAL}
use Rattle.qx_types.specs.declared.flags.OFlags.{OFlags}
use Rattle.qx_types.specs.declared.flags.TheConstants.OFlags.{CREAT, EXCL}
use Rattle.qx_machine.specs.declared.rows.Access.TheVariants.{Read, Write}
use Rattle.qx_machine.specs.declared.rows.Attribute.{Attribute}
use Rattle.qx_machine.specs.declared.rows.Effect.TheVariants.{Closes, Keeps, Opens}
use Rattle.qx_machine.specs.declared.rows.Kind.{Kind}
use Rattle.qx_machine.specs.declared.rows.Kind.TheVariants.{Device, Directory, Pipe}
use Rattle.qx_machine.specs.declared.rows.NewDup.{NewDup}
use Rattle.qx_machine.specs.declared.rows.NewOpen.{NewOpen}
use Rattle.qx_machine.specs.declared.rows.Ocb.{Ocb}
use Rattle.qx_machine.specs.declared.rows.Opened.{Opened}
use Rattle.qx_machine.specs.declared.rows.Wish.{Wish}
use Rattle.qx_machine.specs.declared.rows.WaitingCall.{WaitingCall}
use Rattle.qx_machine.specs.Attributes.{stat_bytes, top_inode}
use Rattle.qx_machine.specs.Events.{disarmed}
use Rattle.qx_machine.specs.Functions.{Deed, reply_alone}
use Rattle.qx_machine.specs.Inodes.{Inodes, block_number, close_block, dup_block, free_inode, has, is_shared, is_unused, may, new_attribute, new_inode, open_block, reads, with_attribute, without_use, writes}
use Rattle.qx_isolation.specs.Judgements.{◌>>=◌, found, need}
use Rattle.qx_machine.specs.Names.{Spot, inode_at, is_directory, is_empty, is_same_kind, listed, listing, names_in, spot, is_below, is_same_key, moved}
use Rattle.qx_machine.specs.PipeManager.{released}
use Rattle.qx_machine.specs.Pipes as pipes
use Rattle.qx_machine.specs.RamManager.{emptied}
use Rattle.qx_machine.specs.Resources.{Resources, with_empty, without_content}
use Rattle.qx_isolation.specs.Rows.{row_at}

-- ---- entries of a directory

-- a directory's attribute once an entry was made or removed
abbrev pub with_entries_changed : ℕ → Attribute → Attribute
with_entries_changed moment attribute = record attribute { mtime = moment; ctime = moment }

-- a name may be made in a directory or removed from it, whose attribute this is (C Library Reference: EACCES)
abbrev pub writable : Inodes → ℕ → ℕ → Result Attribute Errno
writable inodes user directory = do
  attribute ← found (row_at inodes.attributes directory) ENOENT
  allowed ← need (may attribute user Write) EACCES
  Ok attribute

-- an inode that was made, and what there is then
pub record MadeInode : Type 0 where
  pub inode : ℕ
  pub after : Resources

-- an inode of this kind and mode is made with nothing in it, and with a name in a directory, whose attribute was this
abbrev pub made_at : Resources → Spot → Attribute → Kind → ℕ → ℕ → Result MadeInode Errno
made_at r at parent kind mode moment = do
  made ← new_inode r.inodes (new_attribute kind mode r.user moment)
  Ok (record {
    inode = made.number;
    after = with_empty kind made.number (record r {
      inodes = with_attribute made.inodes at.parent (with_entries_changed moment parent);
      names = insert r.names at.key made.number;
    });
  })

-- ---- open

-- a client's connection gets an open control block of an inode, and the status is the connection (C Library Reference: open)
abbrev pub opened : NewOpen → OFlags → ℕ → Resources → Result (Deed Resources) Errno
opened over flags inode r = do
  block ← open_block r.inodes inode flags over.client
  Ok (reply_alone over.coid.0 [] (Opens over.coid block.number) (record r { inodes = block.inodes }))

-- whether an inode may be opened so
abbrev pub allows : Attribute → ℕ → OFlags → Bool
allows attribute user flags = (not (reads flags) || may attribute user Read) && (not (writes flags) || may attribute user Write)

-- what is there is opened
abbrev pub open_existing : Resources → NewOpen → ℕ → Wish → Result (Deed Resources) Errno
open_existing r over inode wish = do
  attribute ← found (row_at r.inodes.attributes inode) ENOENT
  shared ← need (not (has wish.flags CREAT && has wish.flags EXCL)) EEXIST
  fitting ← need (not (is_directory attribute.kind && writes wish.flags)) EISDIR
  allowed ← need (allows attribute r.user wish.flags) EACCES
  opened over wish.flags inode (emptied wish.flags inode wish.moment r)

-- what is missing is made, of the manager's kind, and opened whatever its mode
abbrev pub open_missing : Kind → Resources → NewOpen → Spot → Wish → Result (Deed Resources) Errno
open_missing own r over at wish = do
  making ← need (has wish.flags CREAT) ENOENT
  parent ← writable r.inodes r.user at.parent
  free ← block_number r.inodes
  made ← made_at r at parent own wish.mode wish.moment
  opened over wish.flags made.inode made.after

abbrev pub open_spot : Kind → Resources → NewOpen → Spot → Option ℕ → Wish → Result (Deed Resources) Errno
open_spot own r over at (Some inode) wish = open_existing r over inode wish
open_spot own r over at None wish = open_missing own r over at wish

-- where a path leads from a mount's root
abbrev pub open_path : Kind → Resources → NewOpen → List (List ℕ) → Wish → Result (Deed Resources) Errno
open_path own r over [] wish = open_existing r over over.root wish
open_path own r over rest wish = do
  at ← spot r.inodes r.names r.user over.root rest ENOENT
  open_spot own r over at at.inode wish

-- ---- other messages to a path

-- a status is told, and nothing changes
abbrev pub status_deed : ℕ → Attribute → Resources → Deed Resources
status_deed inode attribute r = reply_alone 0 (stat_bytes inode attribute) Keeps r

-- a stat tells the status of what a path leads to, and needs the walk alone
abbrev pub stat_path : Resources → ℕ → List (List ℕ) → ℕ → Result (Deed Resources) Errno
stat_path r root rest moment = do
  inode ← inode_at r.inodes r.names r.user root rest
  attribute ← found (row_at r.inodes.attributes inode) ENOENT
  Ok (status_deed inode attribute r)

-- a directory of this mode is made
abbrev pub make_directory : Resources → ℕ → ℕ → List (List ℕ) → ℕ → Result (Deed Resources) Errno
make_directory r root mode rest moment = do
  at ← spot r.inodes r.names r.user root rest EEXIST
  missing ← need (not (is_some at.inode)) EEXIST
  parent ← writable r.inodes r.user at.parent
  made ← made_at r at parent Directory mode moment
  Ok (reply_alone 0 [] Keeps made.after)

-- ---- the last name, and the last close

-- a manager has directories, and inodes of a kind of its own
abbrev pub is_own : Kind → Kind → Bool
is_own own kind = is_directory kind || is_same_kind own kind

-- an inode that nothing names and nothing has open goes, with what is in it
abbrev pub without_unused : Kind → ℕ → Resources → Resources
without_unused own inode r = if is_unused r.inodes inode (row_at r.inodes.attributes inode) then without_content own inode (record r { inodes = free_inode r.inodes inode }) else r

-- an inode's attribute once it has no name
abbrev pub unnamed : ℕ → Attribute → Attribute
unnamed moment attribute = record attribute { links = 0; ctime = moment }

-- a name goes: its directory changes, and what it named
abbrev pub without_name : Spot → Attribute → ℕ → Attribute → ℕ → Resources → Resources
without_name at parent inode attribute moment r = record r {
  inodes = with_attribute (with_attribute r.inodes at.parent (with_entries_changed moment parent)) inode (unnamed moment attribute);
  names = remove r.names at.key;
}

-- a name goes, of a manager's own kind of inode or of a directory that is empty, and what it named, unless that is open
abbrev pub unlink_path : Kind → Resources → ℕ → List (List ℕ) → ℕ → Result (Deed Resources) Errno
unlink_path own r root rest moment = do
  at ← spot r.inodes r.names r.user root rest EBUSY
  inode ← found at.inode ENOENT
  parent ← writable r.inodes r.user at.parent
  empty ← need (is_empty (names_in r.names inode)) ENOTEMPTY
  attribute ← found (row_at r.inodes.attributes inode) ENOENT
  mine ← need (is_own own attribute.kind) ENOENT
  Ok (reply_alone 0 [] Keeps (without_unused own inode (without_name at parent inode attribute moment r)))

-- ---- another name (C Library Reference: rename)

-- both directories change
abbrev pub with_both_changed : Spot → Attribute → Spot → Attribute → ℕ → Resources → Resources
with_both_changed from parent to other moment r = record r {
  inodes = with_attribute (with_attribute r.inodes from.parent (with_entries_changed moment parent)) to.parent (with_entries_changed moment other);
}

-- what has the new name already loses it: a directory to a directory alone, if it is empty, and anything else to no directory
abbrev pub cleared : Kind → Attribute → Spot → Option ℕ → ℕ → Resources → Result Resources Errno
cleared own attribute to None moment r = Ok r
cleared own attribute to (Some there) moment r = do
  target ← found (row_at r.inodes.attributes there) ENOENT
  onto ← need (is_directory target.kind || not (is_directory attribute.kind)) ENOTDIR
  no_directory ← need (is_directory attribute.kind || not (is_directory target.kind)) EISDIR
  empty ← need (is_empty (names_in r.names there)) ENOTEMPTY
  mine ← need (is_own own target.kind) ENOENT
  Ok (without_unused own there (record r { inodes = with_attribute r.inodes there (unnamed moment target); names = remove r.names to.key }))

-- a name goes to its new place, and all below a directory with it
abbrev pub rename_to : Kind → Resources → Spot → ℕ → Attribute → Spot → Attribute → ℕ → Result (Deed Resources) Errno
rename_to own r from inode parent to other moment = do
  attribute ← found (row_at r.inodes.attributes inode) ENOENT
  outside ← need (not (is_below from.key to.key.0 to.key.1)) EINVAL
  free ← cleared own attribute to to.inode moment (with_both_changed from parent to other moment r)
  Ok (reply_alone 0 [] Keeps (record free { names = moved free.names from.key to.key }))

-- what one path leads to has another path of the same mount (C Library Reference: rename, EBUSY, EINVAL, EISDIR, ENOTDIR, ENOTEMPTY)
abbrev pub rename_path : Kind → Resources → ℕ → List (List ℕ) → List (List ℕ) → ℕ → Result (Deed Resources) Errno
rename_path own r root old new moment = do
  named ← need (not (length old == 0) && not (length new == 0)) EBUSY
  from ← spot r.inodes r.names r.user root old EBUSY
  inode ← found from.inode ENOENT
  to ← spot r.inodes r.names r.user root new EBUSY
  parent ← writable r.inodes r.user from.parent
  other ← writable r.inodes r.user to.parent
  if is_same_key from.key to.key then Ok (reply_alone 0 [] Keeps r) else rename_to own r from inode parent to other moment

-- an open control block of an inode that is the manager's own
abbrev pub own_block : Inodes → ℕ → Kind → Result Ocb Errno
own_block inodes number own = do
  block ← found (row_at inodes.blocks number) EBADF
  attribute ← found (row_at inodes.attributes block.inode) EBADF
  mine ← need (is_own own attribute.kind) EBADF
  Ok block

-- an open control block goes
abbrev pub without_block : ℕ → Resources → Resources
without_block number r = record r { inodes = close_block r.inodes number }

-- where calls may wait in an inode of a manager's own kind
abbrev pub pipe_in : Kind → Resources → ℕ → Option (pipes.Pipe WaitingCall)
pipe_in Pipe r inode = row_at r.pipes inode
pipe_in (Device device) r inode = row_at r.pipes inode
pipe_in _ r inode = None

-- what an open control block had open goes too, if that was all that kept it
abbrev pub unopened : Kind → ℕ → Deed Resources → Deed Resources
unopened own inode deed = record deed { state = without_unused own inode deed.state }

-- an open control block goes (C Library Reference: close); who waits over it is answered
abbrev pub free_block : Kind → Resources → ℕ → ℕ → Result (Deed Resources) Errno
free_block own r number moment = do
  block ← own_block r.inodes number own
  Ok (unopened own block.inode (released (without_block number r) number block.inode moment (pipe_in own r block.inode)))

-- and its event with it (Writing a Resource Manager: iofunc_close_ocb, iofunc_notify_remove)
abbrev pub close_ocb : Kind → Resources → ℕ → ℕ → Result (Deed Resources) Errno
close_ocb own r number moment = do
  deed ← free_block own r number moment
  Ok (record deed { state = record deed.state { events = disarmed number deed.state.events } })

-- a close of the last connection that has a block takes both away
abbrev pub close_last : Kind → Resources → Opened → Result (Deed Resources) Errno
close_last own r opened = do
  deed ← close_ocb own r opened.number opened.moment
  Ok (record deed { reply = Some (record { status = 0; bytes = []; effect = Closes opened.coid }) })

-- a close takes the connection away, and what it had open where no other connection has that (Writing a Resource Manager:
-- iofunc_close_dup)
abbrev pub close_dup : Kind → Resources → Opened → Result (Deed Resources) Errno
close_dup own r opened =
    if is_shared (row_at r.inodes.blocks opened.number)
    then Ok (reply_alone 0 [] (Closes opened.coid) (record r { inodes = without_use r.inodes opened.number }))
    else close_last own r opened

-- ---- other messages over what is open

-- a dup's connection has open what the old one has, and is the status (C Library Reference: dup; Writing a Resource Manager: io_dup)
abbrev pub dup_open : Resources → NewDup → Result (Deed Resources) Errno
dup_open r dup = do
  inodes ← dup_block r.inodes dup.old.number
  Ok (reply_alone dup.coid.0 [] (Opens dup.coid dup.old.number) (record r { inodes = inodes }))

-- an fstat tells the status of what is open
abbrev pub stat_block : Resources → Opened → Result (Deed Resources) Errno
stat_block r opened = do
  block ← found (row_at r.inodes.blocks opened.number) EBADF
  attribute ← found (row_at r.inodes.attributes block.inode) EBADF
  Ok (status_deed block.inode attribute r)

-- names are listed, and nothing changes; their number is the status
abbrev pub names_told : List (List ℕ) → Resources → Deed Resources
names_told names r = reply_alone (length names) (listing names) Keeps r

-- a listing gives the names in a directory behind one, as many as fit
abbrev pub list_block : Resources → Opened → List ℕ → Result (Deed Resources) Errno
list_block r opened after = do
  block ← found (row_at r.inodes.blocks opened.number) EBADF
  attribute ← found (row_at r.inodes.attributes block.inode) EBADF
  directory ← need (is_directory attribute.kind) ENOTDIR
  Ok (names_told (listed r.names block.inode after) r)

-- another mode; the mode of a user's top is fixed (this profile)
abbrev pub chmod_block : Resources → Opened → ℕ → Result (Deed Resources) Errno
chmod_block r opened mode = do
  block ← found (row_at r.inodes.blocks opened.number) EBADF
  other ← need (not (block.inode == top_inode)) EPERM
  attribute ← found (row_at r.inodes.attributes block.inode) EBADF
  Ok (reply_alone 0 [] Keeps (record r { inodes = with_attribute r.inodes block.inode (record attribute { mode = mode; ctime = opened.moment }) }))
