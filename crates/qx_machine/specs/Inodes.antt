-- The inodes and open control blocks of one user, at all managers (Writing a Resource Manager: iofunc_attr_t, iofunc_ocb_t; that each user
-- has numbers of their own is this profile).
use Rattle.std.specs.Prelude.{ℕ, Bool, true, false, ◌+◌, ◌-◌, ◌==◌, ◌&&◌, not, List, [], ◌∷◌, ◌++◌, Option, Some, None, Result, Ok, Err, count_by, filter, nat_le, nat_lt, slice_set, if◌then◌else◌}
use Rattle.std.specs.Int.RustNames.{bit_and}
use Rattle.qx_base.specs.declared.errno.Errno.{Errno}
use Rattle.qx_base.specs.declared.errno.Errno.TheVariants.{EBADF, EMFILE, ENFILE, ENOSPC}
use Rattle.qx_types.specs.declared.flags.OFlags.{OFlags}
use Rattle.qx_types.specs.declared.flags.TheConstants.OFlags.{READ, WRITE}
use Rattle.qx_types.specs.declared.limits.TheConstants.Limits.{LAST_CONNECTION}
use Rattle.qx_types.specs.Managers.{manager_number}
use Rattle.qx_machine.specs.declared.rows.Access.{Access}
use Rattle.qx_machine.specs.declared.rows.Access.TheVariants.{Read, Write, Search}
use Rattle.qx_machine.specs.declared.rows.Attribute.{Attribute}
use Rattle.qx_machine.specs.declared.rows.Client.{Client}
use Rattle.qx_machine.specs.declared.rows.Kind.{Kind}
use Rattle.qx_machine.specs.declared.rows.Ocb.{Ocb}
use Rattle.qx_isolation.specs.Judgements.{◌>>=◌, found, need}
use Rattle.qx_types.specs.UserLimits.{UserLimits}
use Rattle.qx_isolation.specs.Rows.{row_at, lowest_from, put_row, with_row}

-- inodes from 1, each as its attribute, and open control blocks from 1, with the numbers of those that are there in order of making; and how
-- many of both there may be
pub record Inodes : Type 0 where
  pub attributes : List (Option Attribute)
  pub blocks : List (Option Ocb)
  pub made : List ℕ
  pub most_inodes : ℕ
  pub most_blocks : ℕ

-- none, of which there may be so many
abbrev pub none_of : ℕ → ℕ → Inodes
none_of most_inodes most_blocks = record { attributes = None ∷ []; blocks = None ∷ []; made = []; most_inodes = most_inodes; most_blocks = most_blocks }

abbrev pub no_inodes : UserLimits → Inodes
no_inodes limits = none_of limits.inodes limits.blocks

-- whether all of some flags are among others
abbrev pub has : OFlags → OFlags → Bool
has flags wanted = bit_and flags.0 wanted.0 == wanted.0

-- ---- permission (C Library Reference: S_IRUSR and the like, EACCES; that the group's bits are not looked at is this profile)

abbrev pub owner_bit : Access → ℕ
owner_bit Read = 256
owner_bit Write = 128
owner_bit Search = 64

abbrev pub other_bit : Access → ℕ
other_bit Read = 4
other_bit Write = 2
other_bit Search = 1

-- the owner is judged by the owner's bits alone, anybody else by the last three
abbrev pub may : Attribute → ℕ → Access → Bool
may attribute user access = not (bit_and attribute.mode (if attribute.owner == user then owner_bit access else other_bit access) == 0)

-- ---- inodes

-- an inode as it is made, named once
abbrev pub new_attribute : Kind → ℕ → ℕ → ℕ → Attribute
new_attribute kind mode owner moment = record { kind = kind; mode = mode; links = 1; owner = owner; size = 0; mtime = moment; ctime = moment }

-- a number within a limit
abbrev pub number_within : ℕ → ℕ → Errno → Result ℕ Errno
number_within limit number error = if nat_le number limit then Ok number else Err error

-- the number of the next inode: the lowest free one (C Library Reference: ENOSPC)
abbrev pub inode_number : Inodes → Result ℕ Errno
inode_number inodes = number_within inodes.most_inodes (lowest_from 1 inodes.attributes) ENOSPC

-- the number of the next open control block: the lowest free one (C Library Reference: ENFILE)
abbrev pub block_number : Inodes → Result ℕ Errno
block_number inodes = number_within inodes.most_blocks (lowest_from 1 inodes.blocks) ENFILE

-- a number that was given, and what there is then
pub record Numbered : Type 0 where
  pub number : ℕ
  pub inodes : Inodes

abbrev pub new_inode : Inodes → Attribute → Result Numbered Errno
new_inode inodes attribute = do
  number ← inode_number inodes
  Ok (record { number = number; inodes = record inodes { attributes = put_row inodes.attributes number attribute } })

-- an inode has another attribute
abbrev pub with_attribute : Inodes → ℕ → Attribute → Inodes
with_attribute inodes inode attribute = record inodes { attributes = slice_set inodes.attributes inode (Some attribute) }

-- ---- open control blocks

abbrev pub reads : OFlags → Bool
reads flags = has flags READ

abbrev pub writes : OFlags → Bool
writes flags = has flags WRITE

abbrev pub is_open : (OFlags → Bool) → ℕ → Option Ocb → Bool
is_open which inode None = false
is_open which inode (Some block) = (block.inode == inode) && which block.flags

-- how many open control blocks of an inode have such flags
abbrev pub open_with : (OFlags → Bool) → Inodes → ℕ → ℕ
open_with which inodes inode = count_by (is_open which inode) inodes.blocks

-- the three counts of an inode: its open control blocks, those for reading and those for writing
abbrev pub blocks_of : Inodes → ℕ → ℕ
blocks_of = open_with (λ flags. true)

abbrev pub readers_of : Inodes → ℕ → ℕ
readers_of = open_with reads

abbrev pub writers_of : Inodes → ℕ → ℕ
writers_of = open_with writes

-- an open control block as it is made, which begins at the beginning (C Library Reference: open)
abbrev pub new_block : ℕ → OFlags → Client → Ocb
new_block inode flags client = record { inode = inode; flags = flags; offset = 0; uses = 1; client = client }

-- an open of a client makes an open control block
abbrev pub open_block : Inodes → ℕ → OFlags → Client → Result Numbered Errno
open_block inodes inode flags client = do
  number ← block_number inodes
  Ok (record { number = number; inodes = record inodes { blocks = put_row inodes.blocks number (new_block inode flags client); made = inodes.made ++ number ∷ [] } })

abbrev pub moved_to : ℕ → Ocb → Ocb
moved_to offset block = record block { offset = offset }

-- an open control block stands at another offset
abbrev pub with_offset : Inodes → ℕ → ℕ → Inodes
with_offset inodes number offset = record inodes { blocks = with_row inodes.blocks number (moved_to offset) }

-- one more connection has an open control block (C Library Reference: dup). A process can't have that many connections, so EMFILE doesn't
-- come of it
abbrev pub dup_block : Inodes → ℕ → Result Inodes Errno
dup_block inodes number = do
  block ← found (row_at inodes.blocks number) EBADF
  few ← need (nat_lt block.uses LAST_CONNECTION) EMFILE
  Ok (record inodes { blocks = with_row inodes.blocks number (λ block. record block { uses = block.uses + 1 }) })

-- more than one connection has an open control block
abbrev pub is_shared : Option Ocb → Bool
is_shared None = false
is_shared (Some block) = nat_lt 1 block.uses

-- one connection less has it
abbrev pub without_use : Inodes → ℕ → Inodes
without_use inodes number = record inodes { blocks = with_row inodes.blocks number (λ block. record block { uses = block.uses - 1 }) }

-- an open control block goes, and its number is free (C Library Reference: close)
abbrev pub close_block : Inodes → ℕ → Inodes
close_block inodes number = record inodes { blocks = slice_set inodes.blocks number None; made = filter (λ other. not (other == number)) inodes.made }

-- ---- the blocks of one client

abbrev pub is_same_client : Client → Client → Bool
is_same_client one other =
    (one.process == other.process) && (manager_number one.server.manager == manager_number other.server.manager) && (one.server.number == other.server.number)

abbrev pub is_clients : Client → Option Ocb → Bool
is_clients client None = false
is_clients client (Some block) = is_same_client block.client client

-- the open control blocks that a client has, in order of making
abbrev pub blocks_of_client : Inodes → Client → List ℕ
blocks_of_client inodes client = filter (λ number. is_clients client (row_at inodes.blocks number)) inodes.made

-- whether nothing names an inode and nothing has it open
abbrev pub is_unused : Inodes → ℕ → Option Attribute → Bool
is_unused inodes inode None = false
is_unused inodes inode (Some attribute) = (attribute.links == 0) && (blocks_of inodes inode == 0)

-- an inode that nothing names and nothing has open goes, and its number is free
abbrev pub free_inode : Inodes → ℕ → Inodes
free_inode inodes inode =
    if is_unused inodes inode (row_at inodes.attributes inode) then record inodes { attributes = slice_set inodes.attributes inode None } else inodes
