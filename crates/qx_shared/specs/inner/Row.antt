-- What only the proofs need of Row.
use Rattle.std.specs.Prelude.{◌≡◌, ℕ, List, [], Option, Some, None, get_or, option_map, slice_set}
use Rattle.qx_base.specs.Verdict.{Verdict}
use Rattle.qx_devices.specs.declared.Device.{Device}
use Rattle.qx_isolation.specs.Rows.{row_at}
use Rattle.qx_machine.specs.declared.rows.WaitingCall.{WaitingCall}
use Rattle.qx_machine.specs.Verdicts.{read_of, write_of}
use Rattle.qx_shared.specs.declared.side.Side.{Side}
use Rattle.qx_shared.specs.declared.side.Side.TheVariants.{Reading, Writing}
use Rattle.qx_shared.specs.Row.{PipeRow}

abbrev pub row_with_bytes : PipeRow → List ℕ → PipeRow
row_with_bytes row bytes = record row { bytes = bytes }

-- the bytes that stand in a row
abbrev pub bytes_of : Option PipeRow → List ℕ
bytes_of None = []
bytes_of (Some row) = row.bytes

-- the pipes of a user under the numbers of their inodes
abbrev pub Rows : Type 0
Rows = List (Option PipeRow)

-- the bytes that stand under an inode
abbrev pub bytes_at : Rows → ℕ → List ℕ
bytes_at rows inode = bytes_of (row_at rows inode)

-- the pipe of an inode of a user
abbrev pub row_of : List Rows → ℕ → ℕ → Option PipeRow
row_of all user inode = row_at (get_or all user []) inode

abbrev pub HasRow : List Rows → ℕ → ℕ → Type 0
HasRow all user inode = (row : PipeRow) × (row_of all user inode ≡ Some row)

-- another stands there, or none
abbrev pub with_row_of : List Rows → ℕ → ℕ → Option PipeRow → List Rows
with_row_of all user inode row = slice_set all user (slice_set (get_or all user []) inode row)

abbrev pub list_on : Side → PipeRow → ℕ
list_on Reading row = row.readers
list_on Writing row = row.writers

-- a side of the pipe of an inode of a user
pub record Place : Type 0 where
  pub user : ℕ
  pub inode : ℕ
  pub side : Side

abbrev pub place : ℕ → ℕ → Side → Place
place user inode side = record { user = user; inode = inode; side = side }

-- in which list calls wait there
abbrev pub list_of_place : List Rows → Place → Option ℕ
list_of_place all p = option_map (list_on p.side) (row_of all p.user p.inode)

-- what a call on a side comes to by the bytes that stand
abbrev pub verdict_on : Side → WaitingCall → Option Device → List ℕ → Verdict
verdict_on Reading call device bytes = read_of device call.wanted bytes
verdict_on Writing call device bytes = write_of device call.bytes bytes
