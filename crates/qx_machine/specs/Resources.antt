-- What the managers keep for one user, and what is in an inode.
use Rattle.std.specs.Prelude.{ℕ, List, [], Some, None, slice_set}
use Rattle.qx_paths.specs.Prefixes.{MountPoint}
use Rattle.qx_machine.specs.declared.rows.Attribute.{Attribute}
use Rattle.qx_machine.specs.declared.rows.Kind.{Kind}
use Rattle.qx_machine.specs.declared.rows.Kind.TheVariants.{Directory, File, Pipe, Device}
use Rattle.qx_machine.specs.Events.{Events}
use Rattle.qx_machine.specs.Files.{Files}
use Rattle.qx_machine.specs.Inodes.{Inodes}
use Rattle.qx_types.specs.UserLimits.{UserLimits}
use Rattle.qx_machine.specs.Names.{Names}
use Rattle.qx_machine.specs.Pipes.{pipe_of}
use Rattle.qx_machine.specs.Waiting.{Pipes}

-- where the managers are attached, inodes and open control blocks, the names in all mounts, under the numbers of inodes the bytes of
-- files, and pipes, and armed events with untaken pulses
pub record Resources : Type 0 where
  pub user : ℕ
  pub mounts : List MountPoint
  pub inodes : Inodes
  pub names : Names
  pub files : Files
  pub pipes : Pipes
  pub events : Events
  pub limits : UserLimits

-- ---- what is in an inode; the names in a directory stand among all names

-- nothing is in it, as it is made: a file has no bytes; a pipe or a device has none, and nobody waits there
abbrev pub with_empty : Kind → ℕ → Resources → Resources
with_empty File inode r = record r { files = slice_set r.files inode (Some []) }
with_empty Pipe inode r = record r { pipes = slice_set r.pipes inode (Some (pipe_of None [] [] [])) }
with_empty (Device device) inode r = record r { pipes = slice_set r.pipes inode (Some (pipe_of (Some device) [] [] [])) }
with_empty Directory inode r = r

-- what was in it goes, as the inode does
abbrev pub without_content : Kind → ℕ → Resources → Resources
without_content File inode r = record r { files = slice_set r.files inode None }
without_content Pipe inode r = record r { pipes = slice_set r.pipes inode None }
without_content (Device device) inode r = record r { pipes = slice_set r.pipes inode None }
without_content Directory inode r = r

-- an inode's attribute once something of it has another size
abbrev pub resized : ℕ → ℕ → Attribute → Attribute
resized size moment attribute = record attribute { size = size; mtime = moment; ctime = moment }
