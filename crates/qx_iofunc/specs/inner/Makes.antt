-- What only the proofs need of Makes.
use Rattle.std.specs.Prelude.{ℕ, ◌||◌, ⊤, not, Option, Some, None, Result, Ok, is_some}
use Rattle.qx_base.specs.declared.errno.Errno.{Errno}
use Rattle.qx_base.specs.declared.errno.Errno.TheVariants.{EEXIST, EISDIR, ENOENT, ENOTDIR, ENOTEMPTY}
use Rattle.qx_iofunc.specs.declared.found.New.{New}
use Rattle.qx_machine.specs.declared.rows.Kind.{Kind}
use Rattle.qx_machine.specs.Inodes.{Inodes, inode_number}
use Rattle.qx_isolation.specs.Judgements.{◌>>=◌, found, need}
use Rattle.qx_machine.specs.Defaults.{is_own, writable}
use Rattle.qx_machine.specs.Names.{Names, is_directory, is_empty, names_in}
use Rattle.qx_isolation.specs.Rows.{row_at}

abbrev pub may_make_directory : Inodes → ℕ → ℕ → Option ℕ → Result New Errno
may_make_directory inodes user directory there = do
  missing ← need (not (is_some there)) EEXIST
  parent ← writable inodes user directory
  inode ← inode_number inodes
  Ok (record { inode = inode; parent = parent })

-- what has a name already may lose it to an inode of this kind: a directory to a directory alone, if it is empty, and anything else to no
-- directory
abbrev pub may_replace : Kind → Kind → Inodes → Names → Option ℕ → Result ⊤ Errno
may_replace own kind inodes names None = Ok tt
may_replace own kind inodes names (Some there) = do
  target ← found (row_at inodes.attributes there) ENOENT
  onto ← need (is_directory target.kind || not (is_directory kind)) ENOTDIR
  no_directory ← need (is_directory kind || not (is_directory target.kind)) EISDIR
  empty ← need (is_empty (names_in names there)) ENOTEMPTY
  mine ← need (is_own own target.kind) ENOENT
  Ok tt
