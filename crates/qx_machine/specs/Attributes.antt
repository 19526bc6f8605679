-- Attributes of inodes, and the status that an fstat gives (Writing a Resource Manager: iofunc_attr_t; the layout is this profile).
use Rattle.std.specs.Prelude.{ℕ, List, ◌++◌}
use Rattle.std.specs.Int.{w16, w32, w64, to_le_bytes}
use Rattle.qx_machine.specs.declared.rows.Kind.{Kind}
use Rattle.qx_machine.specs.declared.rows.Kind.TheVariants.{File, Directory, Pipe, Device}
use Rattle.qx_machine.specs.declared.rows.Attribute.{Attribute}

abbrev pub kind_code : Kind → ℕ
kind_code File = 1
kind_code Directory = 2
kind_code Pipe = 3
kind_code (Device device) = 4

-- the root of a mount, at first: a directory that its owner may read, write and search
abbrev pub root_attribute : ℕ → Attribute
root_attribute user = record { kind = Directory; mode = 448; links = 1; owner = user; size = 0; mtime = 0; ctime = 0 }

-- the root of a user's top
abbrev pub top_inode : ℕ
top_inode = 1

-- the 40 bytes of a status: inode, kind, mode, links, owner, size, mtime and ctime, each with its lowest byte first
unfoldable pub stat_bytes : ℕ → Attribute → List ℕ
stat_bytes inode attribute =
    to_le_bytes w32 inode ++
    to_le_bytes w16 (kind_code attribute.kind) ++
    to_le_bytes w16 attribute.mode ++
    to_le_bytes w32 attribute.links ++
    to_le_bytes w32 attribute.owner ++
    to_le_bytes w64 attribute.size ++
    to_le_bytes w64 attribute.mtime ++
    to_le_bytes w64 attribute.ctime
