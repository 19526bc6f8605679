-- Which writes want memory.
use Rattle.std.specs.Prelude.{ℕ, IsOkAnd, IsSomeAnd}
use Rattle.qx_types.specs.declared.flags.TheConstants.OFlags.{WRITE}
use Rattle.qx_attr.specs.Flags.{block_for}
use Rattle.qx_files.specs.Files.{FileLacksBlock}
use Rattle.qx_iofunc.specs.Store.{Store}
use Rattle.qx_machine.specs.Files.{write_offset}
use Rattle.qx_isolation.specs.Rows.{row_at}

-- so many bytes are written where an open control block stands, and one of them comes to stand in a block of the file that isn't there
abbrev pub WritesToLacking : Store → ℕ → ℕ → Type 0
WritesToLacking s number count = IsOkAnd (block_for s.stored.inodes number WRITE) (λ block. IsSomeAnd (row_at s.stored.files block.inode) (λ bytes. FileLacksBlock (record { files = s.stored.files; blocks = s.blocks }) block.inode (write_offset block bytes) count))
