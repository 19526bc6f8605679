-- What only the proofs need of Fits.
use Rattle.std.specs.Prelude.{ℕ, ◌≡◌, ◌≢◌, ◌<◌, false, Some, length}
use Rattle.std.specs.FinMap.{get}
use Rattle.qx_machine.specs.Inodes.{Inodes, is_unused}
use Rattle.qx_machine.specs.Names.{Key, Names}
use Rattle.qx_isolation.specs.Rows.{row_at}
use Rattle.qx_iofunc.specs.Fits.{IsLinked}

-- the same, but that one inode may be neither linked nor open
pub record NamesFitBut (inodes : Inodes) (names : Names) (inode : ℕ) : Type 0 where
  pub linked : (key : Key) (other : ℕ) → get names key ≡ Some other → IsLinked (row_at inodes.attributes other)
  pub used : (other : ℕ) → other ≢ inode → is_unused inodes other (row_at inodes.attributes other) ≡ false
  pub places : 0 < length inodes.attributes
