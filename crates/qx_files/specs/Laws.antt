-- What holds of the bytes of a file by their definitions alone.
use Rattle.std.specs.Prelude.{ℕ, ◌≡◌, ◌+◌, ◌-◌, List, ◌++◌, drop, length, replicate, take}
use Rattle.qx_machine.specs.Files.{get, put}

-- what was written is read back at its place
abbrev pub ReadBack : Type 0
ReadBack = (bytes : List ℕ) (offset : ℕ) (new : List ℕ) → get (put bytes offset new) offset (length new) ≡ new

-- before it stands what stood there, and zero bytes where nothing did
abbrev pub KeptBefore : Type 0
KeptBefore = (bytes : List ℕ) (offset : ℕ) (new : List ℕ) → take offset (put bytes offset new) ≡ take offset bytes ++ replicate (offset - length bytes) 0

-- behind it stands what stood there
abbrev pub KeptBehind : Type 0
KeptBehind = (bytes : List ℕ) (offset : ℕ) (new : List ℕ) → drop (offset + length new) (put bytes offset new) ≡ drop (offset + length new) bytes
