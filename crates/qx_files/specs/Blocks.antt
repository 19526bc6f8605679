-- The blocks in which the bytes of a file stand: 512 bytes each (this profile). What was never written needs none, and reads as zero bytes.
use Rattle.std.specs.Prelude.{IsTrue, ℕ, ◌≡◌, ◌+◌, ◌-◌, ◌/◌, ◌<◌, ◌≤◌, Bool, true, false, List, [], ◌++◌, Option, Some, None, ◌==◌, drop, length, replicate, slice_index_or, take, if◌then◌else◌}
use Rattle.std.specs.List.{count_by}
use Rattle.qx_machine.specs.Files.{put}
use Rattle.qx_machine.specs.Wants.{is_blank}

-- how many blocks so many bytes take up
abbrev pub blocks_for : ℕ → ℕ
blocks_for size = (size + 511) / 512

-- what a file holds: its bytes, and for each block whether it is there; those behind the last one of these are not
pub record Held : Type 0 where
  pub bytes : List ℕ
  pub blocks : List Bool

-- no bytes, and no block
abbrev pub nothing : Held
nothing = record { bytes = []; blocks = [] }

-- how many blocks are there
abbrev pub count_of : Option (List Bool) → ℕ
count_of None = 0
count_of (Some blocks) = count_by (λ is_there. is_there) blocks

-- the blocks, of which all from one on up to another are there now
abbrev pub with_blocks : List Bool → ℕ → ℕ → List Bool
with_blocks blocks first end = (take first blocks ++ replicate (first - length blocks) false) ++ (replicate (end - first) true ++ drop end blocks)

-- the blocks after so many bytes were written at an offset: those in which one of these stands are there, and no others came
abbrev pub blocks_after : List Bool → ℕ → ℕ → List Bool
blocks_after blocks offset count = if count == 0 then blocks else with_blocks blocks (offset / 512) (blocks_for (offset + count))

-- bytes were written at an offset
abbrev pub after_write : Held → ℕ → List ℕ → Held
after_write held offset new = record { bytes = put held.bytes offset new; blocks = blocks_after held.blocks offset (length new) }

-- one of so many places from an offset on is in a block that isn't there, in which no byte but zero is then
abbrev pub LacksBlock : Held → ℕ → ℕ → Type 0
LacksBlock held offset count = (place : ℕ) × (offset ≤ place) × (place < offset + count) × (slice_index_or held.blocks (place / 512) false ≡ false) × IsTrue (is_blank held.bytes (place / 512))
