-- The blocks of a file in their places, and the bytes that stand in them.
use Rattle.std.specs.Prelude.{ℕ, ◌≡◌, ◌+◌, ◌-◌, ◌*◌, ◌/◌, ◌%◌, ◌<◌, ◌≤◌, ◌&&◌, ◌⊎◌, Bool, false, List, ◌++◌, Option, Some, None, drop, is_some, length, map, nat_lt, nat_le, option_map, replicate, slice_index, slice_index_or, take, if◌then◌else◌}
use Rattle.std.specs.List.{range_with_len}
use Rattle.qx_files.specs.Blocks.{count_of}
use Rattle.qx_isolation.specs.Rows.{row_at}

-- where the byte at a place of a file stands among the bytes of the blocks that are there, if its block is
abbrev pub place_of : List (Option ℕ) → ℕ → Option ℕ
place_of places n = option_map (λ index. 512 * index + n % 512) (row_at places (n / 512))

-- the byte that stands there; where no block is there it is zero
abbrev pub byte_in : List ℕ → Option ℕ → ℕ
byte_in bytes None = 0
byte_in bytes (Some place) = slice_index bytes place

-- the byte at a place of a file
abbrev pub byte_at : List ℕ → List (Option ℕ) → ℕ → ℕ
byte_at bytes places n = byte_in bytes (place_of places n)

-- so many of these bytes, from the file's begin on
abbrev pub bytes_of : (ℕ → ℕ) → ℕ → List ℕ
bytes_of byte size = map byte (range_with_len 0 size)

-- which blocks are there
abbrev pub there : List (Option ℕ) → List Bool
there places = map (λ place. is_some place) places

-- these, and none behind them, so many in all
abbrev pub padded : List Bool → ℕ → List Bool
padded rows total = rows ++ replicate (total - length rows) false

-- so many bytes are those of the blocks in the places: there is none beyond them, no two places have the same, and as many have one
pub record Stand (size : ℕ) (places : List (Option ℕ)) : Type 0 where
  pub within : (n index : ℕ) → row_at places n ≡ Some index → 512 * index < size
  pub apart : (m n index : ℕ) → row_at places m ≡ Some index → row_at places n ≡ Some index → m ≡ n
  pub counted : size ≡ 512 * count_of (Some (there places))

-- so many blocks stand in the file's order, from the first one on
abbrev pub InOrder : List (Option ℕ) → ℕ → Type 0
InOrder places in_order = (n : ℕ) → n < in_order → row_at places n ≡ Some n

-- so many bytes at an offset are all among these, or all in one block
abbrev pub InRun : ℕ → ℕ → ℕ → Type 0
InRun in_order offset count = (offset + count ≤ 512 * in_order) ⊎ (offset % 512 + count ≤ 512)

-- the blocks that were there stay where they stood
abbrev pub Stay : List (Option ℕ) → List (Option ℕ) → Type 0
Stay old now = (n index : ℕ) → row_at old n ≡ Some index → row_at now n ≡ Some index

-- the byte at a place once bytes were put at an offset, by what stood there
abbrev pub byte_after : ℕ → List ℕ → (ℕ → ℕ) → ℕ → ℕ
byte_after offset new before n = if nat_le offset n && nat_lt n (offset + length new) then slice_index new (n - offset) else before n

-- one of these blocks, from one on up to another, isn't there
abbrev pub LacksOne : List (Option ℕ) → ℕ → ℕ → Type 0
LacksOne places first end = (n : ℕ) × (first ≤ n) × (n < end) × (slice_index_or (there places) n false ≡ false)

-- one of so many places from an offset on is in such a block
abbrev pub LacksPlace : List (Option ℕ) → ℕ → ℕ → Type 0
LacksPlace places offset count = (place : ℕ) × (offset ≤ place) × (place < offset + count) × (slice_index_or (there places) (place / 512) false ≡ false)

-- all of them are
abbrev pub HasAll : List (Option ℕ) → ℕ → ℕ → Type 0
HasAll places first end = (n : ℕ) → first ≤ n → n < end → slice_index_or (there places) n false ≡ false → ⊥

-- bytes, into which others were put at a place
abbrev pub pasted : ℕ → List ℕ → List ℕ → List ℕ
pasted at new bytes = take at bytes ++ (new ++ drop (at + length new) bytes)
