-- Where the bytes of a message stand.
use Rattle.std.specs.Prelude.{ℕ, List, ◌≤◌, ◌<◌, length, take}
use Rattle.qx_base.specs.declared.message.Items.{Items}
use Rattle.qx_base.specs.declared.message.Items.TheVariants as items
use Rattle.qx_base.specs.declared.message.TheConstants.MessageBytes.{INLINE}

abbrev pub bytes_in : Items → List ℕ
bytes_in (items.Few few) = take few.len few.places
bytes_in (items.Many bytes) = bytes.items

-- the first of the places, and more in a vector
abbrev pub are_within : Items → Type 0
are_within (items.Few few) = few.len ≤ INLINE
are_within (items.Many bytes) = INLINE < length bytes.items
