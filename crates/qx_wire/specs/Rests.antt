-- What a path has behind its mount: components.
use Rattle.std.specs.Prelude.{ℕ, Bool, ◌&&◌, ◌||◌, not, ◌==◌, ◌+◌, ◌≤◌, nat_le, List, [], ◌∷◌, ◌++◌, length, take, drop, codes}
use Rattle.std.specs.Int.{w16, from_le_bytes, to_le_bytes}
use Rattle.std.specs.List.{list_all, join_with_byte, slice_split}
use Rattle.std.specs.Str.{bytes_eq}
use Rattle.qx_types.specs.declared.limits.TheConstants.Limits.{COMPONENT, PATH}

-- the components with one '/' between each two
abbrev pub joined : List (List ℕ) → List ℕ
joined components = join_with_byte 47 components

-- neither a zero byte nor '/'
abbrev pub is_name_byte : ℕ → Bool
is_name_byte byte = not (byte == 0) && not (byte == 47)

-- "." or ".."
abbrev pub is_dots : List ℕ → Bool
is_dots name = bytes_eq name (codes ".") || bytes_eq name (codes "..")

-- 1 to 64 bytes of a name, and neither "." nor ".."
abbrev pub is_component : List ℕ → Bool
is_component name = nat_le 1 (length name) && nat_le (length name) COMPONENT && not (is_dots name) && list_all is_name_byte name

-- components that have at most 1,024 bytes where they are joined
abbrev pub is_rest : List (List ℕ) → Bool
is_rest components = nat_le (length (joined components)) PATH && list_all is_component components

-- what stands before, between and after the slashes; no bytes have no component
unfoldable pub components_of : List ℕ → List (List ℕ)
components_of [] = []
components_of (byte ∷ bytes) = slice_split (λ b. b == 47) (byte ∷ bytes)

-- ---- two of them, of one mount

-- how many bytes the first has, as the bytes tell in which both stand
abbrev pub first_length : List ℕ → ℕ
first_length bytes = from_le_bytes w16 (take 2 bytes)

-- this length is there, and what stands behind it is as long
abbrev pub AreRests : List ℕ → Type 0
AreRests bytes = 2 + first_length bytes ≤ length bytes

-- what stands in them
unfoldable pub rests_of : List ℕ → List (List ℕ) × List (List ℕ)
rests_of bytes = (components_of (take (first_length bytes) (drop 2 bytes)), components_of (drop (first_length bytes) (drop 2 bytes)))

-- the bytes of two
abbrev pub rests_bytes : List (List ℕ) × List (List ℕ) → List ℕ
rests_bytes rests = to_le_bytes w16 (length (joined rests.0)) ++ (joined rests.0 ++ joined rests.1)
