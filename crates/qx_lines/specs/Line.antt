-- What a contract sees of a line: its nodes, the one that goes first in front.
use Rattle.std.specs.Prelude.{◌≡◌, ℕ, ◌<◌, List, [], Contains, length, get_or, is_some, slice_get, unwrap_or, option_map}
use Rattle.std.specs.List.{flat_map}
use mathlib.Core.List.{reverse}
use Rattle.std.specs.FinMap as map
use Rattle.std.specs.Ordering.{nat_cmp}
use Rattle.qx_lists.specs.Table.{Table, ContainsList, nodes_of}
use Rattle.qx_lines.specs.Marks.{is_marked}
use Rattle.qx_lines.specs.declared.marks.TheConstants.{PRIORITIES}
use Rattle.qx_lines.specs.declared.Line.{Line}

-- a list of the table that is the line's own
abbrev pub IsOwn : Line → ℕ → Type 0
IsOwn line list = Contains line.lists list

-- how many items a line counts
abbrev pub item_count : Line → ℕ
item_count line = line.len

-- each priority has a list of its own
unfoldable pub AreApart : List ℕ → Type 0
AreApart lists = (one other : ℕ) → one < length lists → other < length lists → get_or lists one 0 ≡ get_or lists other 0 → one ≡ other

-- the nodes of a list, none where there is no such list
abbrev pub nodes_at : map.FinMap nat_cmp (List ℕ) → ℕ → List ℕ
nodes_at lists list = unwrap_or (map.get lists list) []

-- each node stands in the list of its priority
unfoldable pub AreRanked : {T : Type 0} → (T → ℕ) → map.FinMap nat_cmp T → map.FinMap nat_cmp (List ℕ) → List ℕ → Type 0
AreRanked rank values lists own = (priority node : ℕ) → priority < length own → Contains (nodes_at lists (get_or own priority 0)) node → unwrap_or (option_map rank (map.get values node)) 0 ≡ priority

-- the priorities whose lists have nodes are marked, and no others
unfoldable pub AreMarked : List ℕ → map.FinMap nat_cmp (List ℕ) → List ℕ → Type 0
AreMarked words lists own = (priority : ℕ) → priority < length own → is_marked words priority ≡ is_some (slice_get (nodes_at lists (get_or own priority 0)) 0)

-- the nodes of lists, those of the last list in front
abbrev pub last_first : (ℕ → List ℕ) → List ℕ → List ℕ
last_first nodes lists = flat_map nodes (reverse lists)

module _ {T : Type 0} where
  -- the nodes of the line in their order
  abbrev pub nodes_in : Table T → Line → List ℕ
  nodes_in t line = last_first (nodes_of t) line.lists

  -- the node stands in the line
  abbrev pub IsInLine : Table T → Line → ℕ → Type 0
  IsInLine t line node = Contains (nodes_in t line) node

  -- the priority of a node's value
  abbrev pub rank_at : (T → ℕ) → Table T → ℕ → ℕ
  rank_at rank t node = unwrap_or (option_map rank (map.get t.values node)) 0

  -- the line is one of the table's, knows its length and which priorities have items, and has each node in the list of its priority
  pub record IsLineOf (rank : T → ℕ) (t : Table T) (line : Line) : Type 0 where
    pub whole : length line.lists ≡ PRIORITIES
    pub there : (list : ℕ) → IsOwn line list → ContainsList t list
    pub apart : AreApart line.lists
    pub counted : item_count line ≡ length (nodes_in t line)
    pub marked : AreMarked line.marks.words t.lists line.lists
    pub ranked : AreRanked rank t.values t.lists line.lists

  -- nothing but the line's own lists is different
  pub record SameElsewhere (old new : Table T) (line : Line) : Type 0 where
    pub values : new.values ≡ old.values
    pub room : new.room ≡ old.room
    pub lists : (list : ℕ) → (IsOwn line list → ⊥) → map.get new.lists list ≡ map.get old.lists list
