-- How the entries of directories stand in lists of a table. No public clause of another crate cites this module.
use Rattle.std.specs.Prelude.{ℕ, suc, ◌≡◌, ◌≢◌, ◌<◌, ◌⊎◌, List, [], ◌∷◌, Contains, Option, None, Some, if◌then◌else◌, length, map as mapped, refl, unwrap_or}
use Rattle.std.specs.Coded.{Coded, code_by, coded×, coded_list, coded_option, coded_ℕ}
use Rattle.std.specs.FinMap as map
use Rattle.std.specs.FinMap.Entries.{is_sorted}
use Rattle.std.specs.Ordering.{is_lt}
use Rattle.std.proofs.Common.{T}
use Rattle.qx_lists.specs.Table.{ContainsList, ContainsNode, IsIn, Table}
use Rattle.qx_names.specs.inner.Folders.{Entries, Place, place_cmp}

-- a directory and a name in it, and the inode that it names
abbrev pub Entry : Type 0
Entry = Place × ℕ

abbrev pub entry_code : Coded Entry
entry_code = coded× (coded× coded_ℕ (coded_list coded_ℕ)) coded_ℕ

-- the places rise
abbrev pub IsRising : List Entry → Type 0
IsRising entries = T (is_sorted place_cmp entries)

-- how many entries stand before the first whose place is behind this one
abbrev pub count_to : Place → List Entry → ℕ
count_to place [] = 0
count_to place (entry ∷ entries) = if is_lt (place_cmp place entry.0) then 0 else suc (count_to place entries)

-- the entries of all directories, one directory's behind another's: the number of the list, none where there is no entry, the nodes of
-- the index, and for how many it has memory
pub record Children : Type 0 where
  pub list : Option ℕ
  pub nodes : List ℕ
  pub capacity : ℕ

abbrev pub children_code : Coded Children
children_code = code_by (Option ℕ × (List ℕ × ℕ)) (coded× (coded_option coded_ℕ) (coded× (coded_list coded_ℕ) coded_ℕ)) (λ c. (c.list, (c.nodes, c.capacity))) (λ p. record { list = p.0; nodes = p.1.0; capacity = p.1.1 }) (λ _. refl)

abbrev pub no_children : Children
no_children = record { list = None; nodes = []; capacity = 0 }

-- ---- what the lists tell

abbrev pub entry_of : Table Entry → ℕ → Entry
entry_of t node = unwrap_or (map.get t.values node) ((0, []), 0)

abbrev pub entries_of : Table Entry → Children → List Entry
entries_of t children = mapped (entry_of t) children.nodes

abbrev pub folder_of : Table Entry → Children → Entries
folder_of t children = map.from_entries (entries_of t children)

-- ---- what holds of them

-- where there are entries there is a list, of just the nodes of the index, and the places rise
pub record Keeps (t : Table Entry) (children : Children) : Type 0 where
  pub listed : (list : ℕ) → children.list ≡ Some list → map.get t.lists list ≡ Some children.nodes
  pub some : (list : ℕ) → children.list ≡ Some list → 0 < length children.nodes
  pub none : children.list ≡ None → children.nodes ≡ []
  pub rising : IsRising (entries_of t children)

-- and no other list, and no other node
pub record KeepsAll (t : Table Entry) (children : Children) : Type 0 where
  pub keeps : Keeps t children
  pub owned : (list : ℕ) → ContainsList t list → children.list ≡ Some list
  pub used : (node : ℕ) → ContainsNode t node → Contains children.nodes node

-- the children became others, whose list is the same, a new one or none; other lists and their entries are as before, and
-- no node is left in no list
pub record Turns (t new : Table Entry) (children now : Children) : Type 0 where
  pub keeps : Keeps new now
  pub others : (list : ℕ) → children.list ≢ Some list → now.list ≢ Some list → map.get new.lists list ≡ map.get t.lists list
  pub made : (list : ℕ) → now.list ≡ Some list → (children.list ≡ Some list) ⊎ (map.get t.lists list ≡ None)
  pub freed : (list : ℕ) → children.list ≡ Some list → (now.list ≡ Some list) ⊎ (map.get new.lists list ≡ None)
  pub values : (list node : ℕ) → children.list ≢ Some list → IsIn t list node → map.get new.values node ≡ map.get t.values node
  pub added : (node : ℕ) → ContainsNode new node → Contains now.nodes node ⊎ ContainsNode t node
  pub stays : (node : ℕ) → Contains children.nodes node → ContainsNode new node → Contains now.nodes node
