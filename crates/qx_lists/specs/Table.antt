-- What a contract sees of a `Table`: lists of nodes, and each node's value.
use Rattle.std.specs.Prelude.{ℕ, ◌==◌, List, [], ◌∷◌, filter, not, if◌then◌else◌, Option, Some, None, slice_get, unwrap_or, refl, Contains, IsTrue}
use Rattle.std.specs.FinMap as map
use Rattle.std.specs.Ordering.{nat_cmp}
use Rattle.std.specs.Coded.{Coded, code_by, coded×, coded_ℕ, coded_list}

-- the nodes of each list, the value of each node, and for how many more nodes room is kept
pub record Table (T : Type 0) : Type 0 where
  pub lists : map.FinMap nat_cmp (List ℕ)
  pub values : map.FinMap nat_cmp T
  pub room : ℕ

-- a table is stored as the tuple of its fields
abbrev pub table_code : {T : Type 0} → Coded T → Coded (Table T)
table_code {T} code =
    code_by
    (map.FinMap nat_cmp (List ℕ) × (map.FinMap nat_cmp T × ℕ))
    (coded× (map.code coded_ℕ (coded_list coded_ℕ)) (coded× (map.code coded_ℕ code) coded_ℕ))
    (λ t. (t.lists, (t.values, t.room)))
    (λ p. record { lists = p.0; values = p.1.0; room = p.1.1 })
    (λ _. refl)

-- the list with the node before the first place of another
abbrev pub put_before : ℕ → ℕ → List ℕ → List ℕ
put_before node at [] = []
put_before node at (first ∷ rest) = if first == at then node ∷ first ∷ rest else first ∷ put_before node at rest

-- the list without the node
abbrev pub without : ℕ → List ℕ → List ℕ
without node nodes = filter (λ other. not (other == node)) nodes

-- the node right after the first place of another, if there is one
abbrev pub next_after : ℕ → List ℕ → Option ℕ
next_after node [] = None
next_after node (first ∷ rest) = if first == node then slice_get rest 0 else next_after node rest

-- none of the lists has the node
unfoldable pub StandsNowhere : map.FinMap nat_cmp (List ℕ) → ℕ → Type 0
StandsNowhere lists node = (list : ℕ) → ¬ (Contains (unwrap_or (map.get lists list) []) node)

module _ {T : Type 0} where
  abbrev pub ContainsList : Table T → ℕ → Type 0
  ContainsList t list = IsTrue (map.contains_key t.lists list)

  abbrev pub ContainsNode : Table T → ℕ → Type 0
  ContainsNode t node = IsTrue (map.contains_key t.values node)

  -- the nodes of a list from its first to its last, none where there is no such list
  abbrev pub nodes_of : Table T → ℕ → List ℕ
  nodes_of t list = unwrap_or (map.get t.lists list) []

  -- the node stands in the list
  abbrev pub IsIn : Table T → ℕ → ℕ → Type 0
  IsIn t list node = Contains (nodes_of t list) node

  -- a place of the list: before a node of it, or its end
  abbrev pub IsPlace : Table T → ℕ → Option ℕ → Type 0
  IsPlace t list None = ContainsList t list
  IsPlace t list (Some node) = IsIn t list node

  -- the node is there and stands in no list
  pub record IsFree (t : Table T) (node : ℕ) : Type 0 where
    pub there : ContainsNode t node
    pub in_no_list : StandsNowhere t.lists node

  -- the table with other nodes in one list
  abbrev pub with_nodes : Table T → ℕ → List ℕ → Table T
  with_nodes t list nodes = record t { lists = map.insert t.lists list nodes }

  -- the table with another value of one node
  abbrev pub with_value : Table T → ℕ → T → Table T
  with_value t node value = record t { values = map.insert t.values node value }
