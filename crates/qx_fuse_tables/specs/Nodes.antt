-- The nodes of one user: a number for each name that the kernel was told.
use Rattle.std.specs.Prelude.{◌≡◌, ℕ, zero, suc, ◌+◌, ◌-◌, ◌^◌, ◌≤◌, ◌==◌, ◌&&◌, Bool, true, false, not, min, List, [], ◌∷◌, ◌++◌, Option, Some, None, drop, if◌then◌else◌, length, option_map, position, unwrap_or}
use Rattle.std.specs.List.{list_any}
use Rattle.std.specs.Str.{bytes_eq}
use Rattle.qx_types.specs.Optional.{◌>>=◌}
use Rattle.qx_isolation.specs.Rows.{put_row, row_at, with_row}
use Rattle.qx_fuse_tables.specs.declared.change.Change.{Change}
use Rattle.qx_fuse_tables.specs.declared.change.Change.TheVariants.{Told, Forgotten, Unnamed, Moved}
use Rattle.qx_fuse_tables.specs.declared.change.Node.{Node}
use Rattle.qx_fuse_tables.specs.declared.handles.Kind.{Kind}
use Rattle.qx_fuse_tables.specs.Handles.{HandleRows, is_open}

-- a place for each number, of which 0 and 1 are no node's; the user's top directory has the number 1
abbrev pub NodeRows : Type 0
NodeRows = List (Option Node)

-- ---- a change of a node

abbrev pub changed : Change → Node → Node
changed (Told kind) node = record node { lookups = min (node.lookups + 1) (2 ^ 64 - 1); kind = kind }
changed (Forgotten lookups) node = record node { lookups = node.lookups - lookups }
changed Unnamed node = record node { is_named = false }
changed (Moved directory name) node = record node { directory = directory; name = name }

-- that of a number, if one is given
abbrev pub changed_at : NodeRows → Change → Option ℕ → NodeRows
changed_at nodes change None = nodes
changed_at nodes change (Some number) = with_row nodes number (changed change)

-- ---- names

abbrev pub is_in : ℕ → Option Node → Bool
is_in directory None = false
is_in directory (Some node) = node.is_named && (node.directory == directory)

abbrev pub has_names : NodeRows → ℕ → Bool
has_names nodes directory = list_any (λ place. is_in directory place) nodes

abbrev pub is_called : ℕ → List ℕ → Option Node → Bool
is_called directory name None = false
is_called directory name (Some node) = (node.is_named && (node.directory == directory)) && bytes_eq node.name name

-- the number of a name in a directory
abbrev pub number_of : NodeRows → ℕ → List ℕ → Option ℕ
number_of nodes directory name = position (λ place. is_called directory name place) nodes

-- ---- numbers that are free

-- the kernel has forgotten it, it isn't open, and no name stands in it
abbrev pub is_unneeded : NodeRows → HandleRows → ℕ → Option Node → Bool
is_unneeded nodes handles number None = true
is_unneeded nodes handles number (Some node) = ((node.lookups == 0) && not (is_open handles number)) && not (has_names nodes number)

abbrev pub is_idle : NodeRows → HandleRows → ℕ → Bool
is_idle nodes handles number = is_unneeded nodes handles number (row_at nodes number)

-- the first number, from that of these places on, whose place is not needed
abbrev pub first_idle : NodeRows → HandleRows → ℕ → List (Option Node) → ℕ
first_idle nodes handles number [] = number
first_idle nodes handles number (place ∷ places) = if is_unneeded nodes handles number place then number else first_idle nodes handles (number + 1) places

abbrev pub free_number : NodeRows → HandleRows → ℕ
free_number nodes handles = first_idle nodes handles 2 (drop 2 nodes)

-- ---- what the kernel is told

abbrev pub new_node : ℕ → List ℕ → Kind → Node
new_node directory name kind = record { directory = directory; name = name; is_named = true; kind = kind; lookups = 1 }

abbrev pub number_for : NodeRows → HandleRows → ℕ → List ℕ → ℕ
number_for nodes handles directory name = unwrap_or (number_of nodes directory name) (free_number nodes handles)

abbrev pub told_at : NodeRows → HandleRows → ℕ → List ℕ → Kind → Option ℕ → NodeRows
told_at nodes handles directory name kind None = put_row nodes (free_number nodes handles) (new_node directory name kind)
told_at nodes handles directory name kind (Some number) = with_row nodes number (changed (Told kind))

-- a name that has a node is told once more, and another one gets a node
abbrev pub looked_up : NodeRows → HandleRows → ℕ → List ℕ → Kind → NodeRows
looked_up nodes handles directory name kind = told_at nodes handles directory name kind (number_of nodes directory name)

-- ---- names that go and change

abbrev pub removed : NodeRows → ℕ → List ℕ → NodeRows
removed nodes directory name = changed_at nodes Unnamed (number_of nodes directory name)

abbrev pub moved : NodeRows → ℕ → List ℕ → ℕ → List ℕ → NodeRows
moved nodes directory name to other = changed_at nodes (Moved to other) (number_of nodes directory name)

-- what had the other name before loses it; a name that becomes itself stays
abbrev pub renamed : NodeRows → ℕ → List ℕ → ℕ → List ℕ → NodeRows
renamed nodes directory name to other = if (directory == to) && bytes_eq name other then nodes else moved (removed nodes to other) directory name to other

-- ---- paths

abbrev pub named : NodeRows → ℕ → Option Node
named nodes number = row_at nodes number >>= λ node. if node.is_named then Some node else None

-- '/' and a name behind a path
abbrev pub behind : List ℕ → List ℕ → List ℕ
behind path name = (path ++ 47 ∷ []) ++ name

-- the path of a node that lies at most so many names below the top directory, if no name on the way was removed
unfoldable pub path_from : ℕ → NodeRows → List ℕ → ℕ → Option (List ℕ)
path_from zero nodes top number = if number == 1 then Some top else None
path_from (suc names) nodes top number =
    if number == 1 then Some top else (named nodes number >>= λ node. option_map (λ path. behind path node.name) (path_from names nodes top node.directory))

-- a path of 1,024 bytes has at most 512 names
abbrev pub path_of : NodeRows → List ℕ → ℕ → Option (List ℕ)
path_of nodes top number = path_from 512 nodes top number

abbrev pub path_in : NodeRows → List ℕ → ℕ → List ℕ → Option (List ℕ)
path_in nodes top directory name = option_map (λ path. behind path name) (path_of nodes top directory)

-- ---- a law

-- a name that the kernel is told has the number that it is told
abbrev pub ToldIsFound : Type 0
ToldIsFound =
    (nodes : NodeRows) (handles : HandleRows) (directory : ℕ) (name : List ℕ) (kind : Kind) → 2 ≤ length nodes
    → number_of (looked_up nodes handles directory name kind) directory name ≡ Some (number_for nodes handles directory name)
