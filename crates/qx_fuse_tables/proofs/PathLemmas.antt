-- A path, one name further up.
use Rattle.std.proofs.Common.{◌≡◌, ◌≢◌, ◌∙◌, ℕ, zero, suc, ◌-◌, ◌<◌, Bool, cond, List, ap, arith, Option, Some, None}
use Rattle.std.specs.Prelude.{option_map}
use Rattle.std.proofs.lemmas.Bool.{eq-eqb, ne_eqb}
use Rattle.qx_types.specs.Optional.{◌>>=◌}
use Rattle.qx_fuse_tables.specs.declared.change.Node.{Node}
use Rattle.qx_fuse_tables.specs.Nodes.{NodeRows, behind, named, path_from}

-- the path of the node above a node, and its name behind that
abbrev further : ℕ → NodeRows → List ℕ → Node → Option (List ℕ)
further names nodes top node = option_map (λ path. behind path node.name) (path_from names nodes top node.directory)

pub path_top : (names : ℕ) (nodes : NodeRows) (top : List ℕ) (number : ℕ) → number ≡ 1 → path_from names nodes top number ≡ Some top
unfolding path_from
path_top zero nodes top number is = ap (λ (b : Bool). cond b (Some top) None) (eq-eqb number 1 is)
path_top (suc names) nodes top number is = ap (λ (b : Bool). cond b (Some top) (named nodes number >>= λ node. further names nodes top node)) (eq-eqb number 1 is)

pub path_none : (nodes : NodeRows) (top : List ℕ) (number names : ℕ) → number ≢ 1 → names ≡ 0 → path_from names nodes top number ≡ None
unfolding path_from
path_none nodes top number zero other none = ap (λ (b : Bool). cond b (Some top) None) (ne_eqb number 1 other)
path_none nodes top number (suc names) other none = absurd (omega arith)

path_more : (names : ℕ) (nodes : NodeRows) (top : List ℕ) (number : ℕ) → number ≢ 1 → 0 < names
    → path_from names nodes top number ≡ (named nodes number >>= λ node. further (names - 1) nodes top node)
unfolding path_from
path_more zero nodes top number other some = absurd (omega arith)
path_more (suc names) nodes top number other some =
    let same : names ≡ suc names - 1 = omega arith in
    ap (λ (b : Bool). cond b (Some top) (named nodes number >>= λ node. further names nodes top node)) (ne_eqb number 1 other)
    ∙ ap (λ (k : ℕ). named nodes number >>= λ node. further k nodes top node) same

pub path_nowhere : (names : ℕ) (nodes : NodeRows) (top : List ℕ) (number : ℕ) → number ≢ 1 → 0 < names → named nodes number ≡ None → path_from names nodes top number ≡ None
path_nowhere names nodes top number other some is =
    path_more names nodes top number other some ∙ ap (λ (found : Option Node). found >>= λ node. further (names - 1) nodes top node) is

pub path_below : (names : ℕ) (nodes : NodeRows) (top : List ℕ) (number : ℕ) (node : Node) → number ≢ 1 → 0 < names → named nodes number ≡ Some node
    → path_from names nodes top number ≡ option_map (λ path. behind path node.name) (path_from (names - 1) nodes top node.directory)
path_below names nodes top number node other some is =
    path_more names nodes top number other some ∙ ap (λ (found : Option Node). found >>= λ node. further (names - 1) nodes top node) is
