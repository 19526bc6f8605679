use Rattle.std.proofs.Common.{◌≡◌, ◌∙◌, ℕ, ◌-◌, ◌<◌, List, Option, None, Some, ap, arith, sym}
use Rattle.std.specs.Prelude.{option_map}
use Rattle.qx_fuse_tables.specs.Nodes.{behind, path_from}
use Rattle.qx_fuse_tables.proofs.PathLemmas.{path_below}
use Rattle.qx_fuse_tables.proofs.paths.+path_from.Goals as goal

pub returns-in_ok-with_name-in-Some-2 : goal.returns-in_ok-with_name-in-Some-2
returns-in_ok-with_name-in-Some-2 t c =
    let node = c.in-Some.node.now in
    let some : 0 < c.args.names = omega (arith, c.if-names-eq0.false) in
    let whole = path_below c.args.names c.args.places.now c.args.top.now c.args.number node c.if-number-eq-TOP.false some (sym c.in-Some.ensures) in
    let above : Some c.in-Some-2.path.items ≡ path_from (c.args.names - 1) c.args.places.now c.args.top.now node.directory = rw c.in-Some-2.is at c.in_ok-path.ensures in
    ap Some (c.in_ok-with_name-in-Some-2.ensures ∙ ap (λ (name : List ℕ). behind c.in-Some-2.path.items name) c.as_slice.ensures)
    ∙ (ap (λ (path : Option (List ℕ)). option_map (λ path. behind path node.name) path) above ∙ sym whole)

pub returns-in-None : goal.returns-in-None
returns-in-None t c =
    let node = c.in-Some.node.now in
    let some : 0 < c.args.names = omega (arith, c.if-names-eq0.false) in
    let whole = path_below c.args.names c.args.places.now c.args.top.now c.args.number node c.if-number-eq-TOP.false some (sym c.in-Some.ensures) in
    let above : None ≡ path_from (c.args.names - 1) c.args.places.now c.args.top.now node.directory = rw c.in-None.is at c.in_ok-path.ensures in
    ap (λ (path : Option (List ℕ)). option_map (λ path. behind path node.name) path) above ∙ sym whole
