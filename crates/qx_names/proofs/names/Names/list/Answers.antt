use Rattle.std.proofs.Common.{List, ℕ, length, ap, sym, ◌∙◌}
use Rattle.qx_machine.specs.Names as machine
use Rattle.qx_types.specs.declared.limits.TheConstants.Limits.{TRANSFER}
use Rattle.qx_names.proofs.NamesLemmas.{folder_names}
use Rattle.qx_names.proofs.names.Names.list.Goals as goal

abbrev listed_of : List ℕ → List (List ℕ) → List (List ℕ)
listed_of after names = machine.fitting TRANSFER (machine.names_behind after names)

pub returns-clause-names : goal.returns-clause-names
returns-clause-names c =
    c.list.ensures.names ∙ sym (ap (λ names. machine.listing (listed_of c.args.after.now names)) (folder_names c.self.inside.roots.items c.self.inside.folders c.self.inside.kept c.args.self.now c.self.view_is c.args.directory))

pub returns-clause-count : goal.returns-clause-count
returns-clause-count c =
    c.list.ensures.count ∙ sym (ap (λ names. length (listed_of c.args.after.now names)) (folder_names c.self.inside.roots.items c.self.inside.folders c.self.inside.kept c.args.self.now c.self.view_is c.args.directory))
