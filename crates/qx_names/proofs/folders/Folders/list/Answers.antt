use Rattle.std.proofs.Common.{◌≡◌, List, ℕ, length, ap, sym, ◌∙◌}
use Rattle.std.specs.FinMap as map
use Rattle.qx_machine.specs.Names.{names_behind, fitting, listing}
use Rattle.qx_types.specs.declared.limits.TheConstants.Limits.{TRANSFER}
use Rattle.qx_names.specs.inner.Children.{entries_of}
use Rattle.qx_names.specs.inner.Folders.{Entries, names_of}
use Rattle.qx_names.proofs.RisingLemmas.{entries-from}
use Rattle.qx_names.proofs.folders.Folders.list.Goals as goal

shown : (c : goal.After-list) → entries_of c.self.inside.table c.self.inside.children ≡ map.entries c.args.self.now
shown c = sym (entries-from (entries_of c.self.inside.table c.self.inside.children) c.self.invariant.keeps.rising) ∙ ap (λ (m : Entries). map.entries m) c.self.view_is

abbrev listed_of : List ℕ → List (List ℕ) → List (List ℕ)
listed_of after names = fitting TRANSFER (names_behind after names)

pub returns-clause-names : goal.returns-clause-names
returns-clause-names c = c.list.ensures.names ∙ ap (λ es. listing (listed_of c.args.after.now (names_of c.args.directory es))) (shown c)

pub returns-clause-count : goal.returns-clause-count
returns-clause-count c = c.list.ensures.count ∙ ap (λ es. length (listed_of c.args.after.now (names_of c.args.directory es))) (shown c)
