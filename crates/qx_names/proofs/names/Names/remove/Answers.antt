use Rattle.std.proofs.Common.{◌≡◌, sym, subst, IfSome}
use Rattle.std.specs.FinMap as map
use Rattle.qx_machine.specs.Names as machine
use Rattle.qx_names.specs.Paths.{HasNoPath, HasPath, path_of}
use Rattle.qx_names.proofs.NamesLemmas.{remove_shows, removed_others, removed_unnamed}
use Rattle.qx_names.proofs.ShowsLemmas.{names_are}
use Rattle.qx_names.proofs.names.Names.remove.Goals as goal

pub invariant_of-self-inside : goal.invariant_of-self-inside
invariant_of-self-inside c =
    ((_, remove_shows c.self.inside.roots.items c.self.inside.folders c.self.inside.kept c.args.self.now c.self.view_is c.take.new.self c.args.directory c.args.name.now c.requires.directory c.requires.empty c.take.ensures.taken), tt)

pub returns-clause-removed : goal.returns-clause-removed
returns-clause-removed c =
    names_are _ _ _ _ (remove_shows c.self.inside.roots.items c.self.inside.folders c.self.inside.kept c.args.self.now c.self.view_is c.take.new.self c.args.directory c.args.name.now c.requires.directory c.requires.empty c.take.ensures.taken)

pub returns-clause-unnamed : goal.returns-clause-unnamed
returns-clause-unnamed c =
    subst (λ (names : machine.Names). IfSome (map.get c.args.self.now (machine.under (path_of c.args.self.now c.args.directory) c.args.name.now)) (HasNoPath names)) (sym (returns-clause-removed c))
    (removed_unnamed c.self.inside.roots.items c.self.inside.folders c.self.inside.kept c.args.self.now c.self.view_is c.take.new.self c.args.directory c.args.name.now c.requires.directory c.requires.empty c.take.ensures.taken)

pub returns-clause-others : goal.returns-clause-others
returns-clause-others c other led apart =
    subst (λ (names : machine.Names). HasPath names other × (path_of names other ≡ path_of c.args.self.now other)) (sym (returns-clause-removed c))
    (removed_others c.self.inside.roots.items c.self.inside.folders c.self.inside.kept c.args.self.now c.self.view_is c.take.new.self c.args.directory c.args.name.now c.requires.directory c.requires.empty c.take.ensures.taken other led apart)
