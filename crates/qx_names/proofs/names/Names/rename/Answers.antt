use Rattle.qx_names.proofs.NamesLemmas.{free_entry, rename_shows}
use Rattle.qx_names.proofs.ShowsLemmas.{names_are}
use Rattle.qx_names.proofs.names.Names.rename.Goals as goal

pub rename-requires-clause-new : goal.rename-requires-clause-new
rename-requires-clause-new c = free_entry c.self.inside.roots.items c.self.inside.folders c.self.inside.kept c.args.self.now c.self.view_is c.args.target c.args.next.now c.requires.target c.requires.free

pub invariant_of-self-inside : goal.invariant_of-self-inside
invariant_of-self-inside c =
    ((_, rename_shows c.self.inside.roots.items c.self.inside.folders c.self.inside.kept c.args.self.now c.self.view_is c.rename.new.self c.args.directory c.args.target c.args.name.now c.args.next.now c.requires.directory c.requires.target c.requires.there.0 c.requires.there.1 c.requires.free c.requires.outside c.rename.ensures.renamed), tt)

pub returns : goal.returns
returns c = record {
  moved = names_are _ _ _ _ (rename_shows c.self.inside.roots.items c.self.inside.folders c.self.inside.kept c.args.self.now c.self.view_is c.rename.new.self c.args.directory c.args.target c.args.name.now c.args.next.now c.requires.directory c.requires.target c.requires.there.0 c.requires.there.1 c.requires.free c.requires.outside c.rename.ensures.renamed);
}
