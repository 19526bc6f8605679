use Rattle.std.proofs.Common.{ap, sym, ◌∙◌}
use Rattle.std.specs.FinMap as map
use Rattle.qx_names.specs.inner.Children.{entries_of}
use Rattle.qx_names.specs.inner.Folders.{Entries}
use Rattle.qx_names.proofs.RisingLemmas.{place_total}
use Rattle.qx_names.proofs.folders.Folders.rename.Goals as goal

pub rename-requires-clause-new : goal.rename-requires-clause-new
rename-requires-clause-new c = sym (map.get-from_entries place_total (entries_of c.self.inside.table c.self.inside.children) (c.args.target, c.args.next.now)) ∙ ap (λ (m : Entries). map.get m (c.args.target, c.args.next.now)) c.self.view_is ∙ c.requires.new

pub returns-clause-renamed : goal.returns-clause-renamed
returns-clause-renamed c inode there =
    c.rename.ensures.renamed inode (sym (map.get-from_entries place_total (entries_of c.self.inside.table c.self.inside.children) (c.args.directory, c.args.name.now)) ∙ ap (λ (m : Entries). map.get m (c.args.directory, c.args.name.now)) c.self.view_is ∙ there)
    ∙ ap (λ (m : Entries). map.insert (map.remove m (c.args.directory, c.args.name.now)) (c.args.target, c.args.next.now) inode) c.self.view_is

pub returns-clause-missing : goal.returns-clause-missing
returns-clause-missing c none =
    c.rename.ensures.missing (sym (map.get-from_entries place_total (entries_of c.self.inside.table c.self.inside.children) (c.args.directory, c.args.name.now)) ∙ ap (λ (m : Entries). map.get m (c.args.directory, c.args.name.now)) c.self.view_is ∙ none)
    ∙ c.self.view_is
