use Rattle.std.proofs.Common.{ap, sym, ◌∙◌}
use Rattle.std.specs.FinMap as map
use Rattle.qx_names.specs.inner.Children.{entries_of}
use Rattle.qx_names.specs.inner.Folders.{Entries}
use Rattle.qx_names.proofs.RisingLemmas.{place_total}
use Rattle.qx_names.proofs.folders.Folders.put.Goals as goal

pub insert-requires-clause-new : goal.insert-requires-clause-new
insert-requires-clause-new c = sym (map.get-from_entries place_total (entries_of c.self.inside.table c.self.inside.children) (c.args.directory, c.args.name.now)) ∙ ap (λ (m : Entries). map.get m (c.args.directory, c.args.name.now)) c.self.view_is ∙ c.requires.new
