use Rattle.std.proofs.Common.{ap, sym, ◌∙◌}
use Rattle.std.specs.FinMap as map
use Rattle.qx_machine.specs.Names.{is_empty}
use Rattle.qx_names.specs.inner.Children.{entries_of}
use Rattle.qx_names.specs.inner.Folders.{Entries, names_of}
use Rattle.qx_names.proofs.RisingLemmas.{entries-from}
use Rattle.qx_names.proofs.folders.Folders.is_empty.Goals as goal

pub returns : goal.returns
returns c = record {
  empty = c.is_empty.ensures ∙ ap (λ es. is_empty (names_of c.args.directory es)) (sym (entries-from (entries_of c.self.inside.table c.self.inside.children) c.self.invariant.keeps.rising) ∙ ap (λ (m : Entries). map.entries m) c.self.view_is);
}
