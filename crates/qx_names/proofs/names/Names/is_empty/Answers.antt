use Rattle.std.proofs.Common.{ap, sym, ◌∙◌}
use Rattle.qx_machine.specs.Names as machine
use Rattle.qx_names.proofs.NamesLemmas.{folder_names}
use Rattle.qx_names.proofs.names.Names.is_empty.Goals as goal

pub returns : goal.returns
returns c = record { empty = c.is_empty.ensures.empty ∙ sym (ap machine.is_empty (folder_names c.self.inside.roots.items c.self.inside.folders c.self.inside.kept c.args.self.now c.self.view_is c.args.directory)) }
