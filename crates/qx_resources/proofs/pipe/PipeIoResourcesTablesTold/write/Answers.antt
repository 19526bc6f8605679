use Rattle.std.proofs.Common.{[], rules, sym}
use Rattle.qx_resources.proofs.KeptLemmas.{told_at_once}
use Rattle.qx_resources.proofs.ToldLemmas.{write-keeps}
use Rattle.qx_resources.proofs.pipe.PipeIoResourcesTablesTold.write.Goals as goal

pub returns-clause-did : goal.returns-clause-did
returns-clause-did c =
    rw (c.in-Ok.is, ← c.state.view_is)
    (told_at_once c.args.tables.now.mounts c.state.inside.store.stored c.write.new.store.stored c.args.tables.now.shared c.write.new.shared c.args.tables.now.events [] c.write.result c.map.result _
    c.write.ensures.left c.write.ensures.done (λ r. sym (c.write.ensures.bytes r)) (write-keeps _ c.in-Ok.opened c.args.bytes.now) c.write.ensures.user (search rules))
