use Rattle.std.proofs.Common.{rules}
use Rattle.qx_resources.proofs.KeptLemmas.{told_at_once}
use Rattle.qx_resources.proofs.ToldLemmas.{read-keeps}
use Rattle.qx_resources.proofs.pipe.PipeIoResourcesTablesTold.read.Goals as goal

pub returns-clause-did : goal.returns-clause-did
returns-clause-did c =
    rw (c.in_ok-opened.was, ← c.state.view_is)
    (told_at_once c.args.tables.now.mounts c.state.inside.store.stored c.read.new.store.stored c.args.tables.now.shared c.read.new.shared c.args.tables.now.events c.read.new.reply c.read.result c.map.result _
    c.read.ensures.left c.read.ensures.done c.read.ensures.bytes (read-keeps _ c.in_ok-opened.field-0 c.args.count) c.read.ensures.user (search rules))
