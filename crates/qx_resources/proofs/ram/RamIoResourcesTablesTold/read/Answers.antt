use Rattle.std.proofs.Common.{rules}
use Rattle.qx_resources.proofs.KeptLemmas.{replied_alone}
use Rattle.qx_resources.proofs.ram.RamIoResourcesTablesTold.read.Goals as goal

pub returns-clause-did : goal.returns-clause-did
returns-clause-did c =
    rw (c.in_ok-opened.was, ← c.state.view_is)
    (replied_alone c.state.inside.store c.read.new.store c.args._tables.now c.read.new.reply c.read.result c.map.result _
    c.read.ensures.read c.read.ensures.user (search rules) (search rules))
