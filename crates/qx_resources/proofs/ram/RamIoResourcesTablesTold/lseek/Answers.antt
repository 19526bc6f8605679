use Rattle.std.proofs.Common.{rules, [], to_z-of_z}
use Rattle.qx_resources.proofs.KeptLemmas.{replied_alone}
use Rattle.qx_resources.proofs.ram.RamIoResourcesTablesTold.lseek.Goals as goal

pub returns-clause-did : goal.returns-clause-did
returns-clause-did c =
    rw (← to_z-of_z c.ranges.offset, c.in_ok-opened.was, ← c.state.view_is)
    (replied_alone c.state.inside.store c.seek.new.store c.args._tables.now [] c.seek.result c.map.result _
    c.seek.ensures.moved c.seek.ensures.user (search rules) (search rules))
