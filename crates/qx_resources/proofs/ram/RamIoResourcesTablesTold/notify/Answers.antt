use Rattle.std.proofs.lemmas.Result.{on_err_weaker}
use Rattle.std.specs.Prelude.{[]}
use Rattle.qx_resources.proofs.KeptLemmas.{events-wanted}
use Rattle.qx_resources.specs.State.{told}
use Rattle.qx_resources.proofs.ram.RamIoResourcesTablesTold.notify.Goals as goal

pub returns-clause-wanted : goal.returns-clause-wanted
returns-clause-wanted c = on_err_weaker c.notify.result (events-wanted (told c.args.state.now c.args.tables.now) c.args.opened [] _) c.notify.ensures.wanted
