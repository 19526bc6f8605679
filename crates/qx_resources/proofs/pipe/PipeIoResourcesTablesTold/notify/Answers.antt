use Rattle.std.proofs.lemmas.Result.{on_err_weaker}
use Rattle.std.specs.Prelude.{[]}
use Rattle.qx_resources.proofs.KeptLemmas.{pipe-wanted}
use Rattle.qx_resources.specs.State.{told}
use Rattle.qx_resources.proofs.pipe.PipeIoResourcesTablesTold.notify.Goals as goal

pub returns-clause-wanted : goal.returns-clause-wanted
returns-clause-wanted c = on_err_weaker c.notify.result (pipe-wanted (told c.args.state.now c.args.tables.now) c.args.opened [] c.args.self.now.device _) c.notify.ensures.wanted
