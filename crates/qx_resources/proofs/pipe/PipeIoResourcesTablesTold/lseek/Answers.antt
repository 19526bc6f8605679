use Rattle.std.proofs.Common.{[], Err, refl, subst, sym}
use Rattle.qx_machine.specs.PipeManager.{seek_pipe}
use Rattle.qx_resmgr.specs.Deeds.{Did}
use Rattle.qx_resources.proofs.KeptLemmas.{refused}
use Rattle.qx_resources.specs.State.{state, told}
use Rattle.qx_resources.proofs.pipe.PipeIoResourcesTablesTold.lseek.Goals as goal

pub returns-clause-did : goal.returns-clause-did
returns-clause-did c =
    let tables = c.args._tables.now in
    rw (c.in_ok-opened.was)
    (subst (λ k. Did state k tables k tables [] (Err c.seek.result) (seek_pipe (told k tables) c.in_ok-opened.field-0 c.args._whence c.args._offset)) c.state.view_is
    (refused c.state.inside.store c.state.inside.store tables [] c.seek.result _ (λ r. sym (c.seek.ensures.refused r c.args._whence c.args._offset)) refl refl))
