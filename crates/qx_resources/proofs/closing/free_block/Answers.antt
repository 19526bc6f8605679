use Rattle.std.proofs.Common.{◌≡◌, [], refl}
use Rattle.qx_machine.specs.Managers.{own_kind}
use Rattle.qx_pipes.specs.Pipes.{kind_with}
use Rattle.qx_resources.proofs.KeptLemmas.{came}
use Rattle.qx_resources.proofs.closing.free_block.Goals as goal
use Rattle.qx_resources.proofs.closing.free_block.Goals.{in-Pipe, in-Device}

pub returns-clause-came : goal.returns-clause-came
returns-clause-came c =
    let own : own_kind c.args.manager ≡ kind_with c.match-manager.device = elim c.match-manager.branch [
      | in-Pipe w ↦ rw (w.in-Pipe.is, w.device-is) refl
      | in-Device w ↦ rw (w.in-Device.is, w.device-is) refl
    ] in
    rw (own, ← c.state.view_is)
    (came c.args.tables.now.mounts c.state.inside.store.stored c.close-2.new.store.stored c.args.tables.now.shared c.close-2.new.shared c.args.tables.now.events [] c.close-2.result _
    c.close-2.ensures.left c.close-2.ensures.done c.close-2.ensures.user)
