use Rattle.std.proofs.Common.{◌∙◌, ap, sym}
use Rattle.qx_machine.specs.declared.rows.WaitingCall.{WaitingCall}
use Rattle.qx_machine.specs.Pipes.{Pipe, clean, removed}
use Rattle.qx_machine.specs.Waiting.{is_gone, offered, wanted}
use Rattle.qx_shared.specs.Shared.{pipe_at}
use Rattle.qx_pipe.proofs.AfterLemmas.{nothing-done, nothing-went}
use Rattle.qx_pipe.proofs.TurnLemmas.{clean-alone, pipe-then, settle-device}
use Rattle.qx_pipe.proofs.pipe.clean_others.Goals as goal

pub returns-else-others-clause-after : goal.returns-else-others-clause-after
returns-else-others-clause-after c = nothing-done c.args.shared.now c.args.user.0 c.args.inode c.requires.pipe _ (clean-alone _ (c.requires.alone c.if-others.false))

pub returns-else-others-clause-filled : goal.returns-else-others-clause-filled
returns-else-others-clause-filled c = c.if-others.false ∙ nothing-went c.args.shared.now c.args.user.0 c.args.inode c.requires.pipe _ (clean-alone _ (c.requires.alone c.if-others.false))

pub returns-then-others-clause-device : goal.returns-then-others-clause-device
returns-then-others-clause-device c =
    let p = pipe_at c.args.shared.now c.args.user.0 c.args.inode in
    c.requires.device ∙ sym (ap (λ (p : Pipe WaitingCall). p.device) (pipe-then c.args.shared.now c.clean_of.new.shared c.args.user.0 c.args.inode c.requires.pipe (clean wanted offered is_gone p) c.clean_of.ensures.after) ∙ settle-device (removed is_gone p))
