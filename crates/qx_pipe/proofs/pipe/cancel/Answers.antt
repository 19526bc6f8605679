use Rattle.qx_base.specs.declared.errno.Errno.TheVariants.{EINTR}
use Rattle.qx_types.specs.declared.outcome.Answer.TheVariants.{Failed}
use Rattle.qx_machine.specs.Waiting.{is_call, is_gone, offered, wanted}
use Rattle.qx_machine.specs.Pipes.{clean, dismissed, settle}
use Rattle.qx_pipe.proofs.AfterLemmas.{done-nothing, done-quietly, done-then, went_in-dismissed}
use Rattle.qx_pipe.proofs.pipe.cancel.Goals as goal

pub returns : goal.returns
returns c =
    let cleaning = done-then (done-nothing c.args.shared.now c.args.user.0 c.args.inode c.requires.pipe) (λ p. clean wanted offered is_gone p) c.clean-before.ensures.after c.clean-before.ensures.filled in
    let asking = done-quietly cleaning (λ p. dismissed (is_call c.args.process c.args.thread c.args.call) (Failed EINTR) p) c.dismiss.ensures.after (λ p. went_in-dismissed (is_call c.args.process c.args.thread c.args.call) EINTR p) in
    let settling = done-then asking (λ p. settle wanted offered p) c.settle-after.ensures.after c.settle-after.ensures.filled in
    record { after = settling.is; filled = settling.went }
