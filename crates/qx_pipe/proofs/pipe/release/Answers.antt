use Rattle.std.proofs.Common.{◌≡◌, ◌∙◌, ap, refl, ◌==◌}
use Rattle.qx_base.specs.declared.errno.Errno.TheVariants.{EBADF}
use Rattle.qx_types.specs.declared.outcome.Answer.TheVariants.{Failed}
use Rattle.qx_machine.specs.Waiting.{is_gone, offered, wanted}
use Rattle.qx_machine.specs.Pipes.{clean, dismissed, readers_ended, settle, without_bytes, writers_ended}
use Rattle.qx_machine.specs.Verdicts.{sides_at}
use Rattle.qx_shared.specs.Shared.{pipe_at}
use Rattle.qx_pipe.proofs.AfterLemmas.{done-nothing, done-quietly, done-then, went_in-dismissed, went_in-readers_ended, went_in-writers_ended}
use Rattle.qx_pipe.proofs.pipe.release.Goals as goal

pub returns : goal.returns
returns c =
    let sides = c.sides_at-sides.result in
    let are : sides ≡ sides_at (pipe_at c.args.shared.now c.args.user.0 c.args.inode).device c.args.sides = c.sides_at-sides.ensures ∙ ap (λ device. sides_at device c.args.sides) c.device.ensures.device in
    let cleaning = done-then (done-nothing c.args.shared.now c.args.user.0 c.args.inode c.requires.pipe) (λ p. clean wanted offered is_gone p) c.clean-before.ensures.after c.clean-before.ensures.filled in
    let closing = done-quietly cleaning (λ p. dismissed (λ call. call.block == c.args.block) (Failed EBADF) p) c.dismiss.ensures.after (λ p. went_in-dismissed (λ call. call.block == c.args.block) EBADF p) in
    let readers = done-quietly closing (readers_ended sides) c.end_readers.ensures.after (went_in-readers_ended sides) in
    let writers = done-quietly readers (writers_ended sides) c.end_writers.ensures.after (went_in-writers_ended sides) in
    let settling = done-then writers (λ p. settle wanted offered p) c.settle-after.ensures.after c.settle-after.ensures.filled in
    let discarding = done-quietly settling (without_bytes sides) c.discard.ensures.after (λ p. refl) in
    rw (← are) (record { after = discarding.is; filled = discarding.went })
