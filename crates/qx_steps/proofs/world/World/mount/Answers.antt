use Rattle.std.proofs.Common.{ap, refl, sym}
use Rattle.std.proofs.lemmas.Bool.{false≢true}
use Rattle.qx_steps.proofs.MountLemmas.{mount-done, mount-refused}
use Rattle.qx_types.specs.declared.step.Step.TheVariants.{Mount}
use Rattle.qx_steps.proofs.world.World.mount.Goals as goal

pub attach-requires-clause-mounting : goal.attach-requires-clause-mounting
attach-requires-clause-mounting c =
    (Mount c.args.thread c.args.path.now c.args.manager, ap (λ after. after.world) (mount-done c.args.self.now c.args.thread c.args.path.now c.args.manager c.in-Ok.mount c.judge_mount.ensures.settled (sym c.in-Ok.ensures.mount)))

pub returns-in_err-attach-in-Ok-clause-sure : goal.returns-in_err-attach-in-Ok-clause-sure
returns-in_err-attach-in-Ok-clause-sure c = rw (mount-done c.args.self.now c.args.thread c.args.path.now c.args.manager c.in-Ok.mount c.judge_mount.ensures.settled (sym c.in-Ok.ensures.mount)) (λ refused. absurd (false≢true refused))

pub returns-in_ok-attach-in-Ok-clause-outcome : goal.returns-in_ok-attach-in-Ok-clause-outcome
returns-in_ok-attach-in-Ok-clause-outcome c = rw (mount-done c.args.self.now c.args.thread c.args.path.now c.args.manager c.in-Ok.mount c.judge_mount.ensures.settled (sym c.in-Ok.ensures.mount)) refl

pub returns-in_ok-attach-in-Ok-clause-world : goal.returns-in_ok-attach-in-Ok-clause-world
returns-in_ok-attach-in-Ok-clause-world c = rw (mount-done c.args.self.now c.args.thread c.args.path.now c.args.manager c.in-Ok.mount c.judge_mount.ensures.settled (sym c.in-Ok.ensures.mount)) c.in_ok-attach-in-Ok.ensures.ok

pub returns-in-Err-clause-outcome : goal.returns-in-Err-clause-outcome
returns-in-Err-clause-outcome c = rw (mount-refused c.args.self.now c.args.thread c.args.path.now c.args.manager c.in-Err.outcome c.judge_mount.ensures.settled (sym c.in-Err.ensures.mount)) refl

pub returns-in-Err-clause-world : goal.returns-in-Err-clause-world
returns-in-Err-clause-world c = rw (mount-refused c.args.self.now c.args.thread c.args.path.now c.args.manager c.in-Err.outcome c.judge_mount.ensures.settled (sym c.in-Err.ensures.mount)) refl
