use Rattle.std.proofs.Common.{rules, ◌≡◌, ◌∙◌, ap, false}
use Rattle.std.specs.Sync.Mutex.{mutex_guard_value}
use Rattle.qx_types.specs.declared.step.Step.TheVariants.{TakePulse}
use Rattle.qx_machine.specs.Machine.{step}
use Rattle.qx_chan.specs.Channel.{is_no_pulse}
use Rattle.qx_pool.proofs.EndLemmas.{has_come, pulse_ends}
use Rattle.qx_pool.proofs.client.ClientOf.pulse.Goals as goal

pub returns-in-Ok-clause-seat : goal.returns-in-Ok-clause-seat
returns-in-Ok-clause-seat g c =
    let going : (mutex_guard_value c.lock_for_thread-guard.result).is_stopped ≡ false = search rules in
    let same : g.S.UnderLock.world_of c.deref_mut.result.now.under ≡ g.S.UnderLock.world_of (mutex_guard_value c.lock_for_thread-guard.result).under = search rules in
    let some = ap (λ w. is_no_pulse (step w (TakePulse c.args.self.now.thread.proc)).outcome) same ∙ has_come _ _ going c.lock_for_thread-guard.ensures in
    rw c.pulse_end.ensures (pulse_ends g.S.UnderLock.adds g.S.UnderLock.keeps _ c.args.self.now.thread.proc _ _ c.in-Ok.outcome c.in-Ok.ensures.told some c.in-Ok.ensures.seat)
