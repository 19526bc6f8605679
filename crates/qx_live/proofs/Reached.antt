-- What is so of every world to which steps lead: its lines are as many as managers, and no pulse is taken where none is given.
use Rattle.std.proofs.Common.{◌≡◌, true, false, length, refl, sym, subst}
use Rattle.std.proofs.lemmas.Bool.{false≢true}
use Rattle.qx_types.specs.Managers.{manager_count}
use Rattle.qx_types.specs.declared.names.Proc.{Proc}
use Rattle.qx_types.specs.declared.outcome.Outcome.{Outcome}
use Rattle.qx_types.specs.declared.outcome.Outcome.TheVariants.{Spawned, Refused, Done, Sent, Reply, Failed, Pulse, NoPulse, WrongState, Took, Idle, Busy, Handled, Nothing}
use Rattle.qx_types.specs.declared.step.Step.TheVariants.{TakePulse}
use Rattle.qx_machine.specs.Laws.{IsSettled, is_refusal}
use Rattle.qx_machine.specs.Machine.{World, boot, machine, step}
use Rattle.qx_machine.proofs.Refusals.{refused_same}
use Rattle.qx_machine.proofs.Settled.{run_settled}
use Rattle.qx_chan.specs.Channel.{is_no_pulse}
use Rattle.qx_world.specs.Outcomes.{may_be_pulse}
use Rattle.qx_world.specs.Steps.{IsReached}
use Rattle.qx_world.proofs.OutcomeLemmas.{step_gives}
use Rattle.qx_live.specs.Live.{has_pulse, is_pulse}
use Rattle.qx_live.proofs.Kept.{kept_after, keeps_boot}

pub reached_lines : (w : World) → IsReached w → length w.lines ≡ manager_count
reached_lines w reached =
    subst (λ v. length v.lines ≡ manager_count) (sym reached.1) (kept_after w.config.workers (boot w.config) reached.0 (keeps_boot machine w.config)).lines

-- a process that is told neither of a pulse nor that it has none is refused
refused : (outcome : Outcome) → may_be_pulse outcome ≡ true → is_no_pulse outcome ≡ false → is_pulse outcome ≡ false → is_refusal outcome ≡ true
refused (Spawned number) may some none = absurd (false≢true may)
refused (Refused error) may some none = absurd (false≢true may)
refused Done may some none = absurd (false≢true may)
refused Sent may some none = absurd (false≢true may)
refused (Reply status bytes) may some none = absurd (false≢true may)
refused (Failed error) may some none = absurd (false≢true may)
refused (Pulse code value) may some none = absurd (false≢true (sym none))
refused NoPulse may some none = absurd (false≢true (sym some))
refused WrongState may some none = refl
refused (Took item) may some none = absurd (false≢true may)
refused Idle may some none = absurd (false≢true may)
refused Busy may some none = absurd (false≢true may)
refused Handled may some none = absurd (false≢true may)
refused Nothing may some none = absurd (false≢true may)

-- and the world stays as it was
pub unpulsed : (w : World) (proc : Proc) → IsReached w → is_no_pulse (step w (TakePulse proc)).outcome ≡ false → has_pulse w proc ≡ false → (step w (TakePulse proc)).world ≡ w
unpulsed w proc reached some none =
    let e = TakePulse proc in
    refused_same w e (subst IsSettled (sym reached.1) (run_settled w.config reached.0)) (refused (step w e).outcome (step_gives w e) some none)

-- a process that has no pulse is given none
pub no_pulse : (outcome : Outcome) → is_no_pulse outcome ≡ true → is_pulse outcome ≡ false
no_pulse (Spawned number) is = refl
no_pulse (Refused error) is = refl
no_pulse Done is = refl
no_pulse Sent is = refl
no_pulse (Reply status bytes) is = refl
no_pulse (Failed error) is = refl
no_pulse (Pulse code value) is = absurd (false≢true is)
no_pulse NoPulse is = refl
no_pulse WrongState is = refl
no_pulse (Took item) is = refl
no_pulse Idle is = refl
no_pulse Busy is = refl
no_pulse Handled is = refl
no_pulse Nothing is = refl
