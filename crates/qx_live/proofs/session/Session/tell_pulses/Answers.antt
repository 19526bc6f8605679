use Rattle.std.proofs.Common.{◌≡◌, ◌∙◌, ap, sym, true, if◌then◌else◌}
use Rattle.qx_types.specs.declared.step.Step.TheVariants.{TakePulse}
use Rattle.qx_live.specs.Live.{after_step, has_pulse}
use Rattle.qx_live.specs.Sessions.{session_of}
use Rattle.qx_live.proofs.Sequences.{pulse_fewer, pulse_told}
use Rattle.qx_live.proofs.session.Session.tell_pulses.Goals as goal

pub pulses-smaller : goal.pulses-smaller
pulses-smaller c =
    let session = session_of c.pulses.self in
    let has : has_pulse session.world c.args.proc ≡ true = sym c.in_ok-tell_pulse.ensures.some ∙ c.if-branch.true in
    pulse_fewer c.args.proc session (session_of c.tell_pulse.new.self) has
    (c.in_ok-tell_pulse.ensures.taken ∙ ap (λ some. if some then after_step session (TakePulse c.args.proc) else session) c.if-branch.true)

pub pulses-preserved : goal.pulses-preserved
pulses-preserved c =
    let session = session_of c.pulses.self in
    let has : has_pulse session.world c.args.proc ≡ true = sym c.in_ok-tell_pulse.ensures.some ∙ c.if-branch.true in
    record {
      same = pulse_told c.args.proc session (session_of c.tell_pulse.new.self) has
          (c.in_ok-tell_pulse.ensures.taken ∙ ap (λ some. if some then after_step session (TakePulse c.args.proc) else session) c.if-branch.true)
          ∙ c.pulses.invariant.same;
      due = c.tell_pulse.ensures.due ∙ c.pulses.invariant.due;
    }
