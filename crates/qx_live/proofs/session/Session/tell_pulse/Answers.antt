use Rattle.std.proofs.Common.{rules, ◌≡◌, ◌∙◌, false}
use Rattle.qx_types.specs.declared.step.Step.TheVariants.{TakePulse}
use Rattle.qx_chan.specs.Channel.{is_no_pulse}
use Rattle.qx_machine.specs.Machine.{step}
use Rattle.qx_live.specs.Live.{has_pulse}
use Rattle.qx_live.proofs.Reached.{unpulsed}
use Rattle.qx_live.proofs.session.Session.tell_pulse.Goals as goal

pub returns-then-not-is_pulse-clause-taken : goal.returns-then-not-is_pulse-clause-taken
returns-then-not-is_pulse-clause-taken c =
    let w = c.args.self.now.world in
    let some : is_no_pulse (step w (TakePulse c.args.proc)).outcome ≡ false = search rules in
    let none : has_pulse w c.args.proc ≡ false = search rules in
    let same = c.take_pulse-outcome.ensures.world ∙ unpulsed w c.args.proc c.know_reached.ensures some none in
    λ i. record { world = same i; written = c.in_ok-try_reserve.ensures.items i }
