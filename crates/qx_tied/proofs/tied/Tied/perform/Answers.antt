use Rattle.std.proofs.Common.{◌∙◌, ap, sym}
use Rattle.qx_types.specs.declared.step.Step.TheVariants.{Perform}
use Rattle.qx_tied.specs.Run.{next}
use Rattle.qx_tied.specs.Tied.{tagged}
use Rattle.qx_tied.proofs.RunLemmas.{done_more, shown_next, took}
use Rattle.qx_tied.proofs.tied.Tied.perform.Goals as goal

pub invariant_of-self : goal.invariant_of-self
invariant_of-self g c =
    let some = c.in-Some.ensures in
    let ok = c.in-Ok.ensures in
    took g.J.OfRun.began c.self.inside.running c.perform.new.self c.self.inside.ties c.keep.new.self c.in-Some.front (tagged c.seat.inside.number (Perform c.args.worker c.args.moment)) c.self.invariant ok.next ok.steps some.tried c.keep.ensures.list

pub returns-in-Ok-clause-next : goal.returns-in-Ok-clause-next
returns-in-Ok-clause-next g c =
    shown_next c.self.inside.running c.perform.new.self c.self.inside.ties c.keep.new.self c.in-Some.front (tagged c.seat.inside.number (Perform c.args.worker c.args.moment)) c.in-Ok.ensures.next c.in-Some.ensures.tried c.keep.ensures.list
    ∙ (λ i. next (c.self.view_is i) (c.seat.view_is i).seat (Perform c.args.worker c.args.moment))

pub returns-in-Ok-clause-done : goal.returns-in-Ok-clause-done
returns-in-Ok-clause-done g c =
    let some = c.in-Some.ensures in
    done_more g.J.OfRun.began c.self.inside.running c.self.inside.ties c.args.seat.now c.keep.new.seat c.in-Some.front (tagged c.seat.inside.number (Perform c.args.worker c.args.moment)) c.in-Ok.outcome
    c.self.invariant some.idle (ap (λ known. known.seat) c.seat.view_is) some.tried c.keep.ensures.seat c.in-Ok.ensures.told
