use Rattle.std.proofs.Common.{rules, ◌≡◌, ◌==◌, Some, Err, ap, ◌∙◌, subst, sym}
use Rattle.std.proofs.lemmas.Bool.{eqb-true, not-false}
use Rattle.qx_types.specs.Step.{actor_of, user_of}
use Rattle.qx_machine.specs.Machine.{World}
use Rattle.qx_live.specs.Sessions.{caught_up}
use Rattle.qx_desk.specs.Desks.{Leads, world_of}
use Rattle.qx_desk.proofs.Takings.{fault_leads, line_leads, none_due}
use Rattle.qx_desk.proofs.taking.Taking.take.Goals as goal

pub returns-in-Ok-clause-leads : goal.returns-in-Ok-clause-leads
returns-in-Ok-clause-leads c =
    let by = c.clear.new.self.by in
    let w = world_of c.args.self.now in
    let after = caught_up c.line.new.self in
    let who : actor_of c.args.step ≡ Some c.in-Some.actor = search rules in
    let whose : user_of c.in-Some.actor ≡ by.user.0 = sym c.user.ensures ∙ eqb-true c.user.result.0 by.user.0 (not-false (c.user.result.0 == by.user.0) (sym c.if-ne.ensures)) in
    subst (λ b. (start : World) → Leads b start w → Leads b start after.world) c.clear.ensures.by
    (line_leads by w c.args.step c.in-Some.actor (caught_up c.clear.new.self.session) after who whose c.in_ok-clear.ensures.cleared (none_due c.line.new.self c.in-Ok.ensures.none_due ∙ c.in-Ok.ensures.done))

pub returns-clause-leads : goal.returns-clause-leads
returns-clause-leads c =
    let by = c.clear.new.self.by in
    let w = world_of c.args.self.now in
    let after = caught_up c.line.new.self in
    let who : actor_of c.args.step ≡ Some c.in-Some.actor = search rules in
    let whose : user_of c.in-Some.actor ≡ by.user.0 = sym c.user.ensures ∙ eqb-true c.user.result.0 by.user.0 (not-false (c.user.result.0 == by.user.0) (sym c.if-ne.ensures)) in
    subst (λ b. (start : World) → Leads b start w → Leads b start after.world) c.clear.ensures.by
    (fault_leads by w c.args.step c.in-Some.actor (caught_up c.clear.new.self.session) after c.in-Err._fault who whose c.in_ok-clear.ensures.cleared (λ same. c.in-Err.ensures.late (ap Err same)) (λ same. c.in-Err.ensures.refused (ap Err same)))
