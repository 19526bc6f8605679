use Rattle.std.proofs.Common.{rules, ◌≡◌, ◌∙◌, ◌*◌, [], ◌∷◌, ◌++◌, Some, ap, sym}
use Rattle.qx_types.specs.Step.{actor_of, user_of}
use Rattle.qx_machine.specs.Machine.{step}
use Rattle.qx_live.specs.Live.{Session, after_step, written_by}
use Rattle.qx_live.specs.Sessions.{session_of}
use Rattle.qx_live.proofs.Sequences.{line_begun}
use Rattle.qx_live.proofs.session.Session.begin.Goals as goal

pub returns-clause-taken : goal.returns-clause-taken
returns-clause-taken c =
    let line = c.args.line.now in
    let actor = c.in-Some.actor in
    let session = session_of c.args.self.now in
    let after : Session = record { world = c.step.new.self; written = c.push_reserved.new.self.items } in
    let by : actor_of line.step ≡ Some actor = search rules in
    let user : c.user.result.0 ≡ user_of actor = search rules in
    let all : after.written ≡ (after_step session line.step).written =
    c.push_reserved.ensures.items
    ∙ (ap (λ items. items ++ record { actor = actor; outcome = c.in_ok-outcome.outcome } ∷ []) c.in_ok-try_reserve.ensures.items
    ∙ (ap (λ outcome. session.written ++ record { actor = actor; outcome = outcome } ∷ []) c.in_ok-outcome.ensures.outcome
    ∙ ap (λ who. session.written ++ written_by (step session.world line.step).outcome who) (sym by))) in
    line_begun session after line actor c.user.result.0 (2 * c.waiting.result) by user (λ i. record { world = c.in_ok-outcome.ensures.world i; written = all i }) (ap (λ n. 2 * n) c.waiting.ensures.number)
