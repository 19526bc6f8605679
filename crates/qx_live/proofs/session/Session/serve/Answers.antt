use Rattle.std.proofs.Common.{◌≡◌, ◌∙◌, ◌-◌, ◌+◌, None, Some, ap, arith, rules, sym}
use Rattle.qx_machine.specs.Reads.{next_manager}
use Rattle.qx_live.specs.Sessions.{served, session_of}
use Rattle.qx_live.proofs.Sequences.{none_left, performed, received, rounds_over}
use Rattle.qx_live.proofs.session.Session.serve.Goals as goal

pub rounds-preserved : goal.rounds-preserved
rounds-preserved c =
    let session = session_of c.rounds.self in
    let taken = session_of c.receive.new.self in
    let left = c.rounds.rounds - 1 in
    let next : next_manager session.world ≡ Some c.in-Some.manager = search rules in
    let one : c.rounds.rounds ≡ left + 1 = omega arith in
    performed taken (session_of c.perform.new.self) c.args.user.0 c.args.moment left c.in-Ok.ensures.done
    ∙ (received session taken c.args.user.0 c.args.moment c.rounds.rounds left c.in-Some.manager next one c.receive.ensures.taken ∙ c.rounds.invariant)

pub returns-in_default-perform-clause-same : goal.returns-in_default-perform-clause-same
returns-in_default-perform-clause-same c =
    let session = session_of c.rounds.self in
    let left = c.rounds.rounds - 1 in
    let next : next_manager session.world ≡ Some c.in-Some.manager = search rules in
    let one : c.rounds.rounds ≡ left + 1 = omega arith in
    received session (session_of c.perform.new.self) c.args.user.0 c.args.moment c.rounds.rounds left c.in-Some.manager next one (c.in_default-perform.ensures.err ∙ c.receive.ensures.taken) ∙ c.rounds.invariant

pub returns-in_default-clause-same : goal.returns-in_default-clause-same
returns-in_default-clause-same c =
    let session = session_of c.rounds.self in
    let none : next_manager session.world ≡ None = search rules in
    c.tell.ensures.same ∙ (none_left session c.args.user.0 c.args.moment c.rounds.rounds none ∙ c.rounds.invariant)

pub returns-clause-same : goal.returns-clause-same
returns-clause-same c =
    let session = session_of c.rounds.self in
    let none : c.rounds.rounds ≡ 0 = omega arith in
    c.tell-2.ensures.same ∙ (rounds_over session c.args.user.0 c.args.moment ∙ (ap (λ n. served c.args.user.0 c.args.moment n session) (sym none) ∙ c.rounds.invariant))
