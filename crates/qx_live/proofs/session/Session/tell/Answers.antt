use Rattle.std.proofs.Common.{◌∙◌, ap, sym}
use Rattle.qx_live.specs.Live.{after_steps}
use Rattle.qx_live.specs.Sessions.{session_of, told_from}
use Rattle.qx_live.proofs.Sequences.{from_next}
use Rattle.qx_live.proofs.session.Session.tell.Goals as goal

pub returns-in_err-tell_process-2-clause-same : goal.returns-in_err-tell_process-2-clause-same
returns-in_err-tell_process-2-clause-same c =
    let session = session_of c.processes.self in
    c.in_err-tell_process-2.ensures.late
    ∙ (ap (λ process. after_steps session (told_from c.args.user.0 process 1 session.world)) c.in-Some.ensures.next
    ∙ (ap (after_steps session) (from_next c.args.user.0 c.processes.last session.world c.in-Some.ensures.few) ∙ (c.processes.invariant ∙ c.in_ok-tell_process.ensures.told)))

pub processes-preserved : goal.processes-preserved
processes-preserved c =
    let session = session_of c.processes.self in
    c.in_ok-tell_process-2.ensures.told
    ∙ (ap (λ process. after_steps session (told_from c.args.user.0 process 1 session.world)) c.in-Some.ensures.next
    ∙ (ap (after_steps session) (from_next c.args.user.0 c.processes.last session.world c.in-Some.ensures.few) ∙ c.processes.invariant))

pub returns-clause-same : goal.returns-clause-same
returns-clause-same c =
    let session = session_of c.processes.self in
    sym (ap (after_steps session) c.in_default.ensures.none) ∙ (c.processes.invariant ∙ c.in_ok-tell_process.ensures.told)
