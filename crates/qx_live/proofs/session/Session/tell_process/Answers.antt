use Rattle.std.proofs.Common.{◌∙◌, ◌+◌, arith}
use Rattle.qx_types.specs.declared.limits.TheConstants.Limits.{THREADS}
use Rattle.qx_live.specs.Sessions.{session_of}
use Rattle.qx_live.proofs.Absent.{none_past}
use Rattle.qx_live.proofs.Sequences.{process_done, pulses_late, thread_done}
use Rattle.qx_live.proofs.session.Session.tell_process.Goals as goal

pub threads-preserved : goal.threads-preserved
threads-preserved c =
    let few = c.has_thread_from.ensures.few c.threads-test.true in
    thread_done c.args.user.0 c.args.process c.threads.tid (session_of c.threads.self) (session_of c.tell_thread.new.self) few c.in-Ok.ensures.told ∙ c.threads.invariant

pub returns-in_default-tell_pulses-clause-late : goal.returns-in_default-tell_pulses-clause-late
returns-in_default-tell_pulses-clause-late c =
    let after = session_of c.tell_pulses.new.self in
    let none = c.has_thread_from.ensures.none c.threads-test.false in
    pulses_late c.args.user.0 c.args.process c.threads.tid (THREADS + 1) (session_of c.threads.self) after none (none_past c.args.user.0 c.args.process (THREADS + 1) after.world (omega arith)) c.in_default-tell_pulses.ensures.err
    ∙ c.threads.invariant

pub returns-clause-told : goal.returns-clause-told
returns-clause-told c =
    let none = c.has_thread_from.ensures.none c.threads-test.false in
    process_done c.args.user.0 c.args.process c.threads.tid (session_of c.threads.self) (session_of c.tell_pulses.new.self) none c.in-Ok-tell_pulses.ensures.told ∙ c.threads.invariant
