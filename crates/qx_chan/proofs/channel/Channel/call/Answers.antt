use Rattle.std.proofs.Common.{length, refl, rules, sym, ◌∙◌, ap}
use Rattle.qx_rows.proofs.RowLemmas.{set-row}
use Rattle.qx_shared.specs.Shared.{Shared}
use Rattle.qx_chan.proofs.NodesLemmas.{places-called, shown-called}
use Rattle.qx_chan.proofs.SendLemmas.{Kept-called, calls-nowhere, has-sender, ready-lent}
use Rattle.qx_chan.proofs.ThreadLemmas.{Kept-room}
use Rattle.qx_chan.proofs.channel.Channel.call.Goals as goal

pub invariant_of-self-in-Err : goal.invariant_of-self-in-Err
invariant_of-self-in-Err c = rw (set-row c.self.inside.users c.args.thread.proc.user.0 c.in-Some.processes.now (sym c.in-Some.ensures.row)) c.self.invariant

pub returns-in-Err-clause-ok : goal.returns-in-Err-clause-ok
returns-in-Err-clause-ok c = rw (set-row c.self.inside.users c.args.thread.proc.user.0 c.in-Some.processes.now (sym c.in-Some.ensures.row), ← c.self.view_is, ← c.in-Some.ensures.row, ← c.in-Err.ensures.target) refl

pub returns-in-Err-clause-kept : goal.returns-in-Err-clause-kept
returns-in-Err-clause-kept c = rw (← c.self.view_is, ← c.in-Some.ensures.row, ← c.in-Err.ensures.target) refl

pub invariant_of-self-in_err-encoded : goal.invariant_of-self-in_err-encoded
invariant_of-self-in_err-encoded c = rw (set-row c.self.inside.users c.args.thread.proc.user.0 c.in-Some.processes.now (sym c.in-Some.ensures.row)) c.self.invariant

pub returns-in_err-encoded-clause-err : goal.returns-in_err-encoded-clause-err
returns-in_err-encoded-clause-err c = rw (set-row c.self.inside.users c.args.thread.proc.user.0 c.in-Some.processes.now (sym c.in-Some.ensures.row), ← c.self.view_is) (search rules)

pub send_on-requires-clause-own : goal.send_on-requires-clause-own
send_on-requires-clause-own c =
    has-sender c.self.inside.users c.self.inside.tables.shared c.args.thread (ready-lent c.self.inside.users c.args.thread c.in-Some.processes.now (sym c.in-Some.ensures.row) c.in-Ok.ensures.ready) c.self.invariant.shared

pub send_on-requires-clause-no_call : goal.send_on-requires-clause-no_call
send_on-requires-clause-no_call c =
    calls-nowhere c.self.inside.users c.self.inside.tables.shared c.args.thread (ready-lent c.self.inside.users c.args.thread c.in-Some.processes.now (sym c.in-Some.ensures.row) c.in-Ok.ensures.ready) c.self.invariant.shared

pub invariant_of-self-in_err-send_on : goal.invariant_of-self-in_err-send_on
invariant_of-self-in_err-send_on c = record {
  spare = c.self.invariant.spare;
  shared = rw (c.in_err-send_on.ensures.err, set-row c.self.inside.users c.args.thread.proc.user.0 c.in-Some.processes.now (sym c.in-Some.ensures.row), c.in_err-send_on.ensures.unsent)
      (Kept-room c.self.inside.users c.self.inside.tables.shared _ c.self.invariant.shared);
  events = c.self.invariant.events ∙ sym (ap (λ (q : Shared). length q.pipes) c.in_err-send_on.ensures.unsent);
}

pub returns-in_err-send_on-clause-err : goal.returns-in_err-send_on-clause-err
returns-in_err-send_on-clause-err c =
    rw (c.in_err-send_on.ensures.err, set-row c.self.inside.users c.args.thread.proc.user.0 c.in-Some.processes.now (sym c.in-Some.ensures.row), c.in_err-send_on.ensures.unsent, ← c.self.view_is) (search rules)

pub invariant_of-self-2 : goal.invariant_of-self-2
invariant_of-self-2 c = record {
  spare = c.self.invariant.spare;
  shared = Kept-called c.self.inside.users c.args.thread c.in-Some.processes.now (sym c.in-Some.ensures.row) c.self.inside.tables.shared _ c.send_on.new.processes c.send_on.new.shared c.in_ok-send_on.ensures.ok c.in_ok-send_on.ensures.uses c.in_ok-send_on.ensures.sent
      (ready-lent c.self.inside.users c.args.thread c.in-Some.processes.now (sym c.in-Some.ensures.row) c.in-Ok.ensures.ready) c.self.invariant.shared;
  events = c.self.invariant.events ∙ sym (places-called c.self.inside.users c.args.thread c.in-Some.processes.now (sym c.in-Some.ensures.row) c.self.inside.tables.shared _ c.send_on.new.processes c.send_on.new.shared c.in_ok-send_on.ensures.ok c.in_ok-send_on.ensures.uses c.in_ok-send_on.ensures.sent c.self.invariant.shared);
}

pub returns-clause-ok : goal.returns-clause-ok
returns-clause-ok c =
    rw (← c.self.view_is, ← c.in-Some.ensures.row, ← c.in-Ok.ensures.target, ← c.in_ok-encoded.ensures.bytes)
    (shown-called c.self.inside.users c.args.thread c.in-Some.processes.now (sym c.in-Some.ensures.row) c.self.inside.tables.shared _ c.send_on.new.processes c.send_on.new.shared c.in_ok-send_on.ensures.ok c.in_ok-send_on.ensures.uses c.in_ok-send_on.ensures.sent c.self.invariant.shared c.self.inside.tables.mounts c.self.inside.tables.events.events)

pub returns-clause-kept : goal.returns-clause-kept
returns-clause-kept c = rw (← c.self.view_is, ← c.in-Some.ensures.row, ← c.in-Ok.ensures.target) c.in_ok-encoded.ensures.kept
