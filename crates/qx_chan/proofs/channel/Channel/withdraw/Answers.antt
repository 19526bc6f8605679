use Rattle.std.proofs.Common.{◌≡◌, Some, length, refl, sym, ◌∙◌, ap}
use Rattle.std.specs.Option.{option_to_list}
use Rattle.qx_types.specs.Configuration.{limits_of}
use Rattle.qx_types.specs.Managers.{manager_number}
use Rattle.qx_base.specs.declared.errno.Errno.TheVariants.{EINTR}
use Rattle.qx_types.specs.declared.outcome.Answer.TheVariants.{Failed}
use Rattle.qx_isolation.specs.declared.rows.OwnItem.TheVariants as item
use Rattle.qx_machine.specs.Machine.{line_without}
use Rattle.qx_chan.specs.Calls.{queued_call}
use Rattle.qx_chan.specs.Channel.{failed}
use Rattle.qx_chan.specs.Users.{process_of, thread_row}
use Rattle.qx_shared.specs.Shared.{Shared, with_shared_line}
use Rattle.qx_chan.proofs.AnswerLemmas.{Kept-withdrawn, fails}
use Rattle.qx_chan.proofs.LostLemmas.{lost-fields, lost-there, shown-lost}
use Rattle.qx_chan.proofs.RoomLemmas.{queued-brings}
use Rattle.qx_chan.proofs.channel.Channel.withdraw.Goals as goal

pub fail-lost-requires : goal.fail-lost-requires
fail-lost-requires c = record { room = queued-brings EINTR (thread_row c.self.inside.users c.args.thread) c.args.call (rw (← c.self.view_is) at c.requires.queued) }

pub disconnect-requires : goal.disconnect-requires
disconnect-requires c = record { there = rw c.withdraw.ensures.withdrawn (lost-there c.self.inside.tables.shared c.args.thread.proc (process_of c.self.inside.users c.args.thread.proc) _ c.fail-lost.result (c.self.invariant.shared.servers c.args.thread.proc) c.fail-lost.ensures.lost) }

pub invariant_of-self : goal.invariant_of-self
invariant_of-self c =
    let queued : Some c.args.call ≡ queued_call (thread_row c.self.inside.users c.args.thread) = rw (← c.self.view_is) at c.requires.queued in
    let f = failed c.args.thread.tid EINTR c.args.call.target.over in
    record {
      spare = c.self.invariant.spare;
      shared = rw (c.disconnect.ensures.disconnected, c.withdraw.ensures.withdrawn, c.fail-lost.ensures.failed)
          (Kept-withdrawn c.self.inside.users c.self.inside.tables.shared c.args.thread c.args.call queued c.self.invariant.shared f (Failed EINTR) (fails c.args.thread.tid EINTR _) c.withdraw.ensures.gone (limits_of c.args.config.now c.args.thread.proc.user.0).disconnect c.fail-lost.result (rw c.fail-lost.ensures.failed at c.fail-lost.ensures.lost));
      events = c.self.invariant.events
          ∙ sym (ap (λ (q : Shared). length q.pipes) c.disconnect.ensures.disconnected ∙ lost-fields (limits_of c.args.config.now c.args.thread.proc.user.0).disconnect c.args.thread.proc (λ q. length q.pipes) (λ q server. refl) (option_to_list c.fail-lost.result) c.withdraw.new.self ∙ ap (λ (q : Shared). length q.pipes) c.withdraw.ensures.withdrawn);
    }

pub returns : goal.returns
returns c =
    let queued : Some c.args.call ≡ queued_call (thread_row c.self.inside.users c.args.thread) = rw (← c.self.view_is) at c.requires.queued in
    let f = failed c.args.thread.tid EINTR c.args.call.target.over in
    record {
      withdrawn = rw (← c.self.view_is, ← queued, c.disconnect.ensures.disconnected, c.withdraw.ensures.withdrawn, c.fail-lost.ensures.failed)
          (shown-lost c.self.inside.users (limits_of c.args.config.now c.args.thread.proc.user.0).disconnect c.args.thread.proc f (with_shared_line c.self.inside.tables.shared (manager_number c.args.call.target.manager) (line_without c.args.thread.proc.user.0 (item.Message c.args.thread.proc.num c.args.thread.tid)))
          c.self.inside.tables.mounts c.self.inside.tables.events.events c.fail-lost.result (rw c.fail-lost.ensures.failed at c.fail-lost.ensures.lost));
    }
