use Rattle.std.proofs.Common.{◌≡◌, ◌∙◌, None, Some, refl, sym, ap}
use Rattle.std.specs.Option.{option_copied}
use Rattle.qx_shared.specs.Shared.{pipes_of}
use Rattle.qx_shared.proofs.PresenceLemmas.{process-removed}
use Rattle.qx_chan.specs.Users.{Users, process_of}
use Rattle.qx_chan.proofs.FreeLemmas.{Kept-process-freed, goes-there, kept-stays, none-stays, room-freed, unasked-ended}
use Rattle.qx_chan.proofs.ServeLemmas.{shown}
use Rattle.qx_chan.proofs.channel.Channel.free_ended.Goals as goal
use Rattle.qx_chan.proofs.channel.Channel.free_ended.Goals.{then-not-has_ended-via-then-not-has_ended, then-not-has_ended-via-else-not-has_ended+then-has_server, then-not-has_ended-via-else-not-has_ended+else-has_server+then-has_waiting}

pub returns-in_default-clause-freed : goal.returns-in_default-clause-freed
returns-in_default-clause-freed c =
    let none : process_of c.self.inside.users c.args.proc ≡ None = sym c.process.ensures.row ∙ ap option_copied c.in_default.is in
    rw (← c.self.view_is) (ap (λ (u : Users). shown u c.self.inside.tables.shared c.self.inside.tables.mounts c.self.inside.tables.events.events) (none-stays c.self.inside.users c.args.proc (pipes_of c.self.inside.tables.shared c.args.proc.user.0) none))

pub returns-then-not-has_ended-clause-freed : goal.returns-then-not-has_ended-clause-freed
returns-then-not-has_ended-clause-freed c =
    let there : process_of c.self.inside.users c.args.proc ≡ Some c.in-Some.process.now = sym c.in-Some.ensures.row in
    let stays = kept-stays c.self.inside.users c.args.proc (pipes_of c.self.inside.tables.shared c.args.proc.user.0) c.in-Some.process.now there in
    rw (← c.self.view_is) (ap (λ (u : Users). shown u c.self.inside.tables.shared c.self.inside.tables.mounts c.self.inside.tables.events.events) (stays (elim c.then-not-has_ended.branch [
      | then-not-has_ended-via-then-not-has_ended w ↦ rw (sym w.if-not-has_ended.ensures) refl
      | then-not-has_ended-via-else-not-has_ended+then-has_server w ↦ rw (sym w.if-not-has_ended.ensures, sym w.if-has_server.ensures) refl
      | then-not-has_ended-via-else-not-has_ended+else-has_server+then-has_waiting w ↦ rw (sym w.if-not-has_ended.ensures, sym w.if-has_server.ensures, sym w.if-has_waiting.ensures.waits) refl
    ])))

pub remove_process-requires-clause-unasked : goal.remove_process-requires-clause-unasked
remove_process-requires-clause-unasked c =
    let there : process_of c.self.inside.users c.args.proc ≡ Some c.in-Some.process.now = sym c.in-Some.ensures.row in
    unasked-ended c.self.inside.users c.self.inside.tables.shared c.args.proc c.in-Some.process.now there (sym c.if-not-has_ended.ensures) c.self.invariant.shared

pub invariant_of-self : goal.invariant_of-self
invariant_of-self c =
    let there : process_of c.self.inside.users c.args.proc ≡ Some c.in-Some.process.now = sym c.in-Some.ensures.row in
    let removed = process-removed c.self.inside.tables.shared c.remove_process.new.self c.args.proc c.remove_process.ensures.removed c.remove_process.ensures.gone in
    record {
      spare = c.self.invariant.spare;
      shared = rw c.free_ended.ensures.freed
          (Kept-process-freed c.self.inside.users c.args.proc c.in-Some.process.now there (sym c.if-not-has_ended.ensures) (sym c.if-has_server.ensures) c.self.inside.tables.shared c.remove_process.new.self c.self.invariant.shared (sym c.if-has_waiting.ensures.waits) removed.lines removed.pipes removed.answered removed.own removed.others removed.servers);
      events = rw removed.pipes c.self.invariant.events;
    }

pub returns-clause-freed : goal.returns-clause-freed
returns-clause-freed c =
    let there : process_of c.self.inside.users c.args.proc ≡ Some c.in-Some.process.now = sym c.in-Some.ensures.row in
    let removed = process-removed c.self.inside.tables.shared c.remove_process.new.self c.args.proc c.remove_process.ensures.removed c.remove_process.ensures.gone in
    let users_are = c.free_ended.ensures.freed ∙ goes-there c.self.inside.users c.args.proc c.in-Some.process.now there (sym c.if-not-has_ended.ensures) (sym c.if-has_server.ensures) (pipes_of c.self.inside.tables.shared c.args.proc.user.0) (sym c.if-has_waiting.ensures.waits) in
    rw (← c.self.view_is) (λ i. record { users = users_are i; lines = removed.lines i; pipes = removed.pipes i; events = c.self.inside.tables.events.events; mounts = c.self.inside.tables.mounts; room = c.remove_process.new.self.room })

pub returns-clause-room : goal.returns-clause-room
returns-clause-room c = rw (← c.self.view_is) (room-freed c.self.inside.tables.shared c.remove_process.new.self c.args.proc c.remove_process.ensures.removed)
