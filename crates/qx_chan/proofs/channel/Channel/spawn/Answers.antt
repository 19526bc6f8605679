use Rattle.std.proofs.Common.{◌≡◌, ◌-◌, ◌*◌, ◌∙◌, Err, Ok, ap, length, rules, sym}
use Rattle.qx_machine.specs.Clients.{spawn_number}
use Rattle.qx_isolation.specs.Rows.{row_at, with_row}
use Rattle.qx_clients.specs.Calls.{spawned}
use Rattle.qx_shared.proofs.PresenceLemmas.{lines-process}
use Rattle.qx_shared.specs.Shared.{Shared}
use Rattle.qx_chan.specs.Nodes.{room_started}
use Rattle.qx_chan.specs.Users.{spawn_number_in}
use Rattle.qx_chan.proofs.StartLemmas.{Kept-started, fresh, pipes-process, room-process, room-spare, refused_spawn, room-started, started-users, starts, user_within}
use Rattle.qx_chan.proofs.ThreadLemmas.{Kept-room}
use Rattle.qx_chan.proofs.channel.Channel.spawn.Goals as goal

pub add_process-requires-clause-fresh : goal.add_process-requires-clause-fresh
add_process-requires-clause-fresh c =
    let judged : spawn_number_in c.args.limits.now c.args.threads c.args.prio.0 (row_at c.args.self.now.users c.args.user.0) ≡ Ok c.in-Ok.num = search rules in
    let number : spawn_number_in c.args.limits.now c.args.threads c.args.prio.0 (row_at c.self.inside.users c.args.user.0) ≡ Ok c.in-Ok.num = rw (← c.self.view_is) at judged in
    rw c.in_ok-reserve-in-Ok.ensures.ok (fresh c.args.limits.now c.self.inside.users (record { user = c.args.user; num = c.in-Ok.num }) c.args.threads c.args.prio.0 (starts c.args.limits.now c.self.inside.users (record { user = c.args.user; num = c.in-Ok.num }) c.args.threads c.args.prio.0 c.know.ensures.limited.processes.1 number) c.self.inside.tables.shared c.self.invariant.shared)

pub add_process-requires-clause-user : goal.add_process-requires-clause-user
add_process-requires-clause-user c =
    let judged : spawn_number_in c.args.limits.now c.args.threads c.args.prio.0 (row_at c.args.self.now.users c.args.user.0) ≡ Ok c.in-Ok.num = search rules in
    let number : spawn_number_in c.args.limits.now c.args.threads c.args.prio.0 (row_at c.self.inside.users c.args.user.0) ≡ Ok c.in-Ok.num = rw (← c.self.view_is) at judged in
    rw c.in_ok-reserve-in-Ok.ensures.ok (user_within c.args.limits.now c.self.inside.users (record { user = c.args.user; num = c.in-Ok.num }) c.args.threads c.args.prio.0 (starts c.args.limits.now c.self.inside.users (record { user = c.args.user; num = c.in-Ok.num }) c.args.threads c.args.prio.0 c.know.ensures.limited.processes.1 number) c.self.inside.tables.shared c.self.invariant.shared)

pub add_process-requires-clause-lowest : goal.add_process-requires-clause-lowest
add_process-requires-clause-lowest c =
    let judged : spawn_number_in c.args.limits.now c.args.threads c.args.prio.0 (row_at c.args.self.now.users c.args.user.0) ≡ Ok c.in-Ok.num = search rules in
    let number : spawn_number_in c.args.limits.now c.args.threads c.args.prio.0 (row_at c.self.inside.users c.args.user.0) ≡ Ok c.in-Ok.num = rw (← c.self.view_is) at judged in
    (starts c.args.limits.now c.self.inside.users (record { user = c.args.user; num = c.in-Ok.num }) c.args.threads c.args.prio.0 c.know.ensures.limited.processes.1 number).facts.lowest_prio

pub start-requires-clause-few : goal.start-requires-clause-few
start-requires-clause-few c =
    let judged : spawn_number_in c.args.limits.now c.args.threads c.args.prio.0 (row_at c.args.self.now.users c.args.user.0) ≡ Ok c.in-Ok.num = search rules in
    let number : spawn_number_in c.args.limits.now c.args.threads c.args.prio.0 (row_at c.self.inside.users c.args.user.0) ≡ Ok c.in-Ok.num = rw (← c.self.view_is) at judged in
    (starts c.args.limits.now c.self.inside.users (record { user = c.args.user; num = c.in-Ok.num }) c.args.threads c.args.prio.0 c.know.ensures.limited.processes.1 number).facts.few

pub start-requires-clause-threads : goal.start-requires-clause-threads
start-requires-clause-threads c =
    let judged : spawn_number_in c.args.limits.now c.args.threads c.args.prio.0 (row_at c.args.self.now.users c.args.user.0) ≡ Ok c.in-Ok.num = search rules in
    let number : spawn_number_in c.args.limits.now c.args.threads c.args.prio.0 (row_at c.self.inside.users c.args.user.0) ≡ Ok c.in-Ok.num = rw (← c.self.view_is) at judged in
    (starts c.args.limits.now c.self.inside.users (record { user = c.args.user; num = c.in-Ok.num }) c.args.threads c.args.prio.0 c.know.ensures.limited.processes.1 number).facts.few_threads

pub start-requires-clause-priority : goal.start-requires-clause-priority
start-requires-clause-priority c =
    let judged : spawn_number_in c.args.limits.now c.args.threads c.args.prio.0 (row_at c.args.self.now.users c.args.user.0) ≡ Ok c.in-Ok.num = search rules in
    let number : spawn_number_in c.args.limits.now c.args.threads c.args.prio.0 (row_at c.self.inside.users c.args.user.0) ≡ Ok c.in-Ok.num = rw (← c.self.view_is) at judged in
    (starts c.args.limits.now c.self.inside.users (record { user = c.args.user; num = c.in-Ok.num }) c.args.threads c.args.prio.0 c.know.ensures.limited.processes.1 number).facts.lowest_prio

pub invariant_of-self-in-Ok : goal.invariant_of-self-in-Ok
invariant_of-self-in-Ok c =
    let judged : spawn_number_in c.args.limits.now c.args.threads c.args.prio.0 (row_at c.args.self.now.users c.args.user.0) ≡ Ok c.in-Ok.num = search rules in
    let number : spawn_number_in c.args.limits.now c.args.threads c.args.prio.0 (row_at c.self.inside.users c.args.user.0) ≡ Ok c.in-Ok.num = rw (← c.self.view_is) at judged in
    let users = c.in_ok-start-in-Ok.ensures.ok ∙ started-users c.args.limits.now c.self.inside.users (record { user = c.args.user; num = c.in-Ok.num }) c.args.threads c.args.prio.0 (starts c.args.limits.now c.self.inside.users (record { user = c.args.user; num = c.in-Ok.num }) c.args.threads c.args.prio.0 c.know.ensures.limited.processes.1 number) in
    let pipes = ap (λ (q : Shared). q.pipes) c.add_process.ensures.added ∙ pipes-process c.reserve.new.self (record { user = c.args.user; num = c.in-Ok.num }) c.args.threads ∙ ap (λ (q : Shared). q.pipes) c.in_ok-reserve-in-Ok.ensures.ok in
    record {
      spare = c.self.invariant.spare;
      shared = rw (c.add_process.ensures.added, c.in_ok-reserve-in-Ok.ensures.ok, users)
          (Kept-started c.args.limits.now c.self.inside.users (record { user = c.args.user; num = c.in-Ok.num }) c.args.threads c.args.prio.0 (starts c.args.limits.now c.self.inside.users (record { user = c.args.user; num = c.in-Ok.num }) c.args.threads c.args.prio.0 c.know.ensures.limited.processes.1 number) c.in_ok-start-in-Ok.ensures.places _ (Kept-room _ _ _ c.self.invariant.shared));
      events = c.self.invariant.events ∙ sym (ap length pipes);
    }

pub returns-in_ok-start-in-Ok-clause-ok : goal.returns-in_ok-start-in-Ok-clause-ok
returns-in_ok-start-in-Ok-clause-ok c =
    let judged : spawn_number_in c.args.limits.now c.args.threads c.args.prio.0 (row_at c.args.self.now.users c.args.user.0) ≡ Ok c.in-Ok.num = search rules in
    let number : spawn_number_in c.args.limits.now c.args.threads c.args.prio.0 (row_at c.self.inside.users c.args.user.0) ≡ Ok c.in-Ok.num = rw (← c.self.view_is) at judged in
    let users = c.in_ok-start-in-Ok.ensures.ok ∙ started-users c.args.limits.now c.self.inside.users (record { user = c.args.user; num = c.in-Ok.num }) c.args.threads c.args.prio.0 (starts c.args.limits.now c.self.inside.users (record { user = c.args.user; num = c.in-Ok.num }) c.args.threads c.args.prio.0 c.know.ensures.limited.processes.1 number) in
    let before = c.self.inside.tables.shared in
    let reserved = c.reserve.new.self in
    let lines = ap (λ (q : Shared). q.lines) c.add_process.ensures.added ∙ lines-process reserved (record { user = c.args.user; num = c.in-Ok.num }) c.args.threads ∙ ap (λ (q : Shared). q.lines) c.in_ok-reserve-in-Ok.ensures.ok in
    let pipes = ap (λ (q : Shared). q.pipes) c.add_process.ensures.added ∙ pipes-process reserved (record { user = c.args.user; num = c.in-Ok.num }) c.args.threads ∙ ap (λ (q : Shared). q.pipes) c.in_ok-reserve-in-Ok.ensures.ok in
    let room = ap (λ (q : Shared). q.room) c.add_process.ensures.added ∙ room-process reserved (record { user = c.args.user; num = c.in-Ok.num }) c.args.threads ∙ ap (λ (q : Shared). q.room - 2 * c.args.threads) c.in_ok-reserve-in-Ok.ensures.ok
    ∙ room-started before.room c.args.threads ∙ sym (ap (room_started before.room c.args.threads) number) in
    rw (← c.self.view_is, users) (λ i. record { users = with_row c.self.inside.users c.args.user.0 (λ processes. spawned processes c.args.threads c.args.prio.0 (spawn_number c.args.limits.now processes c.args.threads c.args.prio.0)); lines = lines i; pipes = pipes i; events = c.self.inside.tables.events.events; mounts = c.self.inside.tables.mounts; room = room i })

pub returns-in_ok-start-in-Ok-clause-spare : goal.returns-in_ok-start-in-Ok-clause-spare
returns-in_ok-start-in-Ok-clause-spare c =
    let room = ap (λ (q : Shared). q.room) c.add_process.ensures.added ∙ room-process c.reserve.new.self (record { user = c.args.user; num = c.in-Ok.num }) c.args.threads ∙ ap (λ (q : Shared). q.room - 2 * c.args.threads) c.in_ok-reserve-in-Ok.ensures.ok in
    rw (← c.self.view_is) (room-spare c.add_process.new.self.room c.self.inside.tables.shared.room c.args.threads room)

pub returns-in-Err-clause-ok : goal.returns-in-Err-clause-ok
returns-in-Err-clause-ok c =
    let refused : spawn_number_in c.args.limits.now c.args.threads c.args.prio.0 (row_at c.args.self.now.users c.args.user.0) ≡ Err c.in-Err.outcome = search rules in
    sym (refused_spawn c.args.limits.now c.args.self.now c.args.user.0 c.args.threads c.args.prio.0 c.in-Err.outcome refused)
