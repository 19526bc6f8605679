-- Rows, lines and nodes stand together still as a process starts, and at boot.
use Rattle.std.proofs.Common.{eq-eqb, subst, ◌≡◌, ◌≢◌, inl, inr, ℕ, zero, suc, ◌+◌, ◌-◌, ◌*◌, ◌<◌, ◌≤◌, ◌∷◌, [], get_or, map, ◌&&◌, add-one, nat_le, Bool, true, false, List, Option, Some, None, Ok, Err, replicate, length, is_some, refl, sym, ◌∙◌, ap, arith}
use Rattle.std.specs.Prelude.{max, if◌then◌else◌}
use Rattle.std.specs.FinSet as set
use Rattle.std.specs.List.{AllByRecursion}
use Rattle.std.proofs.lemmas.Bool.{cases_Bool, cases_lt}
use Rattle.std.proofs.lemmas.Bool.Decides.{eqb_tells, nat_tests}
use Rattle.std.proofs.lemmas.List.{get_or-replicate, length-replicate}
use Rattle.qx_types.proofs.Managers.{number_below}
use Rattle.qx_types.specs.Managers.{manager_count, manager_number}
use Rattle.qx_base.specs.declared.errno.Errno.TheVariants.{EAGAIN, EINVAL}
use Rattle.qx_types.specs.declared.limits.TheConstants.Limits.{PROCESSES, THREADS}
use Rattle.qx_types.specs.UserLimits.{UserLimits}
use Rattle.qx_types.specs.declared.names.Manager.{Manager}
use Rattle.qx_types.specs.declared.names.Proc.{Proc}
use Rattle.qx_types.specs.declared.names.Thread.{Thread}
use Rattle.qx_types.specs.declared.outcome.Outcome.{Outcome}
use Rattle.qx_types.specs.declared.outcome.Outcome.TheVariants.{Refused, WrongState}
use Rattle.qx_machine.specs.declared.rows.ThreadRow.{ThreadRow}
use Rattle.qx_machine.specs.Clients.{may_give, spawn_number}
use Rattle.qx_machine.specs.Events.{no_events}
use Rattle.qx_isolation.specs.Lines.{line_at}
use Rattle.qx_machine.specs.Parts.{thread_of}
use Rattle.qx_machine.specs.Processes.{Process, new_process, new_thread}
use Rattle.qx_machine.specs.Servers.{in_use, no_servers}
use Rattle.qx_isolation.specs.Rows.{row_at, lowest_from, put_row, with_row}
use Rattle.qx_isolation.proofs.Places.{lowest_from_free}
use Rattle.qx_clients.specs.Calls.{has_ended_in, spawned}
use Rattle.qx_queues.specs.inner.Queues.{is_thread_of}
use Rattle.qx_queues.specs.Queues.{stands, unblock_call, thread_cmp, server_cmp}
use Rattle.qx_shared.specs.Shared.{Shared, has_thread, nothing_shared, waiting_in, with_shared_process, users_waiting, waiting_calls}
use Rattle.qx_machine.specs.declared.rows.WaitingCall.{WaitingCall}
use Rattle.qx_machine.specs.Waiting.{no_pipes}
use Rattle.qx_types.specs.declared.limits.TheConstants.Limits.{INODES}
use Rattle.qx_shared.proofs.PresenceLemmas.{has-process, lines-process, servers-process}
use Rattle.qx_chan.specs.Channel.{Channel, after_spawn}
use Rattle.qx_chan.specs.inner.Users.{HasPlace}
use Rattle.qx_chan.specs.Users.{Users, no_processes, process_of_user, process_of, spawn_number_in, thread_row}
use Rattle.qx_rows.proofs.RowLemmas.{row_at-get_or, set-row, with_row-none}
use Rattle.qx_process.proofs.ServerLemmas.{line_at-get_or}
use Rattle.qx_chan.specs.inner.Kept.{IsWaiting, StandTogether, asked_call, has_nodes, stands_at, waits_for}
use Rattle.qx_chan.specs.Nodes.{room_started, served_at}
use Rattle.qx_queues.proofs.EntryLemmas.{or_false}
use Rattle.qx_queues.proofs.NodesLemmas.{same_proc}
use Rattle.qx_chan.proofs.ProcessLemmas.{process_of-other}
use Rattle.qx_chan.proofs.WaitLemmas.{waits-all, some-places}
use Rattle.qx_chan.proofs.RowReads.{length-with_row, lowest-within, option_cases, result_cases, put_row-other, put_row-same, row_at-past, row_at-with_same, row_within}

-- a priority that may be given is one
pub given-lowest : (ceiling prio : ℕ) (allowed : Bool) → may_give ceiling prio ≡ Ok allowed → 1 ≤ prio
unfolding may_give
given-lowest ceiling zero allowed is = let clash : Err (Refused EINVAL) ≡ Ok allowed = is in absurd (cc)
given-lowest ceiling (suc prio) allowed is = omega arith

-- a number that a new process is to have
pub record Numbered (processes : List (Option Process)) (threads prio number : ℕ) : Type 0 where
  pub few_threads : threads ≤ THREADS
  pub lowest_prio : 1 ≤ prio
  pub lowest : number ≡ lowest_from 1 processes
  pub few : number ≤ PROCESSES

abbrev valid : ℕ → Bool
valid threads = nat_le 1 threads && nat_le threads THREADS

pub numbered : (limits : UserLimits) (processes : List (Option Process)) (threads prio number : ℕ) → limits.processes ≤ PROCESSES → spawn_number limits processes threads prio ≡ Ok number → Numbered processes threads prio number
numbered limits processes threads prio number most is = elim (cases_Bool (valid threads)) [
  | inr bad ↦ let clash : Err (Refused EINVAL) ≡ Ok number = rw bad at is in absurd (cc)
  | inl good ↦ elim (result_cases (may_give limits.ceiling prio)) [
    | inr refused ↦ let clash : Err refused.0 ≡ Ok number = rw (good, refused.1) at is in absurd (cc)
    | inl allowed ↦ elim (cases_Bool (nat_le (lowest_from 1 processes) limits.processes)) [
      | inr full ↦ let clash : Err (Refused EAGAIN) ≡ Ok number = rw (good, allowed.1, full) at is in absurd (cc)
      | inl fits ↦
          let made : Ok (lowest_from 1 processes) ≡ Ok number = rw (good, allowed.1, fits) at is in
          let same : lowest_from 1 processes ≡ number = cc in
          record {
            few_threads = grind (arith, nat_tests, good);
            lowest_prio = given-lowest limits.ceiling prio allowed.0 allowed.1;
            lowest = sym same;
            few = let within : lowest_from 1 processes ≤ limits.processes = grind (arith, nat_tests, fits) in omega (arith, within, most, same);
          }
    ]
  ]
]

started-processes : (limits : UserLimits) (rows : List (Option Process)) (threads prio number : ℕ) → spawn_number limits rows threads prio ≡ Ok number → spawned rows threads prio (spawn_number limits rows threads prio) ≡ put_row rows number (new_process threads prio)
started-processes limits rows threads prio number is = rw is refl

-- a process that starts, under its number
pub record Starts (limits : UserLimits) (users : Users) (proc : Proc) (threads prio : ℕ) : Type 0 where
  pub processes : List (Option Process)
  pub row : row_at users proc.user.0 ≡ Some processes
  pub number : spawn_number limits processes threads prio ≡ Ok proc.num
  pub facts : Numbered processes threads prio proc.num

pub starts : (limits : UserLimits) (users : Users) (proc : Proc) (threads prio : ℕ) → limits.processes ≤ PROCESSES → spawn_number_in limits threads prio (row_at users proc.user.0) ≡ Ok proc.num → Starts limits users proc threads prio
starts limits users proc threads prio most is = elim (option_cases (row_at users proc.user.0)) [
  | inl none ↦ let clash : Err WrongState ≡ Ok proc.num = rw none at is in absurd (cc)
  | inr rows ↦
      let number : spawn_number limits rows.0 threads prio ≡ Ok proc.num = rw rows.1 at is in
      record { processes = rows.0; row = rows.1; number = number; facts = numbered limits rows.0 threads prio proc.num most number }
]

-- where it is refused
pub refused_spawn : (limits : UserLimits) (c : Channel) (user threads prio : ℕ) (outcome : Outcome) → spawn_number_in limits threads prio (row_at c.users user) ≡ Err outcome → after_spawn limits c user threads prio ≡ c
refused_spawn limits c user threads prio outcome is = λ i. record c { users = users i; room = room_started c.room threads (is i) }
  where
    users : with_row c.users user (λ processes. spawned processes threads prio (spawn_number limits processes threads prio)) ≡ c.users
    users = elim (option_cases (row_at c.users user)) [
      | inl none ↦ with_row-none c.users user (λ processes. spawned processes threads prio (spawn_number limits processes threads prio)) none
      | inr rows ↦
          let refused : spawn_number limits rows.0 threads prio ≡ Err outcome = rw rows.1 at is in
          rw (rows.1, refused) (set-row c.users user rows.0 rows.1)
    ]

new_is : (threads tid : ℕ) (x : ThreadRow) → is_some (row_at (None ∷ replicate threads (Some x)) tid) ≡ (nat_le 1 tid && nat_le tid threads)
new_is threads zero x = refl
new_is threads (suc k) x = elim (cases_lt k threads) [
  | inl within ↦ rw (row_at-get_or (replicate threads (Some x)) k, get_or-replicate threads k (Some x) None within) (grind (arith, nat_tests, within))
  | inr beyond ↦ rw (row_at-past (replicate threads (Some x)) k (omega (arith, beyond, length-replicate threads (Some x)))) (grind (arith, nat_tests, beyond))
]

new_nodes : (threads prio tid : ℕ) → has_nodes tid (Some (new_process threads prio)) ≡ is_some (row_at (None ∷ replicate threads (Some (new_thread prio))) tid)
new_nodes threads prio tid =
    let rows : List (Option ThreadRow) = None ∷ replicate threads (Some (new_thread prio)) in
    ap (λ over. if over then is_some (row_at {A = List ℕ} [] tid) else is_some (row_at rows tid)) (some-places None (replicate threads (Some (new_thread prio))))

-- what waits and is answered stays as a process gets its nodes

pub pipes-process : (c : Shared) (proc : Proc) (threads : ℕ) → (with_shared_process c proc threads).pipes ≡ c.pipes
pipes-process c proc zero = refl
pipes-process c proc (suc threads) = pipes-process c proc threads

-- and two nodes for each thread come out of the room
pub room-process : (c : Shared) (proc : Proc) (threads : ℕ) → (with_shared_process c proc threads).room ≡ c.room - 2 * threads
room-process c proc zero = omega arith
room-process c proc (suc threads) = let before = room-process c proc threads in omega (arith, before)

-- what is made for them is used
pub room-started : (room threads : ℕ) → max room (2 * threads) - 2 * threads ≡ room - 2 * threads
room-started room threads = omega arith

pub room-spare : (now room threads : ℕ) → now ≡ max room (2 * threads) - 2 * threads → now ≤ max room (2 * threads)
room-spare now room threads is = omega (arith, is)

answered-process : (c : Shared) (proc : Proc) (threads : ℕ) → (with_shared_process c proc threads).answered ≡ c.answered
answered-process c proc zero = refl
answered-process c proc (suc threads) = answered-process c proc threads

new_waits : (threads tid prio number : ℕ) → stands_at number (row_at (None ∷ replicate threads (Some (new_thread prio))) tid) ≡ false
new_waits threads zero prio number = refl
new_waits threads (suc k) prio number = elim (cases_lt k threads) [
  | inl within ↦ rw (row_at-get_or (replicate threads (Some (new_thread prio))) k, get_or-replicate threads k (Some (new_thread prio)) None within) refl
  | inr beyond ↦ rw (row_at-past (replicate threads (Some (new_thread prio))) k (omega (arith, beyond, length-replicate threads (Some (new_thread prio))))) refl
]

new_served : (threads prio : ℕ) (manager : Manager) → served_at manager (Some (new_process threads prio)) ≡ false
new_served threads prio manager = ap (λ servers. is_some (in_use servers)) (line_at-get_or (new_process threads prio).servers (manager_number manager) ∙ get_or-replicate manager_count (manager_number manager) no_servers [] (number_below manager))

module _ (limits : UserLimits) (users : Users) (proc : Proc) (threads prio : ℕ) (begun : Starts limits users proc threads prio) where
  abbrev started : List (Option Process) → List (Option Process)
  started rows = spawned rows threads prio (spawn_number limits rows threads prio)

  abbrev new : Users
  new = with_row users proc.user.0 started

  -- the processes of all users once it is there, by its number
  pub started-users : with_row users proc.user.0 (λ rows. put_row rows proc.num (new_process threads prio)) ≡ new
  started-users = rw (begun.row, begun.number) refl

  old_none : process_of users proc ≡ None
  old_none = rw (begun.row, begun.facts.lowest) (lowest_from_free 1 begun.processes)

  -- no thread of it has nodes
  pub fresh : (queues : Shared) → StandTogether users queues → (tid : ℕ) → has_thread queues (record { proc = proc; tid = tid }) ≡ false
  fresh queues kept tid = kept.threads (record { proc = proc; tid = tid }) ∙ ap (has_nodes tid) old_none

  pub user_within : (queues : Shared) → StandTogether users queues → proc.user.0 < length queues.pipes
  user_within queues kept = rw kept.users (row_within users proc.user.0 begun.processes begun.row)

  module _ (place : HasPlace (row_at users proc.user.0)) where
    within : proc.num ≤ length begun.processes
    within =
        let has : 0 < length begun.processes = rw begun.row at place in
        rw begun.facts.lowest (lowest-within begun.processes has)

    processes : started begun.processes ≡ put_row begun.processes proc.num (new_process threads prio)
    processes = started-processes limits begun.processes threads prio proc.num begun.number

    here : process_of new proc ≡ Some (new_process threads prio)
    here = rw (row_at-with_same users proc.user.0 started, begun.row, processes) (put_row-same begun.processes proc.num (new_process threads prio) within)

    elsewhere : (other : Proc) → other ≢ proc → process_of new other ≡ process_of users other
    elsewhere other differs = process_of-other users proc started (λ rows is n apart.
        let same : rows ≡ begun.processes = some_same rows begun.processes (sym is ∙ begun.row) in
        rw (same, processes) (put_row-other begun.processes proc.num (new_process threads prio) within n apart)) other differs
      where
        some_same : (one other : List (Option Process)) → Some one ≡ Some other → one ≡ other
        some_same one other is = cc

    pub Kept-started : (queues : Shared) → StandTogether users queues → StandTogether (with_row users proc.user.0 (λ processes. spawned processes threads prio (spawn_number limits processes threads prio))) (with_shared_process queues proc threads)
    Kept-started queues kept = record {
      users = ap length (pipes-process queues proc threads) ∙ kept.users ∙ sym (length-with_row users proc.user.0 started);
      managers = ap length (lines-process queues proc threads) ∙ kept.managers;
      threads = λ other. has-process queues proc threads other ∙ elim (same_proc other.proc proc) [
        | inr differs ↦ rw (not_of other differs) (or_false (has_thread queues other) ∙ kept.threads other ∙ ap (has_nodes other.tid) (sym (elsewhere other.proc differs)))
        | inl same ↦ rw (kept.threads other, same, old_none, here) (own_of other same ∙ sym (new_is threads other.tid (new_thread prio)) ∙ sym (new_nodes threads prio other.tid))
      ];
      lines = λ other number. ap (λ lines. stands (line_at lines number) other) (lines-process queues proc threads) ∙ kept.lines other number ∙ elim (same_proc other.proc proc) [
        | inr differs ↦ ap (λ o. stands_at number (thread_of other.tid o)) (sym (elsewhere other.proc differs))
        | inl same ↦ rw (same, old_none, here) (sym (new_waits threads other.tid prio number))
      ];
      pulses = λ other number call is.
          let before : asked_call number call (thread_row users other) ≡ true = kept.pulses other number call (ap (λ lines. unblock_call (line_at lines number) other) (sym (lines-process queues proc threads)) ∙ is) in
          elim (same_proc other.proc proc) [
            | inr differs ↦ ap (λ o. asked_call number call (thread_of other.tid o)) (elsewhere other.proc differs) ∙ before
            | inl same ↦ let clash : false ≡ true = rw (same, old_none) at before in absurd (cc)
          ];
      servers = λ other manager. ap (λ s. set.contains s (other, manager_number manager)) (servers-process queues proc threads) ∙ kept.servers other manager ∙ elim (same_proc other proc) [
        | inr differs ↦ ap (served_at manager) (sym (elsewhere other differs))
        | inl same ↦ rw (same, old_none, here) (sym (new_served threads prio manager))
      ];
      waits = λ list. subst (λ p. AllByRecursion (IsWaiting new) (users_waiting p list)) (sym (pipes-process queues proc threads)) (waits-all users new still ended (waiting_in queues list) (kept.waits list));
      answered = answered-process queues proc threads ∙ kept.answered;
    }
      where
        not_of : (other : Thread) → other.proc ≢ proc → is_thread_of proc threads other ≡ false
        not_of other differs = elim (eqb_tells proc.user.0 other.proc.user.0) [
          | inr apart ↦ rw apart.0 refl
          | inl user ↦ elim (eqb_tells proc.num other.proc.num) [
            | inr apart ↦ rw (user.0, apart.0) refl
            | inl num ↦ absurd (differs (λ i. record { user = record { 0 = sym user.1 i }; num = sym num.1 i }))
          ]
        ]

        still : (other : Thread) (call : ℕ) → waits_for call (thread_row users other) ≡ true → waits_for call (thread_row new other) ≡ true
        still other call is = elim (same_proc other.proc proc) [
          | inr differs ↦ ap (λ o. waits_for call (thread_of other.tid o)) (elsewhere other.proc differs) ∙ is
          | inl same ↦ let clash : false ≡ true = rw (same, old_none) at is in absurd (cc)
        ]

        ended : (other : Proc) → has_ended_in (process_of users other) ≡ true → has_ended_in (process_of new other) ≡ true
        ended other is = elim (same_proc other proc) [
          | inr differs ↦ ap has_ended_in (elsewhere other differs) ∙ is
          | inl same ↦ let clash : false ≡ true = rw (same, old_none) at is in absurd (cc)
        ]

        own_of : (other : Thread) → other.proc ≡ proc → is_thread_of proc threads (record { proc = proc; tid = other.tid }) ≡ (nat_le 1 other.tid && nat_le other.tid threads)
        own_of other same = rw (eq-eqb proc.user.0 proc.user.0 refl, eq-eqb proc.num proc.num refl) refl

abbrev no_rows : List (Option Process)
no_rows = None ∷ []

-- no process is there at boot
none_at_boot : (users : ℕ) (proc : Proc) → process_of (no_processes users) proc ≡ None
none_at_boot users proc = by_user users proc.user.0
  where
    empty : (number : ℕ) → row_at no_rows number ≡ None
    empty zero = refl
    empty (suc number) = refl

    in_rows : (count user : ℕ) → process_of_user proc.num (row_at (replicate count (Some no_rows)) user) ≡ None
    in_rows zero user = refl
    in_rows (suc count) zero = empty proc.num
    in_rows (suc count) (suc user) = in_rows count user

    by_user : (count user : ℕ) → process_of_user proc.num (row_at (None ∷ replicate count (Some no_rows)) user) ≡ None
    by_user count zero = refl
    by_user count (suc user) = in_rows count user

no_pulse : (count number : ℕ) (thread : Thread) → unblock_call (line_at (replicate count []) number) thread ≡ None
no_pulse zero number thread = refl
no_pulse (suc count) zero thread = refl
no_pulse (suc count) (suc number) thread = no_pulse count number thread

no_line : (count number : ℕ) (thread : Thread) → stands (line_at (replicate count []) number) thread ≡ false
no_line zero number thread = refl
no_line (suc count) zero thread = refl
no_line (suc count) (suc number) thread = no_line count number thread

get_same : {A : Type 0} (n i : ℕ) (x : A) → get_or (replicate n x) i x ≡ x
get_same zero i x = refl
get_same (suc n) zero x = refl
get_same (suc n) (suc i) x = get_same n i x

no_calls : (n : ℕ) → waiting_calls (replicate n None) ≡ []
no_calls zero = refl
no_calls (suc n) = no_calls n

none_waits : (n user : ℕ) → users_waiting (replicate n no_pipes) user ≡ []
none_waits n user = ap (λ pipes. map (λ (call : WaitingCall). record { user = user; call = call }) (waiting_calls pipes)) (get_same n user no_pipes) ∙ ap (map (λ (call : WaitingCall). record { user = user; call = call })) (no_calls (INODES + 1))

-- each has a place for events too
pub same-places : (users : ℕ) → length (replicate (users + 1) no_events) ≡ length (replicate (users + 1) no_pipes)
same-places users = length-replicate (users + 1) no_events ∙ sym (length-replicate (users + 1) no_pipes)

pub Kept-empty : (users : ℕ) → StandTogether (no_processes users) (nothing_shared users)
Kept-empty users = record {
  users = length-replicate (users + 1) no_pipes ∙ add-one users ∙ ap suc (sym (length-replicate users (Some no_rows)));
  managers = length-replicate manager_count [];
  threads = λ thread. set.contains-empty thread_cmp thread ∙ sym (ap (has_nodes thread.tid) (none_at_boot users thread.proc));
  lines = λ thread number. no_line manager_count number thread ∙ sym (ap (λ o. stands_at number (thread_of thread.tid o)) (none_at_boot users thread.proc));
  pulses = λ thread number call is. let clash : None ≡ Some call = sym (no_pulse manager_count number thread) ∙ is in absurd (cc);
  servers = λ proc manager. set.contains-empty server_cmp (proc, manager_number manager) ∙ sym (ap (served_at manager) (none_at_boot users proc));
  waits = λ user. subst (AllByRecursion (IsWaiting (no_processes users))) (sym (none_waits (users + 1) user)) tt;
  answered = refl;
}
