-- A process that has ended is freed: rows, lines and nodes stand together then.
use Rattle.std.proofs.Common.{◌≡◌, ◌≢◌, inl, inr, ℕ, zero, suc, ◌||◌, ◌==◌, ◌∷◌, ◌++◌, [], List, Bool, true, false, not, Option, Some, None, length, map, is_some, slice_set, refl, sym, ◌∙◌, ap, subst, eq-eqb, arith, ◌+◌, ◌≤◌}
use Rattle.qx_types.specs.declared.limits.TheConstants.Limits.{THREADS}
use Rattle.std.proofs.lemmas.Grind.{common_steps}
use Rattle.std.specs.List.{AllByRecursion, list_any, position_or_len}
use Rattle.std.specs.Prelude.{option_map, if◌then◌else◌, nat_lt}
use Rattle.std.proofs.lemmas.Bool.{or_parts}
use Rattle.qx_types.specs.Managers.{manager_number}
use Rattle.qx_types.specs.declared.names.Manager.{Manager}
use Rattle.qx_types.specs.declared.names.Proc.{Proc}
use Rattle.qx_types.specs.declared.names.Thread.{Thread}
use Rattle.qx_machine.specs.declared.rows.WaitingCall.{WaitingCall}
use Rattle.qx_machine.specs.declared.rows.ThreadRow.{ThreadRow}
use Rattle.qx_isolation.specs.Lines.{line_at}
use Rattle.qx_machine.specs.Parts.{thread_of}
use Rattle.qx_machine.specs.Pipes.{Pipe}
use Rattle.qx_machine.specs.Processes.{Process, has_ended, has_server}
use Rattle.qx_isolation.specs.Rows.{row_at, with_row}
use Rattle.qx_machine.specs.Servers.{Servers, in_use, is_in_use}
use Rattle.qx_machine.specs.Settling.{has_waiting, row_left}
use Rattle.qx_machine.specs.Waiting.{Pipes, holds, is_of_process}
use Rattle.qx_isolation.proofs.Places.{set-row_at}
use Rattle.qx_queues.specs.Queues.{stands, unblock_call}
use Rattle.qx_queues.proofs.NodesLemmas.{same_proc}
use Rattle.qx_shared.specs.Shared.{Shared, calls_at, has_disconnect_node, has_thread, pipes_of, users_waiting, waiting_calls, without_shared_process, without_threads_below}
use Rattle.qx_rows.proofs.RowLemmas.{with_row-none}
use Rattle.qx_chan.specs.inner.Kept.{IsWaiting, StandTogether, asked_call, has_nodes, may_wait, stands_at}
use Rattle.qx_chan.specs.Nodes.{served_at}
use Rattle.qx_chan.specs.Users.{Users, process_of, thread_row}
use Rattle.qx_chan.proofs.ProcessLemmas.{process_of-other}
use Rattle.qx_chan.proofs.RowReads.{length-with_row, option_cases, row_at-set_other, row_at-set_same, row_at-with_same, row_within, with_row-fixed}
use Rattle.qx_chan.proofs.WaitLemmas.{some-places}

-- what has ended has no thread

no-threads : (threads : List (Option ThreadRow)) → (length threads == 0) ≡ true → (tid : ℕ) → row_at threads tid ≡ None
no-threads [] none tid = refl
no-threads (row ∷ threads) none tid = let clash : false ≡ true = sym (some-places row threads) ∙ none in absurd (cc)

pub ended-row : (users : Users) (proc : Proc) (process : Process) → process_of users proc ≡ Some process → has_ended process ≡ true → (tid : ℕ) → thread_row users (record { proc = proc; tid = tid }) ≡ None
ended-row users proc process there over tid = ap (thread_of tid) there ∙ no-threads process.threads over tid

-- and no unblock pulse
pub unasked-ended : (users : Users) (queues : Shared) (proc : Proc) (process : Process) → process_of users proc ≡ Some process → has_ended process ≡ true → StandTogether users queues
    → (tid at : ℕ) → unblock_call (line_at queues.lines at) (record { proc = proc; tid = tid }) ≡ None
unasked-ended users queues proc process there over kept tid at = elim (option_cases (unblock_call (line_at queues.lines at) (record { proc = proc; tid = tid }))) [
  | inl none ↦ none
  | inr call ↦
      let clash : false ≡ true = ap (asked_call at call.0) (sym (ended-row users proc process there over tid)) ∙ kept.pulses (record { proc = proc; tid = tid }) at call.0 call.1 in
      absurd (cc)
]

-- what has no server connection uses none

no-place : (servers : Servers) → list_any is_some servers ≡ false → nat_lt (position_or_len is_in_use servers) (length servers) ≡ false
no-place [] none = refl
no-place (None ∷ servers) none = grind (arith, common_steps, no-place servers none)
no-place (Some server ∷ servers) none = let clash : true ≡ false = none in absurd (cc)

unused-one : (servers : Servers) → list_any is_some servers ≡ false → is_some (in_use servers) ≡ false
unused-one servers none = grind (arith, common_steps, no-place servers none)

unused : (all : List Servers) (at : ℕ) → list_any (list_any is_some) all ≡ false → is_some (in_use (line_at all at)) ≡ false
unused [] at none = refl
unused (servers ∷ all) zero none = unused-one servers (or_parts (list_any is_some servers) _ none).0
unused (servers ∷ all) (suc at) none = unused all at (or_parts (list_any is_some servers) _ none).1

unserved-all : (process : Process) → has_server process ≡ false → (manager : Manager) → served_at manager (Some process) ≡ false
unserved-all process none manager = unused process.servers (manager_number manager) none

-- none of its calls waits

none-in : (number : ℕ) (calls : List WaitingCall) → list_any (is_of_process number) calls ≡ false → AllByRecursion (λ call. is_of_process number call ≡ false) calls
none-in number [] none = tt
none-in number (call ∷ calls) none = ((or_parts (is_of_process number call) _ none).0, none-in number calls (or_parts (is_of_process number call) _ none).1)

both-in : (number : ℕ) (first second : List WaitingCall) → AllByRecursion (λ call. is_of_process number call ≡ false) first → AllByRecursion (λ call. is_of_process number call ≡ false) second → AllByRecursion (λ call. is_of_process number call ≡ false) (first ++ second)
both-in number [] second all others = others
both-in number (call ∷ first) second all others = (all.0, both-in number first second all.1 others)

row-none : (number : ℕ) (row : Option (Pipe WaitingCall)) → holds (is_of_process number) row ≡ false → AllByRecursion (λ call. is_of_process number call ≡ false) (calls_at row)
row-none number None none = tt
row-none number (Some pipe) none =
    both-in number pipe.readers pipe.writers (none-in number pipe.readers (or_parts (list_any (is_of_process number) pipe.readers) _ none).0) (none-in number pipe.writers (or_parts (list_any (is_of_process number) pipe.readers) _ none).1)

none-waits : (number : ℕ) (pipes : Pipes) → has_waiting pipes number ≡ false → AllByRecursion (λ call. is_of_process number call ≡ false) (waiting_calls pipes)
none-waits number [] none = tt
none-waits number (row ∷ pipes) none =
    both-in number (calls_at row) (waiting_calls pipes) (row-none number row (or_parts (holds (is_of_process number) row) _ none).0) (none-waits number pipes (or_parts (holds (is_of_process number) row) _ none).1)

-- ---- the room for nodes

more-of : (had : Bool) (before now : ℕ) → before ≤ now → before ≤ (if had then now + 2 else now)
more-of true before now more = omega (arith, more)
more-of false before now more = more

more-room : (c : Shared) (proc : Proc) (threads : ℕ) → c.room ≤ (without_threads_below c proc threads).room
more-room c proc zero = omega arith
more-room c proc (suc thread) = more-of (has_thread (without_threads_below c proc thread) (record { proc = proc; tid = thread })) c.room (without_threads_below c proc thread).room (more-room c proc thread)

-- room is kept for what is given back
pub room-freed : (c d : Shared) (proc : Proc) → d ≡ without_shared_process c proc → c.room ≤ d.room
unfolding without_shared_process
room-freed c d proc is = subst (λ (s : Shared). c.room ≤ s.room) (sym is) (more-room c proc (THREADS + 1))

-- ---- the rows

abbrev freed-rows : Users → Proc → Pipes → Users
freed-rows users proc pipes = with_row users proc.user.0 (λ processes. slice_set processes proc.num (row_left [] pipes proc.num (row_at processes proc.num)))

-- where the process stays, nothing is different
pub stays-there : (users : Users) (proc : Proc) (pipes : Pipes) → row_left [] pipes proc.num (process_of users proc) ≡ process_of users proc → users ≡ freed-rows users proc pipes
stays-there users proc pipes same = elim (option_cases (row_at users proc.user.0)) [
  | inl none ↦ sym (with_row-none users proc.user.0 _ none)
  | inr rows ↦
      let its : row_left [] pipes proc.num (row_at rows.0 proc.num) ≡ row_at rows.0 proc.num = rw rows.1 at same in
      sym (with_row-fixed users proc.user.0 _ rows.0 rows.1 (ap (slice_set rows.0 proc.num) its ∙ set-row_at rows.0 proc.num))
]

pub none-stays : (users : Users) (proc : Proc) (pipes : Pipes) → process_of users proc ≡ None → users ≡ freed-rows users proc pipes
none-stays users proc pipes none = stays-there users proc pipes (ap (row_left [] pipes proc.num) none ∙ sym none)

pub kept-stays : (users : Users) (proc : Proc) (pipes : Pipes) (process : Process) → process_of users proc ≡ Some process → (not (has_ended process) || (has_server process || has_waiting pipes proc.num)) ≡ true → users ≡ freed-rows users proc pipes
kept-stays users proc pipes process there some = stays-there users proc pipes (ap (row_left [] pipes proc.num) there ∙ by (has_ended process) (has_server process) (has_waiting pipes proc.num) some ∙ sym there)
  where
    by : (over served waits : Bool) → (not over || (served || waits)) ≡ true → (if not over || (served || false || waits) then Some process else None) ≡ Some process
    by false served waits some = refl
    by true true waits some = refl
    by true false waits some = rw some refl

module _ (users : Users) (proc : Proc) (process : Process) (there : process_of users proc ≡ Some process) (over : has_ended process ≡ true) (unserved : has_server process ≡ false) where
  abbrev new : Users
  new = with_row users proc.user.0 (λ processes. slice_set processes proc.num None)

  -- where it goes, it goes as the machine says
  pub goes-there : (pipes : Pipes) → has_waiting pipes proc.num ≡ false → with_row users proc.user.0 (λ processes. slice_set processes proc.num None) ≡ freed-rows users proc pipes
  goes-there pipes none = elim (option_cases (row_at users proc.user.0)) [
    | inl nobody ↦ with_row-none users proc.user.0 _ nobody ∙ sym (with_row-none users proc.user.0 _ nobody)
    | inr rows ↦
        let its : row_at rows.0 proc.num ≡ Some process = rw rows.1 at there in
        ap (λ (row : Option (List (Option Process))). slice_set users proc.user.0 (option_map (λ processes. slice_set processes proc.num None) row)) rows.1
        ∙ ap (λ (row : Option Process). slice_set users proc.user.0 (Some (slice_set rows.0 proc.num row))) (sym (ap (row_left [] pipes proc.num) its ∙ rw (over, unserved, none) refl))
        ∙ sym (ap (λ (row : Option (List (Option Process))). slice_set users proc.user.0 (option_map (λ processes. slice_set processes proc.num (row_left [] pipes proc.num (row_at processes proc.num))) row)) rows.1)
  ]

  elsewhere : (other : Proc) → other ≢ proc → process_of new other ≡ process_of users other
  elsewhere other differs = process_of-other users proc (λ rows. slice_set rows proc.num None) (λ rows is n apart. row_at-set_other rows proc.num n None apart) other differs

  gone : process_of new proc ≡ None
  gone = elim (option_cases (row_at users proc.user.0)) [
    | inl nobody ↦ let clash : None ≡ Some process = rw nobody at there in absurd (cc)
    | inr rows ↦
        let its : row_at rows.0 proc.num ≡ Some process = rw rows.1 at there in
        rw (row_at-with_same users proc.user.0 (λ processes. slice_set processes proc.num None), rows.1) (row_at-set_same rows.0 proc.num None (row_within rows.0 proc.num process its))
  ]

  module _ (user : ℕ) where
    may-other : (call : WaitingCall) → (user ≡ proc.user.0 → is_of_process proc.num call ≡ false) → IsWaiting users (record { user = user; call = call }) → IsWaiting new (record { user = user; call = call })
    may-other call none is = ap (may_wait call.is_gone call.thread call.call) (elsewhere (record { user = record { 0 = user }; num = call.process }) (λ same.
        let clash : true ≡ false = sym (ap (λ n. n == proc.num) (ap (λ (p : Proc). p.num) same) ∙ eq-eqb proc.num proc.num refl) ∙ none (ap (λ (p : Proc). p.user.0) same) in
        cc)) ∙ is

    may-all : (calls : List WaitingCall) → (user ≡ proc.user.0 → AllByRecursion (λ call. is_of_process proc.num call ≡ false) calls) → AllByRecursion (IsWaiting users) (map (λ call. record { user = user; call = call }) calls)
        → AllByRecursion (IsWaiting new) (map (λ call. record { user = user; call = call }) calls)
    may-all [] none all = tt
    may-all (call ∷ calls) none all = (may-other call (λ own. (none own).0) all.0, may-all calls (λ own. (none own).1) all.1)

  module _ (old queues : Shared) (kept : StandTogether users old) (unwaited : has_waiting (pipes_of old proc.user.0) proc.num ≡ false)
      (lines : queues.lines ≡ old.lines) (pipes : queues.pipes ≡ old.pipes) (answered : queues.answered ≡ old.answered)
      (nodes : (thread : Thread) → thread.proc ≡ proc → has_thread queues thread ≡ false) (other-nodes : (thread : Thread) → thread.proc ≢ proc → has_thread queues thread ≡ has_thread old thread)
      (servers : (other : Proc) (number : ℕ) → has_disconnect_node queues other number ≡ has_disconnect_node old other number) where
    pub Kept-process-freed : StandTogether (with_row users proc.user.0 (λ processes. slice_set processes proc.num None)) queues
    Kept-process-freed = record {
      users = ap length pipes ∙ kept.users ∙ sym (length-with_row users proc.user.0 (λ processes. slice_set processes proc.num None));
      managers = ap length lines ∙ kept.managers;
      threads = λ thread. elim (same_proc thread.proc proc) [
        | inl same ↦ nodes thread same ∙ sym (rw (same, gone) refl)
        | inr differs ↦ other-nodes thread differs ∙ kept.threads thread ∙ ap (has_nodes thread.tid) (sym (elsewhere thread.proc differs))
      ];
      lines = λ thread at. ap (λ all. stands (line_at all at) thread) lines ∙ kept.lines thread at ∙ ap (stands_at at) (sym (row-kept thread));
      pulses = λ thread at call is. ap (asked_call at call) (row-kept thread) ∙ kept.pulses thread at call (ap (λ all. unblock_call (line_at all at) thread) (sym lines) ∙ is);
      servers = λ other manager. servers other (manager_number manager) ∙ kept.servers other manager ∙ elim (same_proc other proc) [
        | inl same ↦ rw (same, there, gone) (unserved-all process unserved manager)
        | inr differs ↦ ap (served_at manager) (sym (elsewhere other differs))
      ];
      waits = λ user. subst (λ pipes. AllByRecursion (IsWaiting new) (users_waiting pipes user)) (sym pipes) (may-all user (waiting_calls (pipes_of old user)) (λ own. none-waits proc.num (pipes_of old user) (ap (λ u. has_waiting (pipes_of old u) proc.num) own ∙ unwaited)) (kept.waits user));
      answered = answered ∙ kept.answered;
    }
      where
        row-kept : (thread : Thread) → thread_row new thread ≡ thread_row users thread
        row-kept thread = elim (same_proc thread.proc proc) [
          | inl same ↦ rw (same, gone, there) (sym (no-threads process.threads over thread.tid))
          | inr differs ↦ ap (thread_of thread.tid) (elsewhere thread.proc differs)
        ]
