-- A received message is performed: what its thread's row and the queues tell before, and what comes of that, as in the machine.
use Rattle.std.proofs.Common.{◌≡◌, ◌≤◌, inl, inr, ℕ, List, Option, Some, None, Ok, Err, refl, sym, ◌∙◌, ap}
use Rattle.std.proofs.lemmas.Option.{none-some}
use Rattle.std.specs.Prelude.{[], IfOk, IsSome, Result}
use Rattle.qx_types.specs.Managers.{manager_number}
use Rattle.qx_base.specs.declared.errno.Errno.{Errno}
use Rattle.qx_base.specs.declared.errno.Errno.TheVariants.{EBADF}
use Rattle.qx_types.specs.declared.limits.TheConstants.Limits.{PROCESSES}
use Rattle.qx_types.specs.declared.names.Coid.{Coid}
use Rattle.qx_types.specs.declared.names.Thread.{Thread}
use Rattle.qx_wire.specs.Reading.{meaning}
use Rattle.qx_machine.specs.declared.rows.Sent.{Sent}
use Rattle.qx_machine.specs.declared.rows.State.{State}
use Rattle.qx_machine.specs.declared.rows.State.TheVariants as stage
use Rattle.qx_machine.specs.declared.rows.State.TheVariants.{Taken}
use Rattle.qx_machine.specs.declared.rows.ThreadRow.{ThreadRow}
use Rattle.qx_isolation.specs.Judgements.{◌>>=◌, found, need}
use Rattle.qx_machine.specs.Parts.{Part, thread_at, thread_of}
use Rattle.qx_machine.specs.Performing.{caller_of, context_of, deed_of, opened_by, or_kept, serve_message, served_by, taken_in, works_over}
use Rattle.qx_machine.specs.Processes.{Process, received_in}
use Rattle.qx_process.specs.Reads.{bytes_received}
use Rattle.qx_isolation.specs.Rows.{row_at}
use Rattle.qx_machine.specs.Servers.{is_numbered}
use Rattle.qx_machine.specs.Wants.{bytes_want_memory, thread_wants_memory}
use Rattle.qx_queues.specs.Queues.{has_answer_among}
use Rattle.qx_shared.specs.Shared.{IsReceived, Shared, waiting_in}
use Rattle.qx_resmgr.specs.Deeds.{HasRoomAfter, IsReplied}
use Rattle.qx_resmgr.specs.declared.functions.Done.{Done}
use Rattle.qx_resmgr.specs.declared.functions.Done.TheVariants.{NoReply, Reply}
use Rattle.qx_resources.specs.State as state
use Rattle.qx_resources.specs.inner.State.{IsCallerReceived}
use Rattle.qx_resources.specs.State.{told}
use Rattle.qx_resources.specs.declared.tables.Tables.{Tables as AllTables}
use Rattle.qx_chan.specs.Calls.{call_with}
use Rattle.qx_chan.specs.inner.Calls.{taken_call}
use Rattle.qx_chan.specs.inner.Kept.{StandTogether}
use Rattle.qx_chan.specs.inner.Serving.{caller_of_call}
use Rattle.qx_chan.specs.Serving.{Serves, part_in, settled}
use Rattle.qx_chan.specs.Users.{Users, process_of_user, thread_row}
use Rattle.qx_chan.specs.declared.call.Call.{Call}
use Rattle.qx_chan.proofs.AnswerLemmas.{taken-stands, taken-unwaiting}
use Rattle.qx_chan.proofs.CallLemmas.{taken_is, waits}
use Rattle.qx_chan.proofs.RowReads.{option_cases}
use Rattle.qx_chan.proofs.ServeLemmas.{Serves-nothing, shown}
use Rattle.qx_chan.proofs.ThreadLemmas.{nodes-there}
use Rattle.qx_chan.proofs.WaitLemmas.{no-call}

-- ---- before

-- a thread whose message was received has nodes, stands in no line, and no call of it waits or is answered
pub received-alone : (users : Users) (queues : Shared) (thread : Thread) (call : Call) → Some call ≡ taken_call (thread_row users thread) → StandTogether users queues → IsReceived queues thread
received-alone users queues thread call is kept = record {
  own = kept.threads thread ∙ (let it = waits taken_in (thread_row users thread) call is in nodes-there users thread it.row it.there);
  idle = λ number. kept.lines thread number ∙ taken-stands number (thread_row users thread) call is;
  no_call = record {
    waiting = λ list. let it = waits taken_in (thread_row users thread) call is in no-call users thread it.row it.there (taken-unwaiting (thread_row users thread) call is) (waiting_in queues list) (kept.waits list);
    answered = ap (λ answers. has_answer_among answers thread) kept.answered;
  };
}

-- of a thread with no message that was received and is not served, no bytes of one are there
pub untaken-bytes : (row : ThreadRow) → None ≡ taken_in row.state → bytes_received (Some row) ≡ []
untaken-bytes row none = by_state row.state none
  where
    by_state : (s : State) → None ≡ taken_in s → received_in s ≡ []
    by_state stage.Ready none = refl
    by_state (stage.Queued sent) none = refl
    by_state (stage.Taken sent) none = absurd (none-some _ none)
    by_state (stage.Waiting sent) none = refl
    by_state (stage.Answered given) none = refl

-- where a judgement gives something, it goes on with that
module _ {B E : Type 0} (P : B → Type 0) where
  if_given : {A : Type 0} (given : Result A E) (next : A → Result B E) → ((a : A) → IfOk (next a) P) → IfOk (given >>= next) P
  if_given (Ok a) next each = each a
  if_given (Err error) next each = tt

-- so the caller of what it works on is of a process that may be, and its message was received
pub caller-received : (k : state.Kept) (w : AllTables) (thread : Thread) (call : Call) (process : Process) (moment : ℕ) (old : Option Coid) → k.user ≡ thread.proc.user.0 → thread.proc.num ≤ PROCESSES → IsReceived w.shared thread
    → IfOk (opened_by process (caller_of_call thread call) call.target moment old) (λ o. IsCallerReceived k w o)
caller-received k w thread call process moment old of few is =
    if_given (IsCallerReceived k w) (works_over call.target.over old) _ (λ coid.
    if_given (IsCallerReceived k w) (found (row_at process.connections coid.0) EBADF) _ (λ connection.
    if_given (IsCallerReceived k w) (need (is_numbered (manager_number call.target.manager) connection.manager) EBADF) _ (λ here.
    if_given (IsCallerReceived k w) (found connection.block EBADF) _ (λ number. record { process = few; received = rw of is }))))

-- what is read of a received message
pub record Received (users : Users) (thread : Thread) (call : Call) : Type 0 where
  pub processes : List (Option Process)
  pub user : row_at users thread.proc.user.0 ≡ Some processes
  pub process : Process
  pub there : row_at processes thread.proc.num ≡ Some process
  pub row : ThreadRow
  pub at : row_at process.threads thread.tid ≡ Some row
  pub sent : Sent
  pub is : row.state ≡ Taken sent
  pub call_is : call_with row sent ≡ call

-- where these were read, one after the other
abbrev pub received : (users : Users) (thread : Thread) (processes : List (Option Process)) → Some processes ≡ row_at users thread.proc.user.0 → (process : Process) → Some process ≡ row_at processes thread.proc.num
    → (row : ThreadRow) → Some row ≡ row_at process.threads thread.tid → (sent : Sent) → Some sent ≡ taken_in row.state → (call : Call) → call ≡ call_with row sent → Received users thread call
received users thread processes user process there row at sent is call call_is = record {
  processes = processes;
  user = sym user;
  process = process;
  there = sym there;
  row = row;
  at = sym at;
  sent = sent;
  is = taken_is row.state sent (sym is);
  call_is = sym call_is;
}

pub taken-received : (users : Users) (thread : Thread) (call : Call) → Received users thread call → Some call ≡ taken_call (thread_row users thread)
taken-received users thread call its = rw (its.user, its.there, its.at, its.is) (ap Some (sym its.call_is))

-- what the machine serves
pub serves-message : (prio : ℕ) (part : Part) (number thread moment : ℕ) (process : Process) (row : ThreadRow) (sent : Sent) → row_at part.processes number ≡ Some process → row_at process.threads thread ≡ Some row → taken_in row.state ≡ Some sent
    → serve_message prio part number thread moment ≡ Ok (served_by prio part (caller_of number thread row sent) sent (deed_of part.resources (context_of process (caller_of number thread row sent) sent.target moment (meaning sent.bytes)) (meaning sent.bytes)))
serves-message prio part number thread moment process row sent there at is = rw (there, at, is) refl

-- ---- after

-- a thread with no received message is left as it is
module _ (prio : ℕ) (thread : Thread) (moment : ℕ) where
  untaken : (part : Part) → taken_call (thread_at part thread.proc.num thread.tid) ≡ None → or_kept part (serve_message prio part thread.proc.num thread.tid moment) ≡ record { part = part; changes = [] }
  untaken part none = elim (option_cases (row_at part.processes thread.proc.num)) [
    | inl nobody ↦ rw nobody refl
    | inr process ↦ elim (option_cases (row_at process.0.threads thread.tid)) [
      | inl nobody ↦ rw (process.1, nobody) refl
      | inr row ↦ elim (option_cases (taken_in row.0.state)) [
        | inl idle ↦ rw (process.1, row.1, idle) refl
        | inr sent ↦
            let call : Call = record { target = sent.0.target; number = row.0.calls; is_asked = sent.0.is_asked } in
            let clash : Some call ≡ None = rw (process.1, row.1, sent.1) at none in
            absurd (cc)
      ]
    ]
  ]

  pub Serves-untaken : (users : Users) (w : AllTables) (k : state.Kept) → k.user ≡ thread.proc.user.0 → taken_call (thread_row users thread) ≡ None
      → Serves (shown users w.shared w.mounts w.events.events) (shown users w.shared w.mounts w.events.events) k k (λ part. settled part (or_kept part (serve_message prio part thread.proc.num thread.tid moment)))
  Serves-untaken users w k of none = Serves-nothing users w k (λ part. or_kept part (serve_message prio part thread.proc.num thread.tid moment)) (λ processes there.
      let idle : taken_call (thread_of thread.tid (process_of_user thread.proc.num (Some processes))) ≡ None = ap (λ rows. taken_call (thread_of thread.tid (process_of_user thread.proc.num rows))) (sym there ∙ ap (row_at users) of) ∙ none in
      untaken (record { processes = processes; resources = told k w }) idle)

-- whether doing a received message may want memory is told by its call
pub received-wants : (users : Users) (w : AllTables) (k : state.Kept) (thread : Thread) (call : Call) (its : Received users thread call) → k.user ≡ thread.proc.user.0 → (moment : ℕ)
    → thread_wants_memory (part_in (shown users w.shared w.mounts w.events.events) k) thread.proc.num thread.tid moment ≡ bytes_want_memory (told k w) (context_of its.process (caller_of_call thread call) call.target moment (meaning its.sent.bytes)) (meaning its.sent.bytes)
received-wants users w k thread call its of moment =
    rw (ap (row_at users) of ∙ its.user, its.there, its.at, ap taken_in its.is)
    (ap (λ (call : Call). bytes_want_memory (told k w) (context_of its.process (caller_of_call thread call) call.target moment (meaning its.sent.bytes)) (meaning its.sent.bytes)) its.call_is)

-- the spare room is there still, where there is a reply
pub room-there : {R : Type 0} (before room : Option R) (given : Result Done Errno) → IsSome before → HasRoomAfter before room given → IsReplied given → IsSome room
room-there before room (Ok NoReply) some left replied = absurd replied
room-there before room (Ok (Reply status effect)) some left replied = rw left some
room-there before room (Err error) some left replied = rw left some
