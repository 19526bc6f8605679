-- One thread's row changes, and its process with it, and one line: when rows, lines and nodes stand together still.
use Rattle.std.proofs.Common.{◌≡◌, ◌≢◌, inl, inr, ℕ, ◌<◌, List, Bool, true, false, Option, Some, None, length, is_some, refl, sym, ◌∙◌, ap}
use Rattle.std.specs.List.{AllByRecursion}
use Rattle.std.specs.Prelude.{◌==◌, option_map, if◌then◌else◌}
use Rattle.std.proofs.lemmas.Bool.{cases_eq}
use Rattle.std.proofs.lemmas.List.{length-set}
use Rattle.qx_types.proofs.Managers.{number_below}
use Rattle.qx_types.specs.Managers.{manager_number}
use Rattle.qx_types.specs.declared.names.Manager.{Manager}
use Rattle.qx_types.specs.declared.names.Proc.{Proc}
use Rattle.qx_types.specs.declared.names.Thread.{Thread}
use Rattle.qx_isolation.specs.declared.rows.Queued.{Queued}
use Rattle.qx_machine.specs.declared.rows.ThreadRow.{ThreadRow}
use Rattle.qx_isolation.specs.Lines.{line_at, with_line}
use Rattle.qx_machine.specs.Parts.{thread_of}
use Rattle.qx_machine.specs.Processes.{Process, has_ended, with_thread}
use Rattle.qx_isolation.specs.Rows.{row_at, with_row}
use Rattle.qx_process.specs.Reads.{is_served}
use Rattle.qx_queues.specs.Queues.{UsersCall, caller, stands, unblock_call}
use Rattle.qx_shared.specs.Shared.{Shared, waiting_in}
use Rattle.qx_clients.specs.Calls.{has_ended_in}
use Rattle.qx_chan.specs.Users.{Users, process_of, thread_row, with_process_of, with_thread_row}
use Rattle.qx_chan.specs.inner.Kept.{IsWaiting, StandTogether, asked_call, has_nodes, may_wait, nodes_for, stands_at, waits_for}
use Rattle.qx_chan.specs.Nodes.{served_at}
use Rattle.qx_queues.proofs.EntryLemmas.{line_at-other, line_at-same}
use Rattle.qx_queues.proofs.NodesLemmas.{same_or_not, same_proc}
use Rattle.qx_chan.proofs.ProcessLemmas.{process_of-other, process_of-same}
use Rattle.qx_chan.proofs.RowReads.{length-with_row, row_at-with_other, row_at-with_same}
use Rattle.qx_chan.proofs.LostLemmas.{Kept-beside, StandBeside}
use Rattle.qx_chan.proofs.WaitLemmas.{there-lives, waits-all}

-- room changes nothing else
pub Kept-room : (users : Users) (queues : Shared) (room : ℕ) → StandTogether users queues → StandTogether users (record queues { room = room })
Kept-room users queues room kept = record { users = kept.users; managers = kept.managers; threads = kept.threads; lines = kept.lines; pulses = kept.pulses; servers = kept.servers; waits = kept.waits; answered = kept.answered }

pub there_with : {A : Type 0} (f : A → A) (o : Option A) → is_some (option_map f o) ≡ is_some o
there_with f None = refl
there_with f (Some x) = refl

-- a thread that is there has nodes
nodes-in : (tid : ℕ) (process : Option Process) (row : ThreadRow) → thread_of tid process ≡ Some row → has_nodes tid process ≡ true
nodes-in tid None row is = let none : None ≡ Some row = is in absurd (cc)
nodes-in tid (Some process) row is = rw (there-lives tid (Some process) row is, is) refl

pub nodes-there : (users : Users) (thread : Thread) (row : ThreadRow) → thread_row users thread ≡ Some row → nodes_for users thread ≡ true
nodes-there users thread row is = nodes-in thread.tid (process_of users thread.proc) row is

-- a process with threads of the same numbers has nodes for the same, and has ended or not as before
module _ (old new : Process) (many : length new.threads ≡ length old.threads) where
  ended-alike : has_ended new ≡ has_ended old
  ended-alike = ap (λ (n : ℕ). n == 0) many

  nodes-alike : (tid : ℕ) → is_some (row_at new.threads tid) ≡ is_some (row_at old.threads tid) → new.held ≡ old.held → has_nodes tid (Some new) ≡ has_nodes tid (Some old)
  nodes-alike tid there held = λ i. if ended-alike i then is_some (row_at (held i) tid) else there i

-- in one process a thread's row changes, and what else is not its threads'
pub record OneThread (new old : Users) (thread : Thread) (f : Process → Process) (g : ThreadRow → ThreadRow) : Type 0 where
  pub users : length new ≡ length old
  pub here : process_of new thread.proc ≡ option_map f (process_of old thread.proc)
  pub elsewhere : (other : Proc) → other ≢ thread.proc → process_of new other ≡ process_of old other
  pub own : thread_row new thread ≡ option_map g (thread_row old thread)
  pub others : (other : Thread) → other ≢ thread → thread_row new other ≡ thread_row old other
  pub nodes : (other : Thread) → nodes_for new other ≡ nodes_for old other
  pub ended : (other : Proc) → has_ended_in (process_of new other) ≡ has_ended_in (process_of old other)

module _ (users : Users) (thread : Thread) (f : Process → Process) (g : ThreadRow → ThreadRow) (threads : (x : Process) → (f x).threads ≡ with_row x.threads thread.tid g) (held : (x : Process) → (f x).held ≡ x.held) where
  here : process_of (with_process_of users thread.proc f) thread.proc ≡ option_map f (process_of users thread.proc)
  here = process_of-same users thread.proc f

  elsewhere : (other : Proc) → other ≢ thread.proc → process_of (with_process_of users thread.proc f) other ≡ process_of users other
  elsewhere other differs = process_of-other users thread.proc (λ rows. with_row rows thread.proc.num f) (λ rows is n apart. row_at-with_other rows thread.proc.num n f apart) other differs

  pub one_thread : OneThread (with_process_of users thread.proc f) users thread f g
  one_thread = record {
    users = length-with_row users thread.proc.user.0 (λ rows. with_row rows thread.proc.num f);
    here = here;
    elsewhere = elsewhere;
    own = ap (thread_of thread.tid) here ∙ in_own (process_of users thread.proc);
    others = λ other differs. elim (same_proc other.proc thread.proc) [
      | inr apart ↦ ap (thread_of other.tid) (elsewhere other.proc apart)
      | inl same ↦
          let tid : other.tid ≢ thread.tid = λ equal. differs (λ i. record { proc = same i; tid = equal i }) in
          rw (same, here) (in_other other.tid tid (process_of users thread.proc))
    ];
    nodes = λ other. elim (same_proc other.proc thread.proc) [
      | inr apart ↦ ap (has_nodes other.tid) (elsewhere other.proc apart)
      | inl same ↦ rw (same, here) (nodes_in other.tid (process_of users thread.proc))
    ];
    ended = λ other. elim (same_proc other thread.proc) [
      | inr apart ↦ ap has_ended_in (elsewhere other apart)
      | inl same ↦ rw (same, here) (ended_in (process_of users thread.proc))
    ];
  }
    where
      many : (x : Process) → length (f x).threads ≡ length x.threads
      many x = ap length (threads x) ∙ length-with_row x.threads thread.tid g

      there_in : (x : Process) (tid : ℕ) → is_some (row_at (f x).threads tid) ≡ is_some (row_at x.threads tid)
      there_in x tid = ap (λ rows. is_some (row_at rows tid)) (threads x) ∙ elim (cases_eq tid thread.tid) [
        | inl same ↦ rw (same, row_at-with_same x.threads thread.tid g) (there_with g (row_at x.threads thread.tid))
        | inr differs ↦ ap is_some (row_at-with_other x.threads thread.tid tid g differs)
      ]

      nodes_in : (tid : ℕ) (o : Option Process) → has_nodes tid (option_map f o) ≡ has_nodes tid o
      nodes_in tid None = refl
      nodes_in tid (Some x) = nodes-alike x (f x) (many x) tid (there_in x tid) (held x)

      ended_in : (o : Option Process) → has_ended_in (option_map f o) ≡ has_ended_in o
      ended_in None = refl
      ended_in (Some x) = ended-alike x (f x) (many x)

      in_own : (o : Option Process) → thread_of thread.tid (option_map f o) ≡ option_map g (thread_of thread.tid o)
      in_own None = refl
      in_own (Some x) = rw (threads x) (row_at-with_same x.threads thread.tid g)

      in_other : (tid : ℕ) → tid ≢ thread.tid → (o : Option Process) → thread_of tid (option_map f o) ≡ thread_of tid o
      in_other tid differs None = refl
      in_other tid differs (Some x) = rw (threads x) (row_at-with_other x.threads thread.tid tid g differs)

-- no row changes
map_same : {A : Type 0} (o : Option A) → o ≡ option_map (λ x. x) o
map_same None = refl
map_same (Some x) = refl

pub no_thread : (users : Users) (thread : Thread) → OneThread users users thread (λ x. x) (λ row. row)
no_thread users thread = record {
  users = refl;
  here = map_same (process_of users thread.proc);
  elsewhere = λ other differs. refl;
  own = map_same (thread_row users thread);
  others = λ other differs. refl;
  nodes = λ other. refl;
  ended = λ other. refl;
}

-- a call of another thread may wait as before
pub waits-apart : (users new : Users) (thread : Thread) (f : Process → Process) (g : ThreadRow → ThreadRow) → OneThread new users thread f g → (own : UsersCall) → caller own ≢ thread → IsWaiting users own → IsWaiting new own
waits-apart users new thread f g one own differs is = by own.call.is_gone is
  where
    by : (gone : Bool) → may_wait gone own.call.thread own.call.call (process_of users (caller own).proc) ≡ true → may_wait gone own.call.thread own.call.call (process_of new (caller own).proc) ≡ true
    by true is = one.ended (caller own).proc ∙ is
    by false is = ap (waits_for own.call.call) (one.others (caller own) differs) ∙ is

-- a call that waits does so still, where the thread whose row changes does
module _ (users new : Users) (queues : Shared) (thread : Thread) (f : Process → Process) (g : ThreadRow → ThreadRow) (one : OneThread new users thread f g) (kept : StandTogether users queues)
    (wait : (call : ℕ) → waits_for call (thread_row users thread) ≡ true → waits_for call (option_map g (thread_row users thread)) ≡ true) where
  waits-one : (other : Thread) (call : ℕ) → waits_for call (thread_row users other) ≡ true → waits_for call (thread_row new other) ≡ true
  waits-one other call is = elim (same_or_not other thread) [
    | inr differs ↦ ap (waits_for call) (one.others other differs) ∙ is
    | inl equal ↦
        ap (λ t. waits_for call (thread_row new t)) equal ∙ ap (waits_for call) one.own
        ∙ wait call (ap (λ t. waits_for call (thread_row users t)) (sym equal) ∙ is)
  ]

  pub waits-told : (list : ℕ) → AllByRecursion (IsWaiting new) (waiting_in queues list)
  waits-told list = waits-all users new waits-one (λ other is. one.ended other ∙ is) (waiting_in queues list) (kept.waits list)

-- a thread whose message stands where it stood, and is asked as it was
module _ (users : Users) (queues : Shared) (thread : Thread) (g : ThreadRow → ThreadRow) (kept : StandTogether users queues)
    (stand : (at : ℕ) → stands_at at (option_map g (thread_row users thread)) ≡ stands_at at (thread_row users thread))
    (pulse : (at call : ℕ) → asked_call at call (option_map g (thread_row users thread)) ≡ asked_call at call (thread_row users thread))
    (wait : (call : ℕ) → waits_for call (thread_row users thread) ≡ true → waits_for call (option_map g (thread_row users thread)) ≡ true) where
  one : OneThread (with_thread_row users thread g) users thread (with_thread thread.tid g) g
  one = one_thread users thread (with_thread thread.tid g) g (λ x. refl) (λ x. refl)

  read_as : {A : Type 0} (read : Option ThreadRow → A) → read (option_map g (thread_row users thread)) ≡ read (thread_row users thread) → (other : Thread) → read (thread_row (with_thread_row users thread g) other) ≡ read (thread_row users other)
  read_as read same other = elim (same_or_not other thread) [
    | inr differs ↦ ap read (one.others other differs)
    | inl equal ↦ rw (equal, one.own) same
  ]

  still_served : (manager : Manager) (o : Option Process) → served_at manager (option_map (with_thread thread.tid g) o) ≡ served_at manager o
  still_served manager None = refl
  still_served manager (Some x) = refl

  pub Kept-thread : StandTogether (with_thread_row users thread g) queues
  Kept-thread = record {
    users = kept.users ∙ sym one.users;
    managers = kept.managers;
    threads = λ other. kept.threads other ∙ sym (one.nodes other);
    lines = λ other at. kept.lines other at ∙ sym (read_as (stands_at at) (stand at) other);
    pulses = λ other at call is. read_as (asked_call at call) (pulse at call) other ∙ kept.pulses other at call is;
    servers = λ other m. kept.servers other m ∙ elim (same_proc other thread.proc) [
      | inr differs ↦ ap (served_at m) (sym (one.elsewhere other differs))
      | inl equal ↦ rw (equal, one.here) (sym (still_served m (process_of users thread.proc)))
    ];
    waits = waits-told users (with_thread_row users thread g) queues thread (with_thread thread.tid g) g one kept wait;
    answered = kept.answered;
  }

-- a line, of which only one thread's items change
pub record OwnLine (new old : List Queued) (thread : Thread) : Type 0 where
  pub stand : (other : Thread) → other ≢ thread → stands new other ≡ stands old other
  pub calls : (other : Thread) → other ≢ thread → unblock_call new other ≡ unblock_call old other

module _ (users new : Users) (queues : Shared) (thread : Thread) (f : Process → Process) (g : ThreadRow → ThreadRow)
    (one : OneThread new users thread f g) (kept : StandTogether users queues) (manager : Manager) (change : List Queued → List Queued) where
  abbrev number : ℕ
  number = manager_number manager

  abbrev lines_after : List (List Queued)
  lines_after = with_line queues.lines number change

  pub within : number < length queues.lines
  within = rw kept.managers (number_below manager)

  pub at_line : line_at lines_after number ≡ change (line_at queues.lines number)
  at_line = line_at-same queues.lines number change within

  pub at_other : (at : ℕ) → at ≢ number → line_at lines_after at ≡ line_at queues.lines at
  at_other at differs = line_at-other queues.lines number change at differs

  -- what is told of the thread itself, in the changed line and in the others
  pub record Own : Type 0 where
    pub line : OwnLine (change (line_at queues.lines number)) (line_at queues.lines number) thread
    pub stand : stands (change (line_at queues.lines number)) thread ≡ stands_at number (thread_row new thread)
    pub stand_other : (at : ℕ) → at ≢ number → stands (line_at queues.lines at) thread ≡ stands_at at (thread_row new thread)
    pub calls : (call : ℕ) → unblock_call (change (line_at queues.lines number)) thread ≡ Some call → asked_call number call (thread_row new thread) ≡ true
    pub calls_other : (at call : ℕ) → at ≢ number → unblock_call (line_at queues.lines at) thread ≡ Some call → asked_call at call (thread_row new thread) ≡ true
    pub waits : (list : ℕ) → AllByRecursion (IsWaiting new) (waiting_in queues list)

  module _ (own : Own) where
    -- a read of one thread in the line of a number
    told_other : {A : Type 0} (told : List Queued → Thread → A) (at : ℕ) (other : Thread) → told (change (line_at queues.lines number)) other ≡ told (line_at queues.lines number) other
        → told (line_at lines_after at) other ≡ told (line_at queues.lines at) other
    told_other told at other same = elim (cases_eq at number) [
      | inl equal ↦ rw (equal, at_line) same
      | inr differs ↦ rw (at_other at differs) refl
    ]

    pub lines_told : (other : Thread) (at : ℕ) → stands (line_at lines_after at) other ≡ stands_at at (thread_row new other)
    lines_told other at = elim (same_or_not other thread) [
      | inr differs ↦ told_other stands at other (own.line.stand other differs) ∙ kept.lines other at ∙ ap (stands_at at) (sym (one.others other differs))
      | inl same ↦ elim (cases_eq at number) [
        | inl equal ↦ rw (same, equal, at_line) own.stand
        | inr apart ↦ rw (same, at_other at apart) (own.stand_other at apart)
      ]
    ]

    pub pulses_told : (other : Thread) (at call : ℕ) → unblock_call (line_at lines_after at) other ≡ Some call → asked_call at call (thread_row new other) ≡ true
    pulses_told other at call is = elim (same_or_not other thread) [
      | inr differs ↦ ap (asked_call at call) (one.others other differs) ∙ kept.pulses other at call (sym (told_other unblock_call at other (own.line.calls other differs)) ∙ is)
      | inl same ↦ elim (cases_eq at number) [
        | inl equal ↦
            let own_is : unblock_call (change (line_at queues.lines number)) thread ≡ Some call = rw (same, equal, at_line) at is in
            rw (same, equal) (own.calls call own_is)
        | inr apart ↦
            let own_is : unblock_call (line_at queues.lines at) thread ≡ Some call = rw (same, at_other at apart) at is in
            rw same (own.calls_other at call apart own_is)
      ]
    ]

    -- but for the disconnect nodes of the process
    pub beside : StandBeside new (record queues { lines = lines_after }) thread.proc
    beside = record {
      users = kept.users ∙ sym one.users;
      managers = length-set _ number _ ∙ kept.managers;
      threads = λ other. kept.threads other ∙ sym (one.nodes other);
      lines = lines_told;
      pulses = pulses_told;
      others = λ other differs manager. kept.servers other manager ∙ ap (served_at manager) (sym (one.elsewhere other differs));
      waits = own.waits;
      answered = kept.answered;
    }

    -- where the process uses the server connections that it used
    pub Kept-changed : ((x : Process) (manager : Manager) → is_served manager (f x) ≡ is_served manager x) → StandTogether new (record queues { lines = lines_after })
    Kept-changed same = Kept-beside new (record queues { lines = lines_after }) thread.proc beside
        (λ manager. kept.servers thread.proc manager ∙ sym (ap (served_at manager) one.here ∙ as_before manager (process_of users thread.proc)))
      where
        as_before : (manager : Manager) (o : Option Process) → served_at manager (option_map f o) ≡ served_at manager o
        as_before manager None = refl
        as_before manager (Some x) = same x manager
