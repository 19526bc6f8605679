-- A process ends: what its threads have in lines goes, and rows, lines and nodes stand together then.
use Rattle.std.proofs.Common.{◌≡◌, ◌≢◌, ◌⊎◌, inl, inr, ℕ, zero, suc, ◌+◌, ◌<◌, ◌≤◌, ◌&&◌, ◌||◌, ◌==◌, ◌++◌, ◌∷◌, [], List, Bool, true, false, not, Option, Some, None, IsTrue, length, map, is_some, get_or, slice_set, refl, sym, ◌∙◌, ap, subst, arith}
use Rattle.qx_clients.specs.Calls.{EndsAt, has_ended_in}
use Rattle.std.proofs.lemmas.Option.{same_Some}
use Rattle.qx_types.proofs.Managers.{number_below}
use Rattle.qx_types.specs.declared.outcome.Answer.{Answer}
use Rattle.qx_paths.specs.Prefixes.{MountPoint}
use Rattle.qx_machine.specs.declared.rows.State.{State}
use Rattle.std.specs.List.{AllByRecursion, flat_map, list_any}
use Rattle.std.specs.Option.{option_to_list}
use Rattle.std.specs.Prelude.{IfSome, option_map, take, if◌then◌else◌}
use Rattle.std.proofs.lemmas.Bool.{cases_eq, cases_lt, eqb-false, eqb-true}
use Rattle.std.proofs.lemmas.List.{append-nil, append_assoc, get_or-set_other, get_or-set_same, length-set, map-append, take_all, take_more}
use Rattle.qx_types.specs.Managers.{manager_count, manager_number}
use Rattle.qx_types.specs.declared.names.Manager.{Manager}
use Rattle.qx_types.specs.declared.names.Proc.{Proc}
use Rattle.qx_types.specs.declared.names.Thread.{Thread}
use Rattle.qx_isolation.specs.declared.rows.OwnItem.TheVariants as item
use Rattle.qx_isolation.specs.declared.rows.Queued.{Queued}
use Rattle.qx_machine.specs.declared.rows.Sent.{Sent}
use Rattle.qx_isolation.specs.declared.rows.ServerName.{ServerName}
use Rattle.qx_machine.specs.declared.rows.State.TheVariants as state
use Rattle.qx_machine.specs.declared.rows.ThreadRow.{ThreadRow}
use Rattle.qx_machine.specs.declared.rows.WaitingCall.{WaitingCall}
use Rattle.qx_machine.specs.Clients.{abandoned, dropped, dropped_by, dropped_in, with_abandoned}
use Rattle.qx_machine.specs.Events.{Events, no_events, without_pulses}
use Rattle.qx_isolation.specs.Lines.{line_at, with_line}
use Rattle.qx_machine.specs.Machine.{line_without, lines_after, changed_manager, line_after}
use Rattle.qx_machine.specs.Parts.{Change, Remove, disconnect, thread_of}
use Rattle.qx_machine.specs.Pipes.{Pipe}
use Rattle.qx_machine.specs.Processes.{Process, ended, has_ended, living, lost_servers, received_by, servers_at}
use Rattle.qx_machine.specs.Servers.{in_use}
use Rattle.qx_isolation.specs.Rows.{row_at, with_row}
use Rattle.qx_machine.specs.Waiting.{Pipes, is_of_process, no_pipes}
use Rattle.std.proofs.lemmas.Grind.{flat_map-append}
use Rattle.std.proofs.Math.Bool.{and-not_self}
use Rattle.qx_isolation.proofs.Places.{at-map}
use Rattle.qx_process.specs.Reads.{LosesAll, is_at, is_served, named, used_servers}
use Rattle.qx_process.proofs.EndLemmas.{each-used, used-listed, used-placed}
use Rattle.qx_queues.specs.Queues.{stands, unblock_call}
use Rattle.qx_queues.proofs.EntryLemmas.{line_at-other, line_at-same}
use Rattle.qx_queues.proofs.LineLemmas.{call-replied_other, call-withdrawn, replied-none, stands-replied, stands-withdrawn_other}
use Rattle.qx_queues.proofs.NodesLemmas.{same_proc}
use Rattle.qx_shared.specs.Shared.{Shared, calls_at, has_disconnect_node, has_thread, pipes_of, users_waiting, waiting_calls, waiting_in, with_shared_line, with_shared_disconnect}
use Rattle.qx_chan.specs.Channel.{after_exit, ended_in}
use Rattle.qx_chan.specs.inner.Ending.{AllHaveNodes, Drops, DropsBelow, HasNothing, IsAsBefore, StandsFor, dropped_below}
use Rattle.qx_chan.specs.inner.Kept.{IsWaiting, StandTogether, asked_call, has_nodes, is_asked_at, may_wait, nodes_for, stands_at, with_lost, is_queued_at}
use Rattle.qx_chan.specs.Nodes.{served_at}
use Rattle.qx_chan.specs.Users.{Users, process_of, thread_row, with_process_of}
use Rattle.qx_chan.proofs.AnswerLemmas.{and_last, and_middle}
use Rattle.qx_chan.proofs.AttachedLemmas.{eqb-differs}
use Rattle.qx_chan.proofs.LostLemmas.{Kept-beside, StandBeside, beside-lost, is_at_server, lost-fields, lost-lines, lost-nodes}
use Rattle.qx_chan.proofs.ProcessLemmas.{process_of-other, process_of-same}
use Rattle.qx_chan.proofs.RowReads.{length-with_row, option_cases, row_at-past, row_at-with_other, row_within}
use Rattle.qx_chan.proofs.ServeLemmas.{shown}
use Rattle.qx_chan.proofs.ServedLemmas.{lines_after-append}

-- ---- changes of lines, one after the other

pub length-lines : (user : ℕ) (lines : List (List Queued)) (changes : List Change) → length (lines_after user lines changes) ≡ length lines
length-lines user lines [] = refl
length-lines user lines (change ∷ changes) = length-lines user (with_line lines (manager_number (changed_manager change)) (line_after user change)) changes ∙ length-set lines _ _

-- ---- one thread

as-before : (old new : Shared) (thread : Thread) → IsAsBefore old new thread → (row : Option ThreadRow) → StandsFor old thread row → StandsFor new thread row
as-before old new thread same row stands = record {
  lines = λ number. same.stand number ∙ stands.lines number;
  pulses = λ number call is. stands.pulses number call (sym (same.calls number) ∙ is);
}

nothing-still : (old new : Shared) (thread : Thread) → IsAsBefore old new thread → HasNothing old thread → HasNothing new thread
nothing-still old new thread same none = record { idle = λ number. same.stand number ∙ none.idle number; unasked = λ number. same.calls number ∙ none.unasked number }

module _ (queues : Shared) (thread : Thread) (row : Option ThreadRow) (stand : StandsFor queues thread row) where
  -- a thread that is not asked to unblock has no pulse
  unasked-by : (number : ℕ) → ((call : ℕ) → asked_call number call row ≡ false) → unblock_call (line_at queues.lines number) thread ≡ None
  unasked-by number never = elim (option_cases (unblock_call (line_at queues.lines number) thread)) [
    | inl none ↦ none
    | inr call ↦ let clash : false ≡ true = sym (never call.0) ∙ stand.pulses number call.0 call.1 in absurd (cc)
  ]

  -- one of whose items none stands in a line
  pub drops-nothing : dropped_by thread.proc.num thread.tid row ≡ [] → ((number : ℕ) → stands_at number row ≡ false) → ((number call : ℕ) → asked_call number call row ≡ false) → Drops queues queues thread row
  drops-nothing none unqueued never = record {
    queues = ap (λ changes. record queues { lines = lines_after thread.proc.user.0 queues.lines changes }) (sym none);
    own = record { idle = λ number. stand.lines number ∙ unqueued number; unasked = λ number. unasked-by number (never number) };
    others = λ other differs. record { stand = λ number. refl; calls = λ number. refl };
  }

module _ (queues : Shared) (thread : Thread) (row : ThreadRow) (sent : Sent) (stand : StandsFor queues thread (Some row)) (managers : length queues.lines ≡ manager_count) where
  abbrev line_number : ℕ
  line_number = manager_number sent.target.manager

  abbrev line : List Queued
  line = line_at queues.lines line_number

  within : line_number < length queues.lines
  within = rw managers (number_below sent.target.manager)

  module _ (change : List Queued → List Queued) where
    -- a read of one line
    told : {A : Type 0} (read : List Queued → A) (at : ℕ) → (at ≡ line_number → read (change line) ≡ read line) → read (line_at (with_line queues.lines line_number change) at) ≡ read (line_at queues.lines at)
    told read at same = elim (cases_eq at line_number) [
      | inl equal ↦ rw (equal, line_at-same queues.lines line_number change within) (same equal)
      | inr differs ↦ ap read (line_at-other queues.lines line_number change at differs)
    ]

  -- its message goes
  module _ (is : row.state ≡ state.Queued sent) where
    abbrev drop_message : List Queued → List Queued
    drop_message = line_without thread.proc.user.0 (item.Message thread.proc.num thread.tid)

    queued_elsewhere : (at : ℕ) → at ≢ line_number → stands_at at (Some row) ≡ false
    queued_elsewhere at differs = rw is (eqb-differs line_number at (λ same. differs (sym same)))

    pub drops-message : stands (drop_message line) thread ≡ false → Drops queues (with_shared_line queues line_number drop_message) thread (Some row)
    drops-message gone = record {
      queues = λ i. record queues { lines = lines_after thread.proc.user.0 queues.lines (dropped_in thread.proc.num thread.tid row.calls (sym is i)) };
      own = record {
        idle = λ at. elim (cases_eq at line_number) [
          | inl equal ↦ rw (equal, line_at-same queues.lines line_number drop_message within) gone
          | inr differs ↦ ap (λ l. stands l thread) (line_at-other queues.lines line_number drop_message at differs) ∙ stand.lines at ∙ queued_elsewhere at differs
        ];
        unasked = λ at. told drop_message (λ l. unblock_call l thread) at (λ equal. call-withdrawn line thread thread) ∙ unasked-by queues thread (Some row) stand at (λ call. rw is refl);
      };
      others = λ other differs. record {
        stand = λ at. told drop_message (λ l. stands l other) at (λ equal. stands-withdrawn_other line thread other differs);
        calls = λ at. told drop_message (λ l. unblock_call l other) at (λ equal. call-withdrawn line thread other);
      };
    }

  -- the pulse that asks to unblock it goes
  module _ (asked : (at call : ℕ) → asked_call at call (Some row) ≡ true → (line_number ≡ at) × (row.calls ≡ call)) (unqueued : (at : ℕ) → stands_at at (Some row) ≡ false)
      (drops : dropped_by thread.proc.num thread.tid (Some row) ≡ Remove sent.target.manager (item.Unblock thread.proc.num thread.tid row.calls) ∷ []) where
    abbrev drop_pulse : List Queued → List Queued
    drop_pulse = line_without thread.proc.user.0 (item.Unblock thread.proc.num thread.tid row.calls)

    pub drops-pulse : (unblock_call line thread ≡ Some row.calls → unblock_call (drop_pulse line) thread ≡ None) → Drops queues (with_shared_line queues line_number drop_pulse) thread (Some row)
    drops-pulse gone = record {
      queues = ap (λ changes. record queues { lines = lines_after thread.proc.user.0 queues.lines changes }) (sym drops);
      own = record {
        idle = λ at. told drop_pulse (λ l. stands l thread) at (λ equal. stands-replied line thread row.calls thread) ∙ stand.lines at ∙ unqueued at;
        unasked = λ at. elim (cases_eq at line_number) [
          | inl equal ↦ rw (equal, line_at-same queues.lines line_number drop_pulse within) left
          | inr differs ↦ ap (λ l. unblock_call l thread) (line_at-other queues.lines line_number drop_pulse at differs) ∙ elsewhere at differs
        ];
      };
      others = λ other differs. record {
        stand = λ at. told drop_pulse (λ l. stands l other) at (λ equal. stands-replied line thread row.calls other);
        calls = λ at. told drop_pulse (λ l. unblock_call l other) at (λ equal. call-replied_other line thread row.calls other differs);
      };
    }
      where
        left : unblock_call (drop_pulse line) thread ≡ None
        left = elim (option_cases (unblock_call line thread)) [
          | inl none ↦ ap (λ l. unblock_call l thread) (replied-none line thread row.calls none) ∙ none
          | inr call ↦ gone (call.1 ∙ ap Some (sym (asked line_number call.0 (stand.pulses line_number call.0 call.1)).1))
        ]

        elsewhere : (at : ℕ) → at ≢ line_number → unblock_call (line_at queues.lines at) thread ≡ None
        elsewhere at differs = elim (option_cases (unblock_call (line_at queues.lines at) thread)) [
          | inl none ↦ none
          | inr call ↦ absurd (differs (sym (asked at call.0 (stand.pulses at call.0 call.1)).0))
        ]

-- what a thread in this state is asked
asked-taken : (row : ThreadRow) (sent : Sent) → row.state ≡ state.Taken sent → (at call : ℕ) → asked_call at call (Some row) ≡ true → (manager_number sent.target.manager ≡ at) × (row.calls ≡ call)
asked-taken row sent is at call asked =
    let both : (sent.is_asked && (manager_number sent.target.manager == at) && (row.calls == call)) ≡ true = ap (is_asked_at at call row.calls) (sym is) ∙ asked in
    (eqb-true (manager_number sent.target.manager) at (and_middle sent.is_asked _ _ both), eqb-true row.calls call (and_last sent.is_asked _ _ both))

asked-waiting : (row : ThreadRow) (sent : Sent) → row.state ≡ state.Waiting sent → (at call : ℕ) → asked_call at call (Some row) ≡ true → (manager_number sent.target.manager ≡ at) × (row.calls ≡ call)
asked-waiting row sent is at call asked =
    let both : (sent.is_asked && (manager_number sent.target.manager == at) && (row.calls == call)) ≡ true = ap (is_asked_at at call row.calls) (sym is) ∙ asked in
    (eqb-true (manager_number sent.target.manager) at (and_middle sent.is_asked _ _ both), eqb-true row.calls call (and_last sent.is_asked _ _ both))

module _ (queues : Shared) (thread : Thread) (row : ThreadRow) (stand : StandsFor queues thread (Some row)) where
  -- a thread in a state of which nothing stands in a line
  drops-idle : (state : State) → row.state ≡ state → dropped_in thread.proc.num thread.tid row.calls state ≡ [] → ((at : ℕ) → is_queued_at at state ≡ false) → ((at call : ℕ) → is_asked_at at call row.calls state ≡ false) → Drops queues queues thread (Some row)
  drops-idle state is none unqueued unasked =
      drops-nothing queues thread (Some row) stand (ap (dropped_in thread.proc.num thread.tid row.calls) is ∙ none) (λ at. ap (is_queued_at at) is ∙ unqueued at) (λ at call. ap (is_asked_at at call row.calls) is ∙ unasked at call)

  pub drops-ready : (row.state ≡ state.Ready) ⊎ ((answer : Answer) × (row.state ≡ state.Answered answer)) → Drops queues queues thread (Some row)
  drops-ready (inl ready) = drops-idle _ ready refl (λ at. refl) (λ at call. refl)
  drops-ready (inr answered) = drops-idle _ answered.1 refl (λ at. refl) (λ at call. refl)

  module _ (sent : Sent) (managers : length queues.lines ≡ manager_count)
      (gone : unblock_call (line_at queues.lines (manager_number sent.target.manager)) thread ≡ Some row.calls → unblock_call (line_without thread.proc.user.0 (item.Unblock thread.proc.num thread.tid row.calls) (line_at queues.lines (manager_number sent.target.manager))) thread ≡ None) where
    -- one whose message was received
    pub drops-taken : row.state ≡ state.Taken sent → Drops queues (with_shared_line queues (manager_number sent.target.manager) (line_without thread.proc.user.0 (item.Unblock thread.proc.num thread.tid row.calls))) thread (Some row)
    drops-taken is = drops-pulse queues thread row sent stand managers (asked-taken row sent is) (λ at. ap (is_queued_at at) is) (ap (dropped_in thread.proc.num thread.tid row.calls) is) gone

    pub drops-waiting : row.state ≡ state.Waiting sent → Drops queues (with_shared_line queues (manager_number sent.target.manager) (line_without thread.proc.user.0 (item.Unblock thread.proc.num thread.tid row.calls))) thread (Some row)
    drops-waiting is = drops-pulse queues thread row sent stand managers (asked-waiting row sent is) (λ at. ap (is_queued_at at) is) (ap (dropped_in thread.proc.num thread.tid row.calls) is) gone

-- ---- the first threads of a process

module _ (users : Users) (proc : Proc) where
  abbrev its : ℕ → Thread
  its tid = record { proc = proc; tid = tid }

  module _ (old now new : Shared) (count : ℕ) (before : DropsBelow users old now proc count) where
    -- the next thread stands as before
    pub stands-next : StandsFor old (its count) (thread_row users (its count)) → StandsFor now (its count) (thread_row users (its count))
    stands-next stand = as-before old now (its count) (before.others (its count) (λ same. omega arith)) (thread_row users (its count)) stand

    pub drops-suc : Drops now new (its count) (thread_row users (its count)) → DropsBelow users old new proc (suc count)
    drops-suc next = record {
      queues = next.queues ∙ ap (λ (q : Shared). record q { lines = lines_after proc.user.0 q.lines its_changes }) before.queues
          ∙ ap (λ lines. record old { lines = lines }) (sym (lines_after-append proc.user.0 old.lines (dropped_below users proc count) its_changes));
      managers = ap (λ (q : Shared). length q.lines) next.queues ∙ length-lines proc.user.0 now.lines its_changes ∙ before.managers;
      own = λ tid below. elim (cases_eq tid count) [
        | inl equal ↦ rw equal next.own
        | inr differs ↦ nothing-still now new (its tid) (next.others (its tid) (λ same. differs (ap (λ (t : Thread). t.tid) same))) (before.own tid (omega (arith, below, differs)))
      ];
      others = λ other above.
          let first = before.others other (λ same. let more = above same in omega (arith, more)) in
          let second = next.others other (λ same. let more = above (ap (λ (t : Thread). t.proc) same) in let at = ap (λ (t : Thread). t.tid) same in omega (arith, more, at)) in
          record { stand = λ number. second.stand number ∙ first.stand number; calls = λ number. second.calls number ∙ first.calls number };
    }
      where
        its_changes : List Change
        its_changes = dropped_by proc.num count (thread_row users (its count))

-- all of them, where there are no more
dropped-next : (number first count : ℕ) (threads : List (Option ThreadRow)) → dropped number first (take (suc count) threads) ≡ dropped number first (take count threads) ++ dropped_by number (first + count) (row_at threads count)
dropped-next number first zero [] = refl
dropped-next number first (suc count) [] = refl
dropped-next number first zero (row ∷ threads) = append-nil (dropped_by number first row) ∙ ap (λ n. dropped_by number n row) (omega arith)
dropped-next number first (suc count) (row ∷ threads) =
    ap (λ changes. dropped_by number first row ++ changes) (dropped-next number (first + 1) count threads)
    ∙ sym (append_assoc (dropped_by number first row) (dropped number (first + 1) (take count threads)) (dropped_by number (first + 1 + count) (row_at threads count)))
    ∙ ap (λ n. (dropped_by number first row ++ dropped number (first + 1) (take count threads)) ++ dropped_by number n (row_at threads count)) (omega arith)

plus-zero : (n : ℕ) → n ≡ 0 + n
plus-zero n = omega arith

module _ (users : Users) (proc : Proc) (process : Process) (there : process_of users proc ≡ Some process) where
  row-there : (tid : ℕ) → thread_row users (record { proc = proc; tid = tid }) ≡ row_at process.threads tid
  row-there tid = ap (thread_of tid) there

  dropped-first : (count : ℕ) → dropped_below users proc count ≡ dropped proc.num 0 (take count process.threads)
  dropped-first zero = refl
  dropped-first (suc count) =
      ap (λ changes. changes ++ dropped_by proc.num count (thread_row users (record { proc = proc; tid = count }))) (dropped-first count)
      ∙ ap (λ row. dropped proc.num 0 (take count process.threads) ++ dropped_by proc.num count row) (row-there count)
      ∙ ap (λ number. dropped proc.num 0 (take count process.threads) ++ dropped_by proc.num number (row_at process.threads count)) (plus-zero count)
      ∙ sym (dropped-next proc.num 0 count process.threads)

  dropped-all : (count : ℕ) → length process.threads ≤ count → dropped_below users proc count ≡ dropped proc.num 0 process.threads
  dropped-all count few = dropped-first count ∙ ap (dropped proc.num 0) (take_all count process.threads few)

-- what a worker holds of a thread is there where the thread is
still-there : (row : Option ThreadRow) → is_some (received_by row) ≡ is_some row
still-there None = refl
still-there (Some row) = refl

-- ---- what is lost

any-listed : (manager : Manager) (lost : List (Option ServerName)) → list_any (is_at manager) lost ≡ list_any (λ server. is_at manager (Some server)) (flat_map option_to_list lost)
any-listed manager [] = refl
any-listed manager (None ∷ lost) = any-listed manager lost
any-listed manager (Some server ∷ lost) = ap (λ b. is_at manager (Some server) || b) (any-listed manager lost)

-- none of the first so many was at a manager
none-before : (number : ℕ) (lost : List (Option ServerName)) (manager : Manager)
    → ((before : ℕ) (server : ServerName) → before < number → row_at lost before ≡ Some server → is_at manager (Some server) ≡ false) → list_any (is_at manager) (take number lost) ≡ false
none-before zero lost manager apart = refl
none-before (suc number) [] manager apart = refl
none-before (suc number) (None ∷ lost) manager apart = none-before number lost manager (λ before server below. apart (suc before) server (omega (arith, below)))
none-before (suc number) (Some server ∷ lost) manager apart =
    rw (apart 0 server (omega arith) refl) (none-before number lost manager (λ before other below. apart (suc before) other (omega (arith, below))))

-- one that was lost has its node still, once the pulses of those before it stand in their lines
pub next-there : (queues : Shared) (prio : ℕ) (proc : Proc) (lost : List (Option ServerName)) → AllHaveNodes queues proc lost → (number : ℕ) (next : Option ServerName) → row_at lost number ≡ next
    → IfSome next (λ server. IsTrue (has_disconnect_node (with_lost prio proc (flat_map option_to_list (take number lost)) queues) proc (manager_number server.manager)))
next-there queues prio proc lost nodes number None is = tt
next-there queues prio proc lost nodes number (Some server) is =
    let had : has_disconnect_node queues proc (manager_number server.manager) ≡ true = subst (λ row. IfSome row (λ server. IsTrue (has_disconnect_node queues proc (manager_number server.manager)))) is (nodes.there number) in
    let none : list_any (λ other. is_at server.manager (Some other)) (flat_map option_to_list (take number lost)) ≡ false =
    sym (any-listed server.manager (take number lost))
    ∙ none-before number lost server.manager (λ before other below there.
    eqb-differs (manager_number other.manager) (manager_number server.manager) (nodes.apart before number other server (λ same. omega (arith, same, below)) there is)) in
    lost-nodes prio proc (flat_map option_to_list (take number lost)) queues server.manager ∙ rw (had, none) refl

with_lost-more : (prio : ℕ) (proc : Proc) (before more : List ServerName) (queues : Shared) → with_lost prio proc (before ++ more) queues ≡ with_lost prio proc more (with_lost prio proc before queues)
with_lost-more prio proc [] more queues = refl
with_lost-more prio proc (server ∷ before) more queues = with_lost-more prio proc before more (with_shared_disconnect queues proc server prio)

-- and its own pulse then
pub with_lost-next : (queues : Shared) (prio : ℕ) (proc : Proc) (lost : List (Option ServerName)) (number : ℕ) → number < length lost
    → with_lost prio proc (flat_map option_to_list (take (number + 1) lost)) queues ≡ with_lost prio proc (option_to_list (get_or lost number None)) (with_lost prio proc (flat_map option_to_list (take number lost)) queues)
with_lost-next queues prio proc lost number within =
    let next : Option ServerName = get_or lost number None in
    ap (λ some. with_lost prio proc (flat_map option_to_list some) queues) (take_more lost number None within)
    ∙ ap (λ some. with_lost prio proc some queues) (flat_map-append option_to_list (take number lost) (next ∷ []) ∙ ap (λ some. flat_map option_to_list (take number lost) ++ some) (append-nil (option_to_list next)))
    ∙ with_lost-more prio proc (flat_map option_to_list (take number lost)) (option_to_list next) queues

-- ---- calls that wait

calls-abandoned : (number : ℕ) (row : Option (Pipe WaitingCall)) → calls_at (option_map (with_abandoned number) row) ≡ map (abandoned number) (calls_at row)
calls-abandoned number None = refl
calls-abandoned number (Some pipe) = sym (map-append (abandoned number) pipe.readers pipe.writers)

waiting-abandoned : (number : ℕ) (pipes : Pipes) → waiting_calls (map (option_map (with_abandoned number)) pipes) ≡ map (abandoned number) (waiting_calls pipes)
waiting-abandoned number [] = refl
waiting-abandoned number (row ∷ pipes) =
    (λ i. calls-abandoned number row i ++ waiting-abandoned number pipes i) ∙ sym (map-append (abandoned number) (calls_at row) (waiting_calls pipes))

-- ---- the process

-- one that lives is there, and has not ended
pub living-there : (row : Option Process) (process : Process) → Some process ≡ living row → (row ≡ Some process) × (has_ended process ≡ false)
living-there None process is = let clash : Some process ≡ None = is in absurd (cc)
living-there (Some there) process is = by (has_ended there) refl is
  where
    by : (over : Bool) → has_ended there ≡ over → Some process ≡ (if over then None else Some there) → (Some there ≡ Some process) × (has_ended process ≡ false)
    by true over is = let clash : Some process ≡ None = is in absurd (cc)
    by false alive is = (sym is, ap has_ended (same_Some process there is) ∙ alive)

module _ (users : Users) (proc : Proc) (process : Process) (there : process_of users proc ≡ Some process) (alive : has_ended process ≡ false) where
  abbrev new : Users
  new = with_process_of users proc ended

  here : process_of new proc ≡ Some (ended process)
  here = process_of-same users proc ended ∙ ap (option_map ended) there

  elsewhere : (other : Proc) → other ≢ proc → process_of new other ≡ process_of users other
  elsewhere other differs = process_of-other users proc (λ rows. with_row rows proc.num ended) (λ rows is n apart. row_at-with_other rows proc.num n ended apart) other differs

  -- what it has lost
  pub loses-all : (now : Users) → now ≡ with_process_of users proc ended → EndsAt (process_of users proc) (process_of now proc) → LosesAll process (ended process)
  loses-all now is ends = subst (EndsAt (Some process)) (ap (λ all. process_of all proc) is ∙ here) (subst (λ row. EndsAt row (process_of now proc)) there ends)

  nodes-ended : (thread : Thread) → nodes_for new thread ≡ nodes_for users thread
  nodes-ended thread = elim (same_proc thread.proc proc) [
    | inr differs ↦ ap (has_nodes thread.tid) (elsewhere thread.proc differs)
    | inl same ↦ rw (same, here, there, alive) (ap is_some (at-map received_by process.threads thread.tid None None refl) ∙ still-there (row_at process.threads thread.tid))
  ]

  -- each call that waits may do so
  module _ (user : ℕ) where
    may-abandoned : (call : WaitingCall) → user ≡ proc.user.0 → IsWaiting users (record { user = user; call = call }) → IsWaiting new (record { user = user; call = abandoned proc.num call })
    may-abandoned call own is = by (is_of_process proc.num call) refl
      where
        by : (of : Bool) → is_of_process proc.num call ≡ of → IsWaiting new (record { user = user; call = if of then record call { is_gone = true } else call })
        by true of =
            let same : (record { user = record { 0 = user }; num = call.process }) ≡ proc = λ i. record { user = record { 0 = own i }; num = eqb-true call.process proc.num of i } in
            ap (λ p. has_ended_in (process_of new p)) same ∙ ap has_ended_in here
        by false of =
            let differs : (record { user = record { 0 = user }; num = call.process }) ≢ proc = λ same. eqb-false call.process proc.num of (ap (λ (p : Proc). p.num) same) in
            ap (may_wait call.is_gone call.thread call.call) (elsewhere _ differs) ∙ is

    may-each : (calls : List WaitingCall) → user ≡ proc.user.0 → AllByRecursion (IsWaiting users) (map (λ call. record { user = user; call = call }) calls) → AllByRecursion (IsWaiting new) (map (λ call. record { user = user; call = call }) (map (abandoned proc.num) calls))
    may-each [] own all = tt
    may-each (call ∷ calls) own all = (may-abandoned call own all.0, may-each calls own all.1)

    may-other : (calls : List WaitingCall) → user ≢ proc.user.0 → AllByRecursion (IsWaiting users) (map (λ call. record { user = user; call = call }) calls) → AllByRecursion (IsWaiting new) (map (λ call. record { user = user; call = call }) calls)
    may-other [] apart all = tt
    may-other (call ∷ calls) apart all =
        let differs : (record { user = record { 0 = user }; num = call.process }) ≢ proc = λ same. apart (ap (λ (p : Proc). p.user.0) same) in
        (ap (may_wait call.is_gone call.thread call.call) (elsewhere _ differs) ∙ all.0, may-other calls apart all.1)

  module _ (old now : Shared) (kept : StandTogether users old) (count : ℕ) (few : length process.threads ≤ count) (dropped_so : DropsBelow users old now proc count) where
    abbrev user : ℕ
    user = proc.user.0

    abbrev left : Shared
    left = record now { pipes = slice_set now.pipes user (map (option_map (with_abandoned proc.num)) (pipes_of now user)) }

    pipes_are : now.pipes ≡ old.pipes
    pipes_are = ap (λ (q : Shared). q.pipes) dropped_so.queues

    has-place : user < length now.pipes
    has-place = rw (pipes_are, kept.users) (elim (option_cases (row_at users user)) [
      | inl none ↦ let clash : None ≡ Some process = rw none at there in absurd (cc)
      | inr rows ↦ row_within users user rows.0 rows.1
    ])

    beyond : (tid : ℕ) → count ≤ tid → thread_row users (record { proc = proc; tid = tid }) ≡ None
    beyond tid above = row-there users proc process there tid ∙ row_at-past process.threads tid (omega (arith, few, above))

    no-row : (tid : ℕ) → thread_row new (record { proc = proc; tid = tid }) ≡ None
    no-row tid = ap (thread_of tid) here

    -- no thread of the process stands anywhere
    own-nothing : (tid : ℕ) → HasNothing now (record { proc = proc; tid = tid })
    own-nothing tid = elim (cases_lt tid count) [
      | inl below ↦ dropped_so.own tid below
      | inr above ↦
          let thread : Thread = record { proc = proc; tid = tid } in
          let same = dropped_so.others thread (λ same. above) in
          let never : (number call : ℕ) → asked_call number call (thread_row users thread) ≡ false = λ number call. ap (asked_call number call) (beyond tid above) in
          record {
            idle = λ number. same.stand number ∙ kept.lines thread number ∙ ap (stands_at number) (beyond tid above);
            unasked = λ number. same.calls number ∙ unasked-by old thread (thread_row users thread) (record { lines = kept.lines thread; pulses = kept.pulses thread }) number (never number);
          }
    ]

    as-others : (thread : Thread) → thread.proc ≢ proc → IsAsBefore old now thread
    as-others thread differs = dropped_so.others thread (λ same. absurd (differs same))

    waits-left : (other : ℕ) → AllByRecursion (IsWaiting new) (waiting_in left other)
    waits-left other = elim (cases_eq other user) [
      | inl own ↦
          let pipes : pipes_of left other ≡ map (option_map (with_abandoned proc.num)) (pipes_of now user) = rw own (get_or-set_same now.pipes user _ no_pipes has-place) in
          let calls : waiting_calls (pipes_of left other) ≡ map (abandoned proc.num) (waiting_calls (pipes_of now user)) = ap waiting_calls pipes ∙ waiting-abandoned proc.num (pipes_of now user) in
          let before : AllByRecursion (IsWaiting users) (waiting_in now other) = subst (λ pipes. AllByRecursion (IsWaiting users) (users_waiting pipes other)) (sym pipes_are) (kept.waits other) in
          subst (λ calls. AllByRecursion (IsWaiting new) (map (λ call. record { user = other; call = call }) calls)) (sym calls)
          (may-each other (waiting_calls (pipes_of now user)) own (subst (λ u. AllByRecursion (IsWaiting users) (map (λ call. record { user = other; call = call }) (waiting_calls (pipes_of now u)))) own before))
      | inr apart ↦
          let pipes : pipes_of left other ≡ pipes_of old other = get_or-set_other now.pipes user other _ no_pipes apart ∙ ap (λ pipes. get_or pipes other no_pipes) pipes_are in
          subst (λ pipes. AllByRecursion (IsWaiting new) (map (λ call. record { user = other; call = call }) (waiting_calls pipes))) (sym pipes)
          (may-other other (waiting_calls (pipes_of old other)) apart (kept.waits other))
    ]

    -- but for the disconnect nodes of the process, rows, lines and nodes stand together
    beside-ended : StandBeside new left proc
    beside-ended = record {
      users = length-set now.pipes user _ ∙ ap length pipes_are ∙ kept.users ∙ sym (length-with_row users user (λ rows. with_row rows proc.num ended));
      managers = dropped_so.managers;
      threads = λ thread. ap (λ (q : Shared). has_thread q thread) dropped_so.queues ∙ kept.threads thread ∙ sym (nodes-ended thread);
      lines = λ thread at. elim (same_proc thread.proc proc) [
        | inl same ↦ rw (same, no-row thread.tid) ((own-nothing thread.tid).idle at)
        | inr differs ↦ (as-others thread differs).stand at ∙ kept.lines thread at ∙ ap (λ o. stands_at at (thread_of thread.tid o)) (sym (elsewhere thread.proc differs))
      ];
      pulses = λ thread at call is. elim (same_proc thread.proc proc) [
        | inl same ↦
            let none : unblock_call (line_at now.lines at) thread ≡ None = rw same ((own-nothing thread.tid).unasked at) in
            let clash : None ≡ Some call = sym none ∙ is in
            absurd (cc)
        | inr differs ↦ ap (λ o. asked_call at call (thread_of thread.tid o)) (elsewhere thread.proc differs) ∙ kept.pulses thread at call (sym ((as-others thread differs).calls at) ∙ is)
      ];
      others = λ other differs manager. ap (λ (q : Shared). has_disconnect_node q other (manager_number manager)) dropped_so.queues ∙ kept.servers other manager ∙ ap (served_at manager) (sym (elsewhere other differs));
      waits = waits-left;
      answered = ap (λ (q : Shared). q.answered) dropped_so.queues ∙ kept.answered;
    }

    abbrev lost : List (Option ServerName)
    lost = used_servers process

    node-here : (manager : Manager) → has_disconnect_node left proc (manager_number manager) ≡ is_served manager process
    node-here manager = ap (λ (q : Shared). has_disconnect_node q proc (manager_number manager)) dropped_so.queues ∙ kept.servers proc manager ∙ ap (served_at manager) there

    -- each server connection that is lost has its disconnect node
    pub all-there : AllHaveNodes left proc lost
    all-there = record {
      there = each-used process (λ number server. IsTrue (has_disconnect_node left proc (manager_number server.manager))) (λ manager. used manager (in_use (servers_at manager process)) refl);
      apart = λ one other server second differs is after same. differs (sym (placed one server is) ∙ same ∙ placed other second after);
    }
      where
        used : (manager : Manager) (number : Option ℕ) → in_use (servers_at manager process) ≡ number → IfSome (option_map (named manager) number) (λ server. IsTrue (has_disconnect_node left proc (manager_number server.manager)))
        used manager None is = tt
        used manager (Some number) is = node-here manager ∙ ap is_some is

        placed : (number : ℕ) (server : ServerName) → row_at lost number ≡ Some server → manager_number server.manager ≡ number
        placed number server is = subst (λ row. IfSome row (λ own. manager_number own.manager ≡ number)) is (used-placed process number)

    module _ (prio : ℕ) (loses : LosesAll process (ended process)) where
      abbrev servers : List ServerName
      servers = flat_map option_to_list lost

      node-before : (manager : Manager) → has_disconnect_node left proc (manager_number manager) ≡ list_any (is_at manager) lost
      node-before manager = node-here manager ∙ used-listed process manager

      pub Kept-ended : StandTogether (with_process_of users proc ended) (with_lost prio proc (flat_map option_to_list lost) left)
      Kept-ended = Kept-beside new (with_lost prio proc servers left) proc (beside-lost new prio proc servers left beside-ended) (λ manager.
          lost-nodes prio proc servers left manager ∙ ap (λ b. b && not (list_any (is_at_server prio proc manager) servers)) (node-before manager ∙ any-listed manager lost)
          ∙ and-not_self (list_any (is_at_server prio proc manager) servers) ∙ sym (ap (served_at manager) here ∙ loses.unserved manager))

      pub pipes-ended : length (with_lost prio proc (flat_map option_to_list lost) left).pipes ≡ length old.pipes
      pipes-ended = ap length (lost-fields prio proc (λ c. c.pipes) (λ c server. refl) servers left) ∙ length-set now.pipes user _ ∙ ap length pipes_are

      pub shown-ended : (mounts : List (List MountPoint)) (events after : List Events) → after ≡ slice_set events user (without_pulses proc.num (get_or events user no_events))
          → shown (with_process_of users proc ended) (with_lost prio proc (flat_map option_to_list lost) left) mounts after ≡ after_exit prio (shown users old mounts events) proc
      shown-ended mounts events after events_are =
          (λ i. record { users = new; lines = lines i; pipes = pipes i; events = events_are i; mounts = mounts; room = room i })
          ∙ ap (ended_in prio (shown users old mounts events) proc) (sym alive_is)
        where
          alive_is : living (process_of users proc) ≡ Some process
          alive_is = rw (there, alive) refl

          lines : (with_lost prio proc servers left).lines ≡ lines_after user old.lines (dropped proc.num 0 process.threads ++ map (disconnect prio proc.num) (lost_servers process (ended process)))
          lines = lost-lines prio proc servers left ∙ ap (λ (q : Shared). lines_after user q.lines (map (disconnect prio proc.num) servers)) dropped_so.queues
              ∙ sym (lines_after-append user old.lines (dropped_below users proc count) (map (disconnect prio proc.num) servers))
              ∙ (λ i. lines_after user old.lines (dropped-all users proc process there count few i ++ map (disconnect prio proc.num) (loses.lost_are i)))

          pipes : (with_lost prio proc servers left).pipes ≡ slice_set old.pipes user (map (option_map (with_abandoned proc.num)) (get_or old.pipes user no_pipes))
          pipes = lost-fields prio proc (λ c. c.pipes) (λ c server. refl) servers left ∙ ap (λ pipes. slice_set pipes user (map (option_map (with_abandoned proc.num)) (get_or pipes user no_pipes))) pipes_are

          room : (with_lost prio proc servers left).room ≡ old.room
          room = lost-fields prio proc (λ c. c.room) (λ c server. refl) servers left ∙ ap (λ (q : Shared). q.room) dropped_so.queues
