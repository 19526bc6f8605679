-- Rows, lines and nodes stand together still as a message goes out.
use Rattle.std.proofs.Common.{◌≡◌, ◌≢◌, inl, inr, eq-eqb, ℕ, ◌||◌, ◌&&◌, Bool, true, false, List, Option, Some, None, is_some, refl, subst, sym, ◌∙◌, ap}
use Rattle.std.specs.Prelude.{IsTrue, option_map, slice_set}
use Rattle.std.proofs.lemmas.Bool.{cases_eq, cond_both, false≢true}
use Rattle.qx_types.specs.Managers.{manager_number}
use Rattle.qx_types.specs.declared.names.Manager.{Manager}
use Rattle.qx_types.specs.declared.names.Proc.{Proc}
use Rattle.qx_types.specs.declared.names.Thread.{Thread}
use Rattle.qx_machine.specs.declared.rows.Over.{Over}
use Rattle.qx_machine.specs.declared.rows.Over.TheVariants.{Existing, New, Side}
use Rattle.qx_isolation.specs.declared.rows.Queued.{Queued}
use Rattle.qx_machine.specs.declared.rows.Sent.{Sent}
use Rattle.qx_machine.specs.declared.rows.State.TheVariants.{Ready}
use Rattle.qx_machine.specs.declared.rows.Target.{Target}
use Rattle.qx_machine.specs.declared.rows.ThreadRow.{ThreadRow}
use Rattle.qx_isolation.specs.Lines.{into, line_at}
use Rattle.qx_machine.specs.Machine.{rank}
use Rattle.qx_machine.specs.Parts.{thread_of}
use Rattle.qx_machine.specs.Processes.{Process, queued_thread, with_queued, with_thread}
use Rattle.qx_isolation.specs.Rows.{row_at, with_row}
use Rattle.qx_machine.specs.Servers.{in_use, is_numbered}
use Rattle.qx_process.specs.Reads.{UsesBy, is_served}
use Rattle.qx_queues.specs.Queues.{has_answer_among, message_of, stands, unblock_call}
use Rattle.qx_shared.specs.Shared.{HasNoCall, Shared, has_disconnect_node, has_thread, waiting_in, with_shared_server, with_shared_line}
use Rattle.qx_chan.specs.Users.{IsThreadReady, Users, UsesAt, process_of, process_of_user, thread_row, with_process_of}
use Rattle.qx_chan.specs.inner.Kept.{HasServerNodes, StandTogether, asked_call, is_queued_at, stands_at, waits_for, with_attached, with_room, with_sent}
use Rattle.qx_chan.specs.Nodes.{attaches, served_at}
use Rattle.qx_queues.proofs.EntryLemmas.{is_same_thread-differs, is_same_thread-self, or_false, or_true}
use Rattle.qx_queues.proofs.LineLemmas.{call-sent, stands-sent}
use Rattle.qx_queues.proofs.SetLemmas.{has-server, is_same_server-differs}
use Rattle.qx_chan.proofs.AttachedLemmas.{held-connected, eqb-differs, same_server-self, threads-connected}
use Rattle.qx_chan.proofs.LostLemmas.{Kept-beside, StandBeside}
use Rattle.qx_chan.proofs.ProcessLemmas.{process_of-same}
use Rattle.qx_chan.proofs.RowReads.{row_at-with_same}
use Rattle.qx_chan.proofs.ThreadLemmas.{Kept-room, OneThread, Own, beside, nodes-there, one_thread, waits-told}
use Rattle.qx_chan.proofs.WaitLemmas.{no-call, no-wait}

-- a thread that waits for nothing

pub ready-waits : (row : Option ThreadRow) → IsThreadReady row → (number : ℕ) → stands_at number row ≡ false
ready-waits None ready number = absurd ready
ready-waits (Some row) ready number = ap (is_queued_at number) ready

ready-unasked : (row : Option ThreadRow) → IsThreadReady row → (number call : ℕ) → asked_call number call row ≡ false
ready-unasked None ready number call = absurd ready
ready-unasked (Some row) ready number call = rw ready refl

ready-there : (row : Option ThreadRow) → IsThreadReady row → (there : ThreadRow) × (row ≡ Some there)
ready-there None ready = absurd ready
ready-there (Some row) ready = (row, refl)

ready-unwaiting : (row : Option ThreadRow) → IsThreadReady row → (call : ℕ) → waits_for call row ≡ false
ready-unwaiting None ready call = absurd ready
ready-unwaiting (Some row) ready call = rw ready refl

-- its process has a thread with nodes
pub has-sender : (users : Users) (queues : Shared) (thread : Thread) → IsThreadReady (thread_row users thread) → StandTogether users queues → has_thread queues thread ≡ true
has-sender users queues thread ready kept = let there = ready-there (thread_row users thread) ready in kept.threads thread ∙ nodes-there users thread there.0 there.1

-- and stands in no line
pub waits-nowhere : (users : Users) (queues : Shared) (thread : Thread) → IsThreadReady (thread_row users thread) → StandTogether users queues → (number : ℕ) → stands (line_at queues.lines number) thread ≡ false
waits-nowhere users queues thread ready kept number = kept.lines thread number ∙ ready-waits (thread_row users thread) ready number

-- and waits in no pipe
pub calls-nowhere : (users : Users) (queues : Shared) (thread : Thread) → IsThreadReady (thread_row users thread) → StandTogether users queues → HasNoCall queues thread
calls-nowhere users queues thread ready kept = record {
  waiting = λ list. let there = ready-there (thread_row users thread) ready in no-call users thread there.0 there.1 (ready-unwaiting (thread_row users thread) ready) (waiting_in queues list) (kept.waits list);
  answered = ap (λ answers. has_answer_among answers thread) kept.answered;
}

-- what is judged so comes from a thread that is ready
judged-ready : (row : Option ThreadRow) → option_map (λ row. row.state) row ≡ Some Ready → IsThreadReady row
judged-ready (Some row) is = let ready : row.state ≡ Ready = cc in ready
judged-ready None is = let clash : None ≡ Some Ready = is in absurd (cc)

-- room for the disconnect node of what a message goes over changes nothing else
Kept-with_room : (users : Users) (queues : Shared) (over : Over) → StandTogether users queues → StandTogether users (with_room over queues)
Kept-with_room users queues over kept = cond_both {A = Shared} (attaches over) _ _ (λ q. StandTogether users q) (λ does. Kept-room users queues _ kept) (λ not. kept)

pub own-with_room : (queues : Shared) (over : Over) (thread : Thread) → IsTrue (has_thread queues thread) → IsTrue (has_thread (with_room over queues) thread)
own-with_room queues over thread own = cond_both {A = Shared} (attaches over) _ _ (λ q. IsTrue (has_thread q thread)) (λ does. own) (λ not. own)

-- the disconnect node of what a message goes over

module _ (c : Shared) (proc : Proc) (manager : Manager) where
  has-with_server-other : (other : Proc) (at : ℕ) → other ≢ proc → has_disconnect_node (with_shared_server c proc (manager_number manager)) other at ≡ has_disconnect_node c other at
  has-with_server-other other at differs =
      has-server c.servers proc (manager_number manager) other at ∙ rw (is_same_server-differs proc other (manager_number manager) at (λ same. absurd (differs same))) (or_false (has_disconnect_node c other at))

  pub has-with_server-self : (at : ℕ) → has_disconnect_node (with_shared_server c proc (manager_number manager)) proc at ≡ (has_disconnect_node c proc at || is_numbered at manager)
  has-with_server-self at = has-server c.servers proc (manager_number manager) proc at ∙ ap (λ b. has_disconnect_node c proc at || b) (same_server-self proc (manager_number manager) at)

-- what a process uses once it has attached what a message goes over

served-numbered : (one other : Manager) (process : Option Process) → manager_number one ≡ manager_number other → served_at one process ≡ served_at other process
served-numbered one other None same = refl
served-numbered one other (Some process) same = ap (λ number. is_some (in_use (line_at process.servers number))) same

others-by : (over : Over) (manager : Manager) (before after : Process) → UsesBy over manager before after → (other : Manager) → manager_number other ≢ manager_number manager → is_served other after ≡ is_served other before
others-by (New coid) manager before after uses other differs = uses.others other differs
others-by (Existing coid) manager before after uses other differs = ap (λ servers. is_some (in_use (line_at servers (manager_number other)))) uses
others-by Side manager before after uses other differs = uses.others other differs

pub uses-others : (target : Target) (before after : Option Process) → UsesAt target before after → (other : Manager) → manager_number other ≢ manager_number target.manager → served_at other after ≡ served_at other before
uses-others target (Some before) (Some after) uses other differs = others-by target.over target.manager before after uses other differs
uses-others target None None uses other differs = refl
uses-others target (Some before) None uses other differs = absurd uses
uses-others target None (Some after) uses other differs = absurd uses

unmade : (before after : Bool) → (before ≡ true → after ≡ true) → after ≡ false → before ≡ after
unmade true after here none = absurd (false≢true (sym none ∙ here refl))
unmade false after here none = sym none

unmade-by : (over : Over) (manager : Manager) (before after : Process) → UsesBy over manager before after → (attaches over && is_served manager after) ≡ false → is_served manager before ≡ is_served manager after
unmade-by (New coid) manager before after uses none = unmade _ _ uses.here none
unmade-by (Existing coid) manager before after uses none = ap (λ servers. is_some (in_use (line_at servers (manager_number manager)))) (sym uses)
unmade-by Side manager before after uses none = unmade _ _ uses.here none

-- where no node is made, a server connection is in use as before
pub uses-unmade : (target : Target) (before after : Option Process) → UsesAt target before after → (attaches target.over && served_at target.manager after) ≡ false → served_at target.manager before ≡ served_at target.manager after
uses-unmade target (Some before) (Some after) uses none = unmade-by target.over target.manager before after uses none
uses-unmade target None None uses none = refl
uses-unmade target (Some before) None uses none = absurd uses
uses-unmade target None (Some after) uses none = absurd uses

pub and_second : (a b : Bool) → (a && b) ≡ true → b ≡ true
and_second true b both = both
and_second false b both = absurd (false≢true both)

-- a process whose thread was ready, and whose message goes out

module _ (users : Users) (queues : Shared) (thread : Thread) (sent : Sent) (ready : IsThreadReady (thread_row users thread)) (kept : StandTogether users queues) where
  abbrev number : ℕ
  number = manager_number sent.target.manager

  abbrev f : Process → Process
  f = with_queued thread.tid sent

  abbrev new : Users
  new = with_process_of users thread.proc f

  abbrev change : List Queued → List Queued
  change line = into rank line (message_of thread sent.target.prio.0)

  abbrev queues_sent : Shared
  queues_sent = with_shared_line queues number change

  one : OneThread new users thread f (queued_thread sent)
  one = one_thread users thread f (queued_thread sent) (λ x. threads-connected thread.tid sent.target.manager sent.target.over (with_thread thread.tid (queued_thread sent) x))
      (λ x. held-connected thread.tid sent.target.manager sent.target.over (with_thread thread.tid (queued_thread sent) x))

  queued_at : (row : Option ThreadRow) → IsThreadReady row → (at : ℕ) → stands_at at (option_map (queued_thread sent) row) ≡ is_numbered at sent.target.manager
  queued_at None ready at = absurd ready
  queued_at (Some row) ready at = refl

  abbrev line : List Queued
  line = line_at queues.lines number

  own : Own users new queues thread f (queued_thread sent) one kept sent.target.manager change
  own = record {
    line = record {
      stand = λ other differs. stands-sent rank line thread sent.target.prio.0 other ∙ ap (λ b. stands line other || b) (is_same_thread-differs thread other (λ same. differs (sym same))) ∙ or_false (stands line other);
      calls = λ other differs. call-sent rank line thread sent.target.prio.0 other;
    };
    stand = stands-sent rank line thread sent.target.prio.0 thread ∙ ap (λ b. stands line thread || b) (is_same_thread-self thread) ∙ or_true (stands line thread)
        ∙ sym (rw one.own (queued_at (thread_row users thread) ready number ∙ eq-eqb number number refl));
    stand_other = λ at differs. waits-nowhere users queues thread ready kept at ∙ sym (rw one.own (queued_at (thread_row users thread) ready at ∙ eqb-differs number at (λ equal. differs (sym equal))));
    calls = λ call is. absurd (none number call (sym (call-sent rank line thread sent.target.prio.0 thread) ∙ is));
    calls_other = λ at call differs is. absurd (none at call is);
    waits = waits-told users new queues thread f (queued_thread sent) one kept (no-wait (thread_row users thread) (option_map (queued_thread sent) (thread_row users thread)) (ready-unwaiting (thread_row users thread) ready));
  }
    where
      none : (at call : ℕ) → unblock_call (line_at queues.lines at) thread ≡ Some call → ⊥
      none at call is = let clash : true ≡ false = sym (kept.pulses thread at call is) ∙ ready-unasked (thread_row users thread) ready at call in cc

  module _ (uses : UsesAt sent.target (process_of users thread.proc) (process_of new thread.proc)) where
    abbrev queues_attached : Shared
    queues_attached = with_attached thread.proc (process_of new thread.proc) sent.target queues_sent

    -- the process has the disconnect nodes of what it uses then
    attached_nodes : HasServerNodes new queues_attached thread.proc
    attached_nodes m = cond_both {A = Shared} (attaches sent.target.over && served_at sent.target.manager (process_of new thread.proc)) _ _ (λ q. has_disconnect_node q thread.proc (manager_number m) ≡ served_at m (process_of new thread.proc))
        (λ made. has-with_server-self queues_sent thread.proc sent.target.manager (manager_number m) ∙ elim (cases_eq (manager_number m) number) [
          | inl same ↦
              let here : served_at m (process_of new thread.proc) ≡ true = served-numbered m sent.target.manager (process_of new thread.proc) same ∙ and_second (attaches sent.target.over) _ made in
              rw (same, eq-eqb number number refl, here) (or_true (has_disconnect_node queues thread.proc number))
          | inr differs ↦ rw (eqb-differs number (manager_number m) (λ is. differs (sym is))) (or_false (has_disconnect_node queues thread.proc (manager_number m)) ∙ kept.servers thread.proc m ∙ sym (uses-others sent.target _ _ uses m differs))
        ])
        (λ none. kept.servers thread.proc m ∙ elim (cases_eq (manager_number m) number) [
          | inl same ↦ served-numbered m sent.target.manager (process_of users thread.proc) same ∙ uses-unmade sent.target _ _ uses none ∙ sym (served-numbered m sent.target.manager (process_of new thread.proc) same)
          | inr differs ↦ sym (uses-others sent.target _ _ uses m differs)
        ])

    beside_attached : StandBeside new queues_attached thread.proc
    beside_attached = cond_both {A = Shared} (attaches sent.target.over && served_at sent.target.manager (process_of new thread.proc)) _ _ (λ q. StandBeside new q thread.proc)
        (λ made. let before = beside users new queues thread f (queued_thread sent) one kept sent.target.manager change own in
        record {
          users = before.users;
          managers = before.managers;
          threads = before.threads;
          lines = before.lines;
          pulses = before.pulses;
          others = λ other differs m. has-with_server-other queues_sent thread.proc sent.target.manager other (manager_number m) differs ∙ before.others other differs m;
          waits = before.waits;
          answered = before.answered;
        })
        (λ none. beside users new queues thread f (queued_thread sent) one kept sent.target.manager change own)

    Kept-sent : StandTogether (with_process_of users thread.proc (with_queued thread.tid sent))
        (with_attached thread.proc (process_of (with_process_of users thread.proc (with_queued thread.tid sent)) thread.proc) sent.target
        (with_shared_line queues (manager_number sent.target.manager) (λ line. into rank line (message_of thread sent.target.prio.0))))
    Kept-sent = Kept-beside new queues_attached thread.proc beside_attached attached_nodes

-- ---- the processes of the thread's user, as they are lent for its call

module _ (users : Users) (thread : Thread) (rows : List (Option Process)) (there : row_at users thread.proc.user.0 ≡ Some rows) where
  pub ready-lent : option_map (λ row. row.state) (thread_of thread.tid (row_at rows thread.proc.num)) ≡ Some Ready → IsThreadReady (thread_row users thread)
  ready-lent is = judged-ready (thread_row users thread) (rw there is)

  module _ (queues : Shared) (sent : Sent) (after : List (Option Process)) (left : Shared)
      (changed : after ≡ with_row rows thread.proc.num (with_queued thread.tid sent))
      (uses : UsesAt sent.target (row_at rows thread.proc.num) (row_at after thread.proc.num))
      (put : left ≡ with_sent thread sent (row_at after thread.proc.num) queues) where
    abbrev users_after : Users
    users_after = with_process_of users thread.proc (with_queued thread.tid sent)

    -- they are put back with the process that has sent its message
    pub users-called : slice_set users thread.proc.user.0 (Some after) ≡ users_after
    users-called = rw (changed, there) refl

    process-called : row_at after thread.proc.num ≡ process_of users_after thread.proc
    process-called =
        ap (λ rows. row_at rows thread.proc.num) changed
        ∙ row_at-with_same rows thread.proc.num (with_queued thread.tid sent)
        ∙ sym (process_of-same users thread.proc (with_queued thread.tid sent) ∙ ap (λ rows. option_map (with_queued thread.tid sent) (process_of_user thread.proc.num rows)) there)

    pub uses-called : UsesAt sent.target (process_of users thread.proc) (process_of users_after thread.proc)
    uses-called = subst (λ process. UsesAt sent.target (process_of users thread.proc) process) process-called (rw there uses)

    pub left-called : left ≡ with_sent thread sent (process_of users_after thread.proc) queues
    left-called = put ∙ ap (λ process. with_sent thread sent process queues) process-called

    pub Kept-called : IsThreadReady (thread_row users thread) → StandTogether users queues → StandTogether (slice_set users thread.proc.user.0 (Some after)) left
    Kept-called ready kept = rw (users-called, left-called) (Kept-sent users (with_room sent.target.over queues) thread sent ready (Kept-with_room users queues sent.target.over kept) uses-called)
