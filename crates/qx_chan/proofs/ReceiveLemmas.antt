-- Rows, lines and nodes stand together still as a line's first item is received.
use Rattle.std.proofs.Common.{◌≡◌, ◌≢◌, ◌⊎◌, inl, inr, subst, ℕ, ◌∷◌, [], true, false, List, Option, Some, None, drop, slice_get, refl, sym, ◌∙◌, ap}
use Rattle.std.specs.Prelude.{IsSome, option_map}
use Rattle.std.proofs.lemmas.Bool.{eqb-true}
use Rattle.qx_types.specs.Managers.{manager_number}
use Rattle.qx_types.specs.declared.names.Manager.{Manager}
use Rattle.qx_types.specs.declared.names.Thread.{Thread}
use Rattle.qx_isolation.specs.declared.rows.OwnItem.{OwnItem}
use Rattle.qx_isolation.specs.declared.rows.OwnItem.TheVariants as item
use Rattle.qx_isolation.specs.declared.rows.Queued.{Queued}
use Rattle.qx_isolation.specs.declared.rows.ServerName.{ServerName}
use Rattle.qx_machine.specs.declared.rows.State.{State}
use Rattle.qx_machine.specs.declared.rows.State.TheVariants as state
use Rattle.qx_machine.specs.declared.rows.ThreadRow.{ThreadRow}
use Rattle.qx_isolation.specs.Lines.{line_at}
use Rattle.qx_machine.specs.Processes.{taken_state, taken_thread, with_thread}
use Rattle.qx_queues.specs.Queues.{IsGone, sender, sender_of, stands, unblock_call}
use Rattle.qx_shared.specs.Shared.{Shared, with_shared_line, without_first_shared}
use Rattle.qx_chan.specs.Channel.{users_with_taken}
use Rattle.qx_chan.specs.Users.{Users, thread_row, with_thread_row}
use Rattle.qx_chan.specs.inner.Kept.{StandTogether, asked_call, is_asked_at, is_queued_at, is_waiting_for, stands_at, waits_for}
use Rattle.qx_queues.proofs.EntryLemmas.{is_same_thread-self}
use Rattle.qx_queues.proofs.LineLemmas.{call-received, call-received_other, stands-received, stands-received_other}
use Rattle.qx_chan.proofs.AttachedLemmas.{eqb-differs}
use Rattle.qx_chan.proofs.ThreadLemmas.{Kept-changed, Kept-room, OneThread, Own, no_thread, one_thread, waits-told}
use Rattle.qx_chan.proofs.WaitLemmas.{no-wait}

pub first_of-line : (line : List Queued) (first : Queued) → Some first ≡ slice_get line 0 → line ≡ first ∷ drop 1 line
first_of-line [] first is = cc
first_of-line (other ∷ line) first is = let same : first ≡ other = cc in rw same refl

-- a thread whose message stands somewhere, and stands no more once it is taken
gone_from : (row : Option ThreadRow) (number at : ℕ) → stands_at number row ≡ true → stands_at at (option_map taken_thread row) ≡ false
gone_from None number at is = refl
gone_from (Some row) number at is = by_state row.state is
  where
    by_state : (s : State) → is_queued_at number s ≡ true → is_queued_at at (taken_state s) ≡ false
    by_state state.Ready is = refl
    by_state (state.Queued sent) is = refl
    by_state (state.Taken sent) is = refl
    by_state (state.Waiting sent) is = refl
    by_state (state.Answered answer) is = refl

pub stands_once : (row : Option ThreadRow) (number at : ℕ) → at ≢ number → stands_at number row ≡ true → stands_at at row ≡ false
stands_once None number at differs is = refl
stands_once (Some row) number at differs is = by_state row.state is
  where
    by_state : (s : State) → is_queued_at number s ≡ true → is_queued_at at s ≡ false
    by_state state.Ready is = refl
    by_state (state.Queued sent) is = eqb-differs (manager_number sent.target.manager) at (λ same. differs (sym same ∙ eqb-true (manager_number sent.target.manager) number is))
    by_state (state.Taken sent) is = refl
    by_state (state.Waiting sent) is = refl
    by_state (state.Answered answer) is = refl

-- a thread whose message stands in a line has no unblock pulse
pub queued-unasked : (row : Option ThreadRow) (number : ℕ) → stands_at number row ≡ true → (at call : ℕ) → asked_call at call row ≡ true → ⊥
queued-unasked None number is at call asked = cc
queued-unasked (Some row) number is at call asked = by_state row.state is asked
  where
    by_state : (s : State) → is_queued_at number s ≡ true → is_asked_at at call row.calls s ≡ true → ⊥
    by_state state.Ready is asked = cc
    by_state (state.Queued sent) is asked = cc
    by_state (state.Taken sent) is asked = cc
    by_state (state.Waiting sent) is asked = cc
    by_state (state.Answered answer) is asked = cc

-- and waits for no answer
pub queued-unwaiting : (row : Option ThreadRow) (number : ℕ) → stands_at number row ≡ true → (call : ℕ) → waits_for call row ≡ false
queued-unwaiting None number is call = refl
queued-unwaiting (Some row) number is call = by_state row.state is
  where
    by_state : (s : State) → is_queued_at number s ≡ true → is_waiting_for call row.calls s ≡ false
    by_state state.Ready is = refl
    by_state (state.Queued sent) is = refl
    by_state (state.Taken sent) is = refl
    by_state (state.Waiting sent) is = let clash : false ≡ true = is in absurd (cc)
    by_state (state.Answered answer) is = refl

module _ (users : Users) (queues : Shared) (manager : Manager) (user : ℕ) (prio : ℕ) (rest : List Queued) (kept : StandTogether users queues) where
  abbrev number : ℕ
  number = manager_number manager

  abbrev entry : OwnItem → Queued
  entry own = record { user = record { 0 = user }; item = own; prio = record { 0 = prio } }

  -- a message
  module _ (process tid : ℕ) (line : line_at queues.lines number ≡ entry (item.Message process tid) ∷ rest) (gone : IsGone (entry (item.Message process tid)) rest) where
    abbrev first : Queued
    first = entry (item.Message process tid)

    abbrev thread : Thread
    thread = sender first

    one : OneThread (with_thread_row users thread taken_thread) users thread (with_thread tid taken_thread) taken_thread
    one = one_thread users thread (with_thread tid taken_thread) taken_thread (λ x. refl) (λ x. refl)

    stood : stands_at number (thread_row users thread) ≡ true
    stood = sym (kept.lines thread number) ∙ rw (line, is_same_thread-self thread) refl

    own : Own users (with_thread_row users thread taken_thread) queues thread (with_thread tid taken_thread) taken_thread one kept manager (drop 1)
    own = record {
      line = record {
        stand = λ other differs. rw line (sym (stands-received_other first rest other (λ same. differs (sym same))));
        calls = λ other differs. rw line (sym (call-received first rest other refl));
      };
      stand = rw (line, one.own) (gone ∙ sym (gone_from (thread_row users thread) number number stood));
      stand_other = λ at differs. kept.lines thread at ∙ stands_once (thread_row users thread) number at differs stood ∙ sym (rw one.own (gone_from (thread_row users thread) number at stood));
      calls = λ call is. absurd (none number call (rw line (call-received first rest thread refl ∙ rw line at is)));
      calls_other = λ at call differs is. absurd (none at call is);
      waits = waits-told users (with_thread_row users thread taken_thread) queues thread (with_thread tid taken_thread) taken_thread one kept (no-wait (thread_row users thread) (option_map taken_thread (thread_row users thread)) (queued-unwaiting (thread_row users thread) number stood));
    }
      where
        none : (at call : ℕ) → unblock_call (line_at queues.lines at) thread ≡ Some call → ⊥
        none at call is = queued-unasked (thread_row users thread) number stood at call (kept.pulses thread at call is)

    message-taken : StandTogether (with_thread_row users thread taken_thread) (with_shared_line queues number (drop 1))
    message-taken = Kept-changed users (with_thread_row users thread taken_thread) queues thread (with_thread tid taken_thread) taken_thread one kept manager (drop 1) own (λ x at. refl)

  -- an unblock pulse, which changes no row
  module _ (process tid call : ℕ) (line : line_at queues.lines number ≡ entry (item.Unblock process tid call) ∷ rest) (gone : IsGone (entry (item.Unblock process tid call)) rest) where
    abbrev pulse : Queued
    pulse = entry (item.Unblock process tid call)

    abbrev asked : Thread
    asked = sender pulse

    pulse_own : Own users users queues asked (λ x. x) (λ row. row) (no_thread users asked) kept manager (drop 1)
    pulse_own = record {
      line = record {
        stand = λ other differs. rw line (sym (stands-received pulse rest other refl));
        calls = λ other differs. rw line (sym (call-received_other pulse rest other (λ same. differs (sym same))));
      };
      stand = rw line (sym (stands-received pulse rest asked refl)) ∙ ap (λ l. stands l asked) (sym line) ∙ kept.lines asked number;
      stand_other = λ at differs. kept.lines asked at;
      calls = λ its is. let clash : None ≡ Some its = sym gone ∙ rw line at is in absurd (cc);
      calls_other = λ at its differs is. kept.pulses asked at its is;
      waits = kept.waits;
    }

    pulse-taken : StandTogether users (with_shared_line queues number (drop 1))
    pulse-taken = Kept-changed users users queues asked (λ x. x) (λ row. row) (no_thread users asked) kept manager (drop 1) pulse_own (λ x at. refl)

  -- a disconnect pulse, which changes no row either
  module _ (process : ℕ) (server : ServerName) (line : line_at queues.lines number ≡ entry (item.Disconnect process server) ∷ rest) where
    abbrev left : Queued
    left = entry (item.Disconnect process server)

    left_own : Own users users queues (sender left) (λ x. x) (λ row. row) (no_thread users (sender left)) kept manager (drop 1)
    left_own = record {
      line = record {
        stand = λ other differs. rw line (sym (stands-received left rest other refl));
        calls = λ other differs. rw line (sym (call-received left rest other refl));
      };
      stand = rw line (sym (stands-received left rest (sender left) refl)) ∙ ap (λ l. stands l (sender left)) (sym line) ∙ kept.lines (sender left) number;
      stand_other = λ at differs. kept.lines (sender left) at;
      calls = λ its is. kept.pulses (sender left) number its (rw line (call-received left rest (sender left) refl ∙ (rw line at is)));
      calls_other = λ at its differs is. kept.pulses (sender left) at its is;
      waits = kept.waits;
    }

    left-taken : StandTogether users (with_shared_line queues number (drop 1))
    left-taken = Kept-changed users users queues (sender left) (λ x. x) (λ row. row) (no_thread users (sender left)) kept manager (drop 1) left_own (λ x at. refl)

pub Kept-taken : (users : Users) (queues : Shared) (manager : Manager) (first : Queued) (rest : List Queued) → line_at queues.lines (manager_number manager) ≡ first ∷ rest → IsGone first rest → StandTogether users queues
    → StandTogether (users_with_taken users (sender first) first.item) (with_shared_line queues (manager_number manager) (drop 1))
Kept-taken users queues manager first rest line gone kept = by_item first.item line gone
  where
    by_item : (own : OwnItem) → line_at queues.lines (manager_number manager) ≡ record { user = first.user; item = own; prio = first.prio } ∷ rest → IsGone (record { user = first.user; item = own; prio = first.prio }) rest
        → StandTogether (users_with_taken users (sender_of first.user.0 own) own) (with_shared_line queues (manager_number manager) (drop 1))
    by_item (item.Message process tid) is gone = message-taken users queues manager first.user.0 first.prio.0 rest kept process tid is gone
    by_item (item.Unblock process tid call) is gone = pulse-taken users queues manager first.user.0 first.prio.0 rest kept process tid call is gone
    by_item (item.Disconnect process server) is gone = left-taken users queues manager first.user.0 first.prio.0 rest kept process server is

-- the thread is there whose message stands first in a line
pub message-there : (users : Users) (queues : Shared) (manager : Manager) (first : Queued) (process tid : ℕ) → first.item ≡ item.Message process tid → Some first ≡ slice_get (line_at queues.lines (manager_number manager)) 0 → StandTogether users queues
    → IsSome (thread_row users (sender_of first.user.0 (item.Message process tid)))
message-there users queues manager first process tid is at_front kept = there (thread_row users thread) (stood (drop 1 (line_at queues.lines number)) (first_of-line (line_at queues.lines number) first at_front ∙ ap (λ own. record { user = first.user; item = own; prio = first.prio } ∷ drop 1 (line_at queues.lines number)) is))
  where
    number : ℕ
    number = manager_number manager

    thread : Thread
    thread = sender_of first.user.0 (item.Message process tid)

    stood : (rest : List Queued) → line_at queues.lines number ≡ record { user = first.user; item = item.Message process tid; prio = first.prio } ∷ rest → stands_at number (thread_row users thread) ≡ true
    stood rest line = sym (kept.lines thread number) ∙ rw (line, is_same_thread-self thread) refl

    there : (row : Option ThreadRow) → stands_at number row ≡ true → IsSome row
    there None stands = cc
    there (Some row) stands = refl

-- by what the first item is
module _ (users : Users) (queues : Shared) (manager : Manager) (first : Queued) (own : OwnItem) (is : first.item ≡ own)
    (at_front : Some first ≡ slice_get (line_at queues.lines (manager_number manager)) 0) (gone : IsGone first (drop 1 (line_at queues.lines (manager_number manager)))) (kept : StandTogether users queues) where
  pub Kept-received : StandTogether (users_with_taken users (sender_of first.user.0 own) own) (without_first_shared queues (manager_number manager))
  Kept-received = Kept-room _ (with_shared_line queues (manager_number manager) (drop 1)) _ (subst (λ its. StandTogether (users_with_taken users (sender_of first.user.0 its) its) (with_shared_line queues (manager_number manager) (drop 1))) is
      (Kept-taken users queues manager first (drop 1 (line_at queues.lines (manager_number manager))) (first_of-line _ first at_front) gone kept))

-- a pulse changes no row
module _ (users : Users) (queues : Shared) (manager : Manager) (first : Queued)
    (at_front : Some first ≡ slice_get (line_at queues.lines (manager_number manager)) 0) (gone : IsGone first (drop 1 (line_at queues.lines (manager_number manager)))) (kept : StandTogether users queues) where
  pub Kept-pulse : ((process : ℕ) × (tid : ℕ) × (call : ℕ) × (first.item ≡ item.Unblock process tid call)) ⊎ ((process : ℕ) × (server : ServerName) × (first.item ≡ item.Disconnect process server))
      → StandTogether users (without_first_shared queues (manager_number manager))
  Kept-pulse (inl pulse) = Kept-received users queues manager first (item.Unblock pulse.0 pulse.1 pulse.2) pulse.3 at_front gone kept
  Kept-pulse (inr pulse) = Kept-received users queues manager first (item.Disconnect pulse.0 pulse.1) pulse.2 at_front gone kept
