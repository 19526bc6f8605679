-- After a line nothing is left untold: no thread has an answer, and free process a pulse, that is not taken.
use Rattle.std.proofs.Common.{◌≡◌, eq-eqb, ℕ, zero, suc, ◌+◌, ◌-◌, ◌≤◌, ◌<◌, List, [], ◌∷◌, ◌++◌, Bool, true, false, length, refl, sym, ap, subst, ◌∙◌, arith, get_or, if◌then◌else◌, slice_set}
use Rattle.std.specs.Prelude.{◌&&◌, ◌==◌, nat_eq, All, Option, Some, None, Ok, drop, is_some, option_map, slice_get}
use Rattle.std.specs.List.{range_with_len}
use Rattle.std.proofs.lemmas.Bool.{cond_both, eqb-true, false≢true}
use Rattle.std.proofs.lemmas.Bool.Decides.{nat_tests}
use Rattle.std.proofs.lemmas.List.FromFn.{get_or-range_with_len, length-range_with_len}
use Rattle.std.proofs.lemmas.List.Elements.{All-cons, All-nil, All-weaker}
use Rattle.qx_types.specs.Configuration.{Configuration}
use Rattle.qx_types.specs.Step.{actor_of, user_of}
use Rattle.qx_types.specs.declared.limits.TheConstants.Limits.{PROCESSES, THREADS}
use Rattle.qx_types.specs.declared.names.Actor.{Actor}
use Rattle.qx_types.specs.declared.names.Actor.TheVariants.{OfProc, OfThread}
use Rattle.qx_types.specs.declared.names.Proc.{Proc}
use Rattle.qx_types.specs.declared.names.Thread.{Thread}
use Rattle.qx_types.specs.declared.outcome.Answer.{Answer}
use Rattle.qx_types.specs.declared.outcome.Outcome.TheVariants.{WrongState}
use Rattle.qx_types.specs.declared.step.Step.{Step}
use Rattle.qx_types.specs.declared.step.Step.TheVariants.{TakeReply, TakePulse}
use Rattle.qx_isolation.specs.Judgements.{◌>>=◌, found}
use Rattle.qx_isolation.specs.Lines.{line_at, with_line}
use Rattle.qx_isolation.specs.Rows.{row_at, with_row}
use Rattle.qx_isolation.specs.System as system
use Rattle.qx_isolation.specs.declared.rows.OwnItem.{OwnItem}
use Rattle.qx_isolation.proofs.Views.{row_at-view}
use Rattle.qx_machine.specs.declared.rows.Pulse.{Pulse}
use Rattle.qx_machine.specs.declared.rows.ThreadRow.{ThreadRow}
use Rattle.qx_machine.specs.Clients.{answer_in, or_unchanged, outcome_of, pulse_taken}
use Rattle.qx_machine.specs.Events.{first_pulse, without_first_pulse}
use Rattle.qx_machine.specs.Machine.{World, boot, boot_parts, client_step, named_thread, own_held, step, view}
use Rattle.qx_machine.specs.Parts.{Part, thread_at, thread_of, with_thread_of}
use Rattle.qx_machine.specs.Processes.{Process, living, ready_thread, with_thread}
use Rattle.qx_machine.specs.Reads.{is_thread_answered, process_of_part}
use Rattle.qx_machine.specs.Runs.{world_after}
use Rattle.qx_machine.specs.Settling.{is_living, row_left, settled}
use Rattle.qx_machine.specs.Users as users
use Rattle.qx_machine.specs.Waiting.{Pipes}
use Rattle.qx_machine.proofs.Living.{keeps-thread, lives-changed}
use Rattle.qx_machine.proofs.NotifyLemmas.{settled-unchanged}
use Rattle.qx_machine.proofs.Settled.{row_at-left}
use Rattle.qx_live.specs.Chosen.{each, followed, served_steps}
use Rattle.qx_live.specs.Live.{Session, after_lines, begun, has_pulse, is_answered, is_pulse, line_steps, live_steps, process_steps, pulse_count, pulse_steps, pulses, reply_steps, steps_by, told_steps}
use Rattle.qx_live.specs.declared.line.LiveLine.{LiveLine}
use Rattle.qx_live.proofs.Owned.{after_append, unseen_after}
use Rattle.qx_live.proofs.Serving.{Quiet, client_is}
use Rattle.qx_live.proofs.Sessions.{line_of_user, quiet_boot, session_is}

-- ---- a user's rows: which threads have an answer, and which processes a pulse

abbrev pub answer_at : Option Part → ℕ → ℕ → Bool
answer_at row process thread = is_thread_answered (thread_of thread (process_of_part process row))

abbrev pub pulse_at : Option Part → ℕ → Bool
pulse_at None process = false
pulse_at (Some part) process = is_living part.processes process && is_some (first_pulse process part.resources.events)

-- what had no answer has none, and what had no pulse has none
pub record Fewer (before after : Option Part) : Type 0 where
  pub answers : (process thread : ℕ) → answer_at before process thread ≡ false → answer_at after process thread ≡ false
  pub pulses : (process : ℕ) → pulse_at before process ≡ false → pulse_at after process ≡ false

pub fewer_same : (row : Option Part) → Fewer row row
fewer_same row = record { answers = λ process thread free. free; pulses = λ process free. free }

pub fewer_both : (one two three : Option Part) → Fewer one two → Fewer two three → Fewer one three
fewer_both one two three first second = record {
  answers = λ process thread free. second.answers process thread (first.answers process thread free);
  pulses = λ process free. second.pulses process (first.pulses process free);
}

-- ---- what is settled at the end of a step

row_left_answers : (held : List OwnItem) (pipes : Pipes) (number thread : ℕ) (row : Option Process) → is_thread_answered (thread_of thread row) ≡ false
    → is_thread_answered (thread_of thread (row_left held pipes number row)) ≡ false
row_left_answers held pipes number thread None free = free
row_left_answers held pipes number thread (Some process) free = cond_both _ (Some process) None (λ row. is_thread_answered (thread_of thread row) ≡ false) (λ stays. free) (λ goes. refl)

row_left_lives : (held : List OwnItem) (pipes : Pipes) (number : ℕ) (row : Option Process) → is_some (living row) ≡ false → is_some (living (row_left held pipes number row)) ≡ false
row_left_lives held pipes number None free = free
row_left_lives held pipes number (Some process) free = cond_both _ (Some process) None (λ row. is_some (living row) ≡ false) (λ stays. free) (λ goes. refl)

none_of_both : (one other second : Bool) → (one ≡ false → other ≡ false) → (one && second) ≡ false → (other && second) ≡ false
none_of_both one false second less free = refl
none_of_both false true second less free = absurd (false≢true (sym (less refl)))
none_of_both true true second less free = free

fewer_settled : (before after : Part) (held : List OwnItem) → after.resources.inodes ≡ before.resources.inodes → after.resources.pipes ≡ before.resources.pipes
    → Fewer (Some after) (Some (settled before held after))
fewer_settled before after held inodes pipes = record {
  answers = λ process thread free. subst (λ row. is_thread_answered (thread_of thread row) ≡ false) (sym (row_at-left held after.resources.pipes 0 process after.processes)) (row_left_answers held after.resources.pipes (0 + process) thread (row_at after.processes process) free);
  pulses = λ process free.
      subst (λ events. (is_living (settled before held after).processes process && is_some (first_pulse process events)) ≡ false) (sym (settled-unchanged (is_living after.processes) before.resources after.resources inodes pipes))
      (subst (λ row. (is_some (living row) && is_some (first_pulse process after.resources.events)) ≡ false) (sym (row_at-left held after.resources.pipes 0 process after.processes))
      (none_of_both (is_living after.processes process) (is_some (living (row_left held after.resources.pipes (0 + process) (row_at after.processes process)))) (is_some (first_pulse process after.resources.events))
      (row_left_lives held after.resources.pipes (0 + process) (row_at after.processes process)) free));
}

-- ---- the rows after a client's step of the user

row_put : {A : Type 0} (places : List (Option A)) (i : ℕ) (row : Option A) (there : A) → row_at places i ≡ Some there → row_at (slice_set places i row) i ≡ row
row_put [] i row there is = absurd (cc)
row_put (first ∷ places) zero row there is = refl
row_put (first ∷ places) (suc i) row there is = row_put places i row there is

-- what a step makes of the rows before they are settled
abbrev made : World → ℕ → Part → Step → Part
made w user part e = (users.client w.config user (own_held user w.hands) part e).part

row_after : (w : World) (e : Step) (actor : Actor) (part : Part) → actor_of e ≡ Some actor → row_at w.parts (user_of actor) ≡ Some part
    → row_at (step w e).world.parts (user_of actor) ≡ Some (settled part (own_held (user_of actor) w.hands) (made w (user_of actor) part e))
unfolding users.settle_part
row_after w e actor part by there =
    let user = user_of actor in
    let after = Some (users.settle_part part (own_held user w.hands) (made w user part e)) in
    ap (λ given. row_at given.world.parts user) (client_is w e actor by ∙ ap (client_step w user e) there) ∙ row_put w.parts user after part there

-- a thread takes its answer

reply_made : (part : Part) (thread : Thread) (row : Option ThreadRow) → is_thread_answered row ≡ true
    → (or_unchanged part (found row WrongState >>= λ there. found (answer_in there.state) WrongState >>= λ given. Ok (record { outcome = outcome_of given; part = with_thread_of thread ready_thread part; changes = [] }))).part
    ≡ with_thread_of thread ready_thread part
reply_made part thread None is = absurd (false≢true is)
reply_made part thread (Some there) is = by_answer (answer_in there.state) is
  where
    by_answer : (answer : Option Answer) → is_some answer ≡ true
        → (or_unchanged part (found answer WrongState >>= λ given. Ok (record { outcome = outcome_of given; part = with_thread_of thread ready_thread part; changes = [] }))).part ≡ with_thread_of thread ready_thread part
    by_answer None is = absurd (false≢true is)
    by_answer (Some given) is = refl

-- rows with one of them changed
row_changed : {A : Type 0} (places : List (Option A)) (i j : ℕ) (change : A → A) → row_at (with_row places i change) j ≡ (if nat_eq j i then option_map change (row_at places i) else row_at places j)
row_changed [] i j change = cond_both (nat_eq j i) None None (λ row. None ≡ row) (λ same. refl) (λ differ. refl)
row_changed (first ∷ places) zero zero change = refl
row_changed (first ∷ places) zero (suc j) change = grind (arith, nat_tests)
row_changed (first ∷ places) (suc i) zero change = grind (arith, nat_tests)
row_changed (first ∷ places) (suc i) (suc j) change = grind (arith, nat_tests, row_changed places i j change)

ready_is : (row : Option ThreadRow) → is_thread_answered (option_map ready_thread row) ≡ false
ready_is None = refl
ready_is (Some row) = refl

-- of a process, one of whose threads is ready now
ready_process : (process : Option Process) (taken thread : ℕ) → is_thread_answered (thread_of thread process) ≡ false
    → is_thread_answered (thread_of thread (option_map (with_thread taken ready_thread) process)) ≡ false
ready_process None taken thread free = free
ready_process (Some process) taken thread free =
    subst (λ row. is_thread_answered row ≡ false) (sym (row_changed process.threads taken thread ready_thread))
    (cond_both (nat_eq thread taken) (option_map ready_thread (row_at process.threads taken)) (row_at process.threads thread) (λ row. is_thread_answered row ≡ false) (λ same. ready_is (row_at process.threads taken)) (λ differ. free))

ready_own : (process : Option Process) (thread : ℕ) → is_thread_answered (thread_of thread (option_map (with_thread thread ready_thread) process)) ≡ false
ready_own None thread = refl
ready_own (Some process) thread =
    subst (λ row. is_thread_answered row ≡ false) (sym (row_changed process.threads thread thread ready_thread ∙ ap (λ is. if is then option_map ready_thread (row_at process.threads thread) else row_at process.threads thread) (eq-eqb thread thread refl)))
    (ready_is (row_at process.threads thread))

ready_answers : (part : Part) (taken : Thread) (process thread : ℕ) → answer_at (Some part) process thread ≡ false → answer_at (Some (with_thread_of taken ready_thread part)) process thread ≡ false
ready_answers part taken process thread free =
    let number = taken.proc.num in
    subst (λ row. is_thread_answered (thread_of thread row) ≡ false) (sym (row_changed part.processes number process (with_thread taken.tid ready_thread)))
    (by_process (nat_eq process number) refl)
  where
    by_process : (is : Bool) → nat_eq process taken.proc.num ≡ is
        → is_thread_answered (thread_of thread (if is then option_map (with_thread taken.tid ready_thread) (row_at part.processes taken.proc.num) else row_at part.processes process)) ≡ false
    by_process true same =
        ready_process (row_at part.processes taken.proc.num) taken.tid thread (subst (λ n. is_thread_answered (thread_of thread (row_at part.processes n)) ≡ false) (eqb-true process taken.proc.num same) free)
    by_process false differ = free

ready_taken : (part : Part) (taken : Thread) → answer_at (Some (with_thread_of taken ready_thread part)) taken.proc.num taken.tid ≡ false
ready_taken part taken =
    let number = taken.proc.num in
    let change = with_thread taken.tid ready_thread in
    subst (λ row. is_thread_answered (thread_of taken.tid row) ≡ false)
    (sym (row_changed part.processes number number change ∙ ap (λ is. if is then option_map change (row_at part.processes number) else row_at part.processes number) (eq-eqb number number refl)))
    (ready_own (row_at part.processes number) taken.tid)

fewer_ready : (part : Part) (taken : Thread) → Fewer (Some part) (Some (with_thread_of taken ready_thread part))
fewer_ready part taken = record {
  answers = ready_answers part taken;
  pulses = λ process free.
      subst (λ lives. (lives process && is_some (first_pulse process part.resources.events)) ≡ false) (sym (lives-changed part.processes taken.proc.num (with_thread taken.tid ready_thread) (keeps-thread taken.tid ready_thread))) free;
}

-- what a thread's taking its answer leaves
pub record Replied (w : World) (thread : Thread) : Type 0 where
  pub fewer : Fewer (row_at w.parts thread.proc.user.0) (row_at (step w (TakeReply thread)).world.parts thread.proc.user.0)
  pub none : answer_at (row_at (step w (TakeReply thread)).world.parts thread.proc.user.0) thread.proc.num thread.tid ≡ false

pub replied : (w : World) (thread : Thread) (row : Option Part) → row_at w.parts thread.proc.user.0 ≡ row → is_answered w thread ≡ true → Replied w thread
unfolding users.client
replied w thread None there is = absurd (false≢true (sym (ap (λ row. answer_at row thread.proc.num thread.tid) there) ∙ is))
replied w thread (Some part) there is =
    let answered : is_thread_answered (thread_at part thread.proc.num thread.tid) ≡ true = sym (ap (λ row. answer_at row thread.proc.num thread.tid) there) ∙ is in
    let held = own_held thread.proc.user.0 w.hands in
    let ready = with_thread_of thread ready_thread part in
    let after : row_at (step w (TakeReply thread)).world.parts thread.proc.user.0 ≡ Some (settled part held ready) =
    row_after w (TakeReply thread) (OfThread thread) part refl there
    ∙ ap (λ made. Some (settled part held made)) (reply_made part thread (thread_at part thread.proc.num thread.tid) answered) in
    let less = fewer_settled part ready held refl refl in
    let all = fewer_both (Some part) (Some ready) (Some (settled part held ready)) (fewer_ready part thread) less in
    record {
      fewer = subst (λ row. Fewer row (row_at (step w (TakeReply thread)).world.parts thread.proc.user.0)) (sym there) (subst (Fewer (Some part)) (sym after) all);
      none = subst (λ row. answer_at row thread.proc.num thread.tid ≡ false) (sym after) (less.answers thread.proc.num thread.tid (ready_taken part thread));
    }

-- ---- a process takes a pulse

abbrev taken_part : Part → ℕ → Part
taken_part part process = record part { resources = record part.resources { events = without_first_pulse process part.resources.events } }

pulse_has : (part : Part) (proc : Proc) (lives : Option Process) (first : Option Pulse)
    → is_pulse (or_unchanged part (found lives WrongState >>= λ process. Ok (pulse_taken part proc.num first))).outcome ≡ (is_some lives && is_some first)
pulse_has part proc None first = refl
pulse_has part proc (Some process) None = refl
pulse_has part proc (Some process) (Some first) = refl

pulse_made : (part : Part) (proc : Proc) (lives : Option Process) (first : Option Pulse) → (is_some lives && is_some first) ≡ true
    → (or_unchanged part (found lives WrongState >>= λ process. Ok (pulse_taken part proc.num first))).part ≡ taken_part part proc.num
pulse_made part proc None first is = absurd (false≢true is)
pulse_made part proc (Some process) None is = absurd (false≢true is)
pulse_made part proc (Some process) (Some first) is = refl

pub has_pulse_is : (w : World) (proc : Proc) (row : Option Part) → row_at w.parts proc.user.0 ≡ row → has_pulse w proc ≡ pulse_at row proc.num
unfolding users.client
has_pulse_is w proc None there = ap (λ given. is_pulse given.outcome) (client_is w (TakePulse proc) (OfProc proc) refl ∙ ap (client_step w proc.user.0 (TakePulse proc)) there)
has_pulse_is w proc (Some part) there =
    ap (λ given. is_pulse given.outcome) (client_is w (TakePulse proc) (OfProc proc) refl ∙ ap (client_step w proc.user.0 (TakePulse proc)) there)
    ∙ pulse_has part proc (living (row_at part.processes proc.num)) (first_pulse proc.num part.resources.events)

-- a queue without its first pulse

queue_less : (queues : List (List Pulse)) (i j : ℕ) → is_some (slice_get (line_at queues j) 0) ≡ false → is_some (slice_get (line_at (with_line queues i (drop 1)) j) 0) ≡ false
queue_less [] i j free = free
queue_less ([] ∷ queues) zero zero free = refl
queue_less ((first ∷ queue) ∷ queues) zero zero free = absurd (false≢true (sym free))
queue_less (queue ∷ queues) zero (suc j) free = free
queue_less (queue ∷ queues) (suc i) zero free = free
queue_less (queue ∷ queues) (suc i) (suc j) free = queue_less queues i j free

queue_shorter : (queues : List (List Pulse)) (i : ℕ) → is_some (slice_get (line_at queues i) 0) ≡ true → length (line_at (with_line queues i (drop 1)) i) + 1 ≡ length (line_at queues i)
queue_shorter [] i some = absurd (false≢true some)
queue_shorter ([] ∷ queues) zero some = absurd (false≢true some)
queue_shorter ((first ∷ queue) ∷ queues) zero some = omega arith
queue_shorter (queue ∷ queues) (suc i) some = queue_shorter queues i some

none_of_second : (one second other : Bool) → (second ≡ false → other ≡ false) → (one && second) ≡ false → (one && other) ≡ false
none_of_second false second other less free = refl
none_of_second true second other less free = less free

second_of_both : (one second : Bool) → (one && second) ≡ true → second ≡ true
second_of_both false second both = absurd (false≢true both)
second_of_both true second both = both

fewer_taken : (part : Part) (process : ℕ) → Fewer (Some part) (Some (taken_part part process))
fewer_taken part process = record {
  answers = λ other thread free. free;
  pulses = λ other free. none_of_second (is_living part.processes other) _ _ (queue_less part.resources.events.pulses process other) free;
}

-- what a process' taking a pulse leaves
pub record Pulsed (w : World) (proc : Proc) : Type 0 where
  pub fewer : Fewer (row_at w.parts proc.user.0) (row_at (step w (TakePulse proc)).world.parts proc.user.0)
  pub count : pulse_count proc.num (row_at (step w (TakePulse proc)).world.parts proc.user.0) + 1 ≡ pulse_count proc.num (row_at w.parts proc.user.0)

pulsed_by : (w : World) (proc : Proc) (row : Option Part) → row_at w.parts proc.user.0 ≡ row → has_pulse w proc ≡ true → Pulsed w proc
unfolding users.client
pulsed_by w proc None there has = absurd (false≢true (sym (has_pulse_is w proc None there) ∙ has))
pulsed_by w proc (Some part) there has =
    let user = proc.user.0 in
    let held = own_held user w.hands in
    let taken = taken_part part proc.num in
    let both : pulse_at (Some part) proc.num ≡ true = sym (has_pulse_is w proc (Some part) there) ∙ has in
    let events = part.resources.events in
    let after : row_at (step w (TakePulse proc)).world.parts user ≡ Some (settled part held taken) =
    row_after w (TakePulse proc) (OfProc proc) part refl there
    ∙ ap (λ made. Some (settled part held made)) (pulse_made part proc (living (row_at part.processes proc.num)) (first_pulse proc.num events) both) in
    let all = fewer_both (Some part) (Some taken) (Some (settled part held taken)) (fewer_taken part proc.num) (fewer_settled part taken held refl refl) in
    let kept : pulse_count proc.num (Some (settled part held taken)) ≡ pulse_count proc.num (Some taken) =
    ap (λ left. length (line_at left.pulses proc.num)) (settled-unchanged (is_living taken.processes) part.resources taken.resources refl refl) in
    let shorter = queue_shorter events.pulses proc.num (second_of_both (is_living part.processes proc.num) (is_some (first_pulse proc.num events)) both) in
    record {
      fewer = subst (λ row. Fewer row (row_at (step w (TakePulse proc)).world.parts user)) (sym there) (subst (Fewer (Some part)) (sym after) all);
      count = ap (λ row. pulse_count proc.num row + 1) after ∙ (ap (λ n. n + 1) kept ∙ (shorter ∙ ap (pulse_count proc.num) (sym there)));
    }

pub pulsed : (w : World) (proc : Proc) → has_pulse w proc ≡ true → Pulsed w proc
pulsed w proc has = pulsed_by w proc (row_at w.parts proc.user.0) refl has

none_first : (queue : List Pulse) → length queue ≡ 0 → is_some (slice_get queue 0) ≡ false
none_first [] none = refl
none_first (first ∷ queue) none = absurd (omega (arith, none))

both_none : (one second : Bool) → second ≡ false → (one && second) ≡ false
both_none false second none = refl
both_none true second none = none

no_pulse : (process : ℕ) (row : Option Part) → pulse_count process row ≡ 0 → pulse_at row process ≡ false
no_pulse process None none = refl
no_pulse process (Some part) none = both_none (is_living part.processes process) _ (none_first (line_at part.resources.events.pulses process) none)

-- ---- what telling leaves

-- steps after which there is less, and this holds of a user's rows
pub record Tells (user : ℕ) (Done : Option Part → Type 0) (w : World) (steps : List Step) : Type 0 where
  pub fewer : Fewer (row_at w.parts user) (row_at (world_after w steps).parts user)
  pub done : Done (row_at (world_after w steps).parts user)

-- it holds on where there is less
abbrev Stays : (Option Part → Type 0) → Type 0
Stays Done = (before after : Option Part) → Fewer before after → Done before → Done after

tells_both : (user : ℕ) (One Two Both : Option Part → Type 0) (w : World) (first next : List Step) → Stays One → ((row : Option Part) → One row → Two row → Both row)
    → Tells user One w first → Tells user Two (world_after w first) next → Tells user Both w (first ++ next)
tells_both user One Two Both w first next stays both one two =
    let mid = row_at (world_after w first).parts user in
    let last = row_at (world_after (world_after w first) next).parts user in
    subst (λ v. (Fewer (row_at w.parts user) (row_at v.parts user) × Both (row_at v.parts user)) → Tells user Both w (first ++ next)) (after_append w first next)
    (λ all. record { fewer = all.0; done = all.1 })
    (fewer_both (row_at w.parts user) mid last one.fewer two.fewer, both last (stays mid last two.fewer one.done) two.done)

tells_each : {A : Type 0} (user : ℕ) (Done : A → Option Part → Type 0) (choose : A → World → List Step) → ((one : A) → Stays (Done one))
    → ((one : A) (w : World) → Tells user (Done one) w (choose one w)) → (all : List A) (w : World) → Tells user (λ row. All (λ one. Done one row) all) w (each choose all w)
tells_each user Done choose stays told [] w = record { fewer = fewer_same (row_at w.parts user); done = All-nil (λ one. Done one (row_at w.parts user)) }
tells_each user Done choose stays told (one ∷ more) w =
    let first = choose one w in
    tells_both user (Done one) (λ row. All (λ other. Done other row) more) (λ row. All (λ other. Done other row) (one ∷ more)) w first (each choose more (world_after w first)) (stays one)
    (λ row here rest. All-cons (λ other. Done other row) one more here rest)
    (told one w) (tells_each user Done choose stays told more (world_after w first))

reply_told : (user process thread : ℕ) (w : World) → Tells user (λ row. answer_at row process thread ≡ false) w (reply_steps user process thread w)
unfolding reply_steps
reply_told user process thread w = by_answer (is_answered w name) refl
  where
    name : Thread
    name = named_thread user process thread

    by_answer : (is : Bool) → is_answered w name ≡ is → Tells user (λ row. answer_at row process thread ≡ false) w (if is_answered w name then TakeReply name ∷ [] else [])
    by_answer true is =
        let one = replied w name (row_at w.parts user) refl is in
        subst (λ b. Tells user (λ row. answer_at row process thread ≡ false) w (if b then TakeReply name ∷ [] else [])) (sym is) (record { fewer = one.fewer; done = one.none })
    by_answer false is =
        subst (λ b. Tells user (λ row. answer_at row process thread ≡ false) w (if b then TakeReply name ∷ [] else [])) (sym is) (record { fewer = fewer_same (row_at w.parts user); done = is })

pulses_told : (left : ℕ) (proc : Proc) (w : World) → pulse_count proc.num (row_at w.parts proc.user.0) ≡ left → Tells proc.user.0 (λ row. pulse_at row proc.num ≡ false) w (pulses left proc w)
pulses_told zero proc w count = record { fewer = fewer_same (row_at w.parts proc.user.0); done = no_pulse proc.num (row_at w.parts proc.user.0) count }
pulses_told (suc left) proc w count = by_pulse (λ v left_now. pulses_told left proc v left_now) (has_pulse w proc) refl
  where
    by_pulse : ((v : World) → pulse_count proc.num (row_at v.parts proc.user.0) ≡ left → Tells proc.user.0 (λ row. pulse_at row proc.num ≡ false) v (pulses left proc v))
        → (is : Bool) → has_pulse w proc ≡ is → Tells proc.user.0 (λ row. pulse_at row proc.num ≡ false) w (pulses (suc left) proc w)
    by_pulse later true is =
        let one = pulsed w proc is in
        let v = (step w (TakePulse proc)).world in
        let rest = later v (omega (arith, one.count, count)) in
        subst (λ b. Tells proc.user.0 (λ row. pulse_at row proc.num ≡ false) w (if b then followed w (TakePulse proc ∷ []) (pulses left proc) else [])) (sym is)
        (record { fewer = fewer_both (row_at w.parts proc.user.0) (row_at v.parts proc.user.0) _ one.fewer rest.fewer; done = rest.done })
    by_pulse later false is =
        subst (λ b. Tells proc.user.0 (λ row. pulse_at row proc.num ≡ false) w (if b then followed w (TakePulse proc ∷ []) (pulses left proc) else [])) (sym is)
        (record { fewer = fewer_same (row_at w.parts proc.user.0); done = sym (has_pulse_is w proc (row_at w.parts proc.user.0) refl) ∙ is })

-- of a process, and of all processes of a user
abbrev pub ToldProcess : ℕ → Option Part → Type 0
ToldProcess process row = All (λ thread. answer_at row process thread ≡ false) (range_with_len 1 THREADS) × (pulse_at row process ≡ false)

abbrev pub ToldRow : Option Part → Type 0
ToldRow row = All (λ process. ToldProcess process row) (range_with_len 1 PROCESSES)

threads_stay : (process : ℕ) → Stays (λ row. All (λ thread. answer_at row process thread ≡ false) (range_with_len 1 THREADS))
threads_stay process before after less all =
    All-weaker (λ thread. answer_at before process thread ≡ false) (λ thread. answer_at after process thread ≡ false) (λ thread free. less.answers process thread free) (range_with_len 1 THREADS) all

process_told : (user process : ℕ) (w : World) → Tells user (ToldProcess process) w (process_steps user process w)
unfolding pulse_steps
process_told user process w =
    let threads = range_with_len 1 THREADS in
    let replies = each (reply_steps user process) threads w in
    let proc : Proc = record { user = record { 0 = user }; num = process } in
    let after = world_after w replies in
    tells_both user (λ row. All (λ thread. answer_at row process thread ≡ false) threads) (λ row. pulse_at row process ≡ false) (ToldProcess process) w replies (pulse_steps user process after)
    (threads_stay process) (λ row one two. (one, two))
    (tells_each user (λ thread row. answer_at row process thread ≡ false) (reply_steps user process) (λ thread before later less free. less.answers process thread free) (reply_told user process) threads w)
    (pulses_told (pulse_count process (row_at after.parts user)) proc after refl)

told_told : (user : ℕ) (w : World) → Tells user ToldRow w (told_steps user w)
unfolding told_steps
told_told user w =
    tells_each user ToldProcess (process_steps user) (λ process before after less told. (threads_stay process before after less told.0, less.pulses process told.1)) (process_told user) (range_with_len 1 PROCESSES) w

-- ---- lines

-- a user of whom no step was taken has the same rows
row_unseen : (n user : ℕ) (w after : World) → Quiet n w → Quiet n after → view user after ≡ view user w → row_at after.parts user ≡ row_at w.parts user
row_unseen n user w after q later same =
    sym (row_at-view user user after later.reached refl) ∙ (ap (λ (v : World). row_at v.parts user) same ∙ row_at-view user user w q.reached refl)

line_told : (n : ℕ) (w : World) (line : LiveLine) (actor : Actor) → 1 ≤ n → actor_of line.step ≡ Some actor → Quiet n w → ((user : ℕ) → ToldRow (row_at w.parts user))
    → (user : ℕ) → ToldRow (row_at (world_after w (steps_by w line (Some actor))).parts user)
line_told n w line actor some by q told user = by_user (user_of actor == user) refl
  where
    by_user : (is : Bool) → (user_of actor == user) ≡ is → ToldRow (row_at (world_after w (steps_by w line (Some actor))).parts user)
    by_user true own =
        let of = user_of actor in
        let until = followed w (line.step ∷ []) (served_steps line.moment) in
        let last = told_told of (world_after w until) in
        subst (λ n. ToldRow (row_at (world_after w (steps_by w line (Some actor))).parts n)) (eqb-true of user own)
        (subst (λ v. ToldRow (row_at v.parts of)) (sym (after_append w until (told_steps of (world_after w until)))) last.done)
    by_user false other =
        let of = line_of_user n w line actor some by q in
        let steps = steps_by w line (Some actor) in
        subst ToldRow (sym (row_unseen n user w (world_after w steps) q of.after (unseen_after (user_of actor) user w steps other of.own))) (told user)

lines_told : (n : ℕ) (w : World) (lines : List LiveLine) → 1 ≤ n → Quiet n w → ((user : ℕ) → ToldRow (row_at w.parts user)) → (user : ℕ) → ToldRow (row_at (world_after w (live_steps w lines)).parts user)
unfolding line_steps
lines_told n w [] some q told = told
lines_told n w (line ∷ lines) some q told = by_actor (λ v quiet all. lines_told n v lines some quiet all) (actor_of line.step) refl
  where
    by_actor : ((v : World) → Quiet n v → ((user : ℕ) → ToldRow (row_at v.parts user)) → (user : ℕ) → ToldRow (row_at (world_after v (live_steps v lines)).parts user))
        → (who : Option Actor) → actor_of line.step ≡ who → (user : ℕ) → ToldRow (row_at (world_after w (live_steps w (line ∷ lines))).parts user)
    by_actor later None by user = subst (λ who. ToldRow (row_at (world_after w (followed w (steps_by w line who) (λ after. live_steps after lines))).parts user)) (sym by) (later w q told user)
    by_actor later (Some actor) by user =
        let steps = steps_by w line (Some actor) in
        let after = world_after w steps in
        let of = line_of_user n w line actor some by q in
        subst (λ who. ToldRow (row_at (world_after w (followed w (steps_by w line who) (λ after. live_steps after lines))).parts user)) (sym by)
        (subst (λ v. ToldRow (row_at v.parts user)) (sym (after_append w steps (live_steps after lines))) (later after of.after (line_told n w line actor some by q told) user))

-- ---- at boot

no_process : (process : ℕ) → row_at {A = Process} (None ∷ []) process ≡ None
no_process zero = refl
no_process (suc process) = refl

told_none : ToldRow None
told_none = λ k d within. (λ j e below. refl, refl)

told_all : (row : Option Part) → ((process thread : ℕ) → answer_at row process thread ≡ false) → ((process : ℕ) → pulse_at row process ≡ false) → ToldRow row
told_all row answers pulses = λ k d within. (
  λ j e below. answers (get_or (range_with_len 1 PROCESSES) k d) (get_or (range_with_len 1 THREADS) j e),
  pulses (get_or (range_with_len 1 PROCESSES) k d),
)

told_boot : (config : Configuration) (user : ℕ) → ToldRow (Some (users.boot_part config user))
unfolding users.boot_part
told_boot config user =
    told_all (Some (users.boot_part config user))
    (λ process thread. ap (λ row. is_thread_answered (thread_of thread row)) (no_process process))
    (λ process. ap (λ row. is_some (living row) && is_some (first_pulse process (users.boot_part config user).resources.events)) (no_process process))

told_rows : (config : Configuration) (user : ℕ) (names : List (List ℕ)) (number : ℕ) → ToldRow (row_at (boot_parts config user names) number)
told_rows config user [] number = told_none
told_rows config user (name ∷ names) zero = told_boot config user
told_rows config user (name ∷ names) (suc number) = told_rows config (user + 1) names number

boot_told : (config : Configuration) (user : ℕ) → ToldRow (row_at (boot config).parts user)
unfolding system.boot
boot_told config zero = told_none
boot_told config (suc user) = told_rows config 1 config.users user

session_told : (config : Configuration) (lines : List LiveLine) (user : ℕ) → 1 ≤ config.workers → ToldRow (row_at (after_lines (begun config) lines).world.parts user)
session_told config lines user some =
    subst (λ (session : Session). ToldRow (row_at session.world.parts user)) (sym (session_is config lines))
    (lines_told config.workers (boot config) lines some (quiet_boot config) (boot_told config) user)

-- ---- by number

in_range : (P : ℕ → Type 0) (count number : ℕ) → All P (range_with_len 1 count) → 1 ≤ number → number ≤ count → P number
in_range P count number all some few =
    let k = number - 1 in
    let below : k < count = omega arith in
    let within : k < length (range_with_len 1 count) = omega (arith, below, length-range_with_len 1 count) in
    let is : 1 + k ≡ number = omega arith in
    subst P (get_or-range_with_len 1 count k 0 below ∙ is) (all k 0 within)

pub answers_told : (config : Configuration) (lines : List LiveLine) (user process thread : ℕ) → 1 ≤ config.workers → 1 ≤ process → process ≤ PROCESSES → 1 ≤ thread → thread ≤ THREADS
    → is_answered (after_lines (begun config) lines).world (named_thread user process thread) ≡ false
answers_told config lines user process thread some one few first last =
    let row = row_at (after_lines (begun config) lines).world.parts user in
    in_range (λ number. answer_at row process number ≡ false) THREADS thread (in_range (λ number. ToldProcess number row) PROCESSES process (session_told config lines user some) one few).0 first last

pub all_pulses_told : (config : Configuration) (lines : List LiveLine) (user process : ℕ) → 1 ≤ config.workers → 1 ≤ process → process ≤ PROCESSES
    → has_pulse (after_lines (begun config) lines).world (record { user = record { 0 = user }; num = process }) ≡ false
all_pulses_told config lines user process some one few =
    let w = (after_lines (begun config) lines).world in
    has_pulse_is w (record { user = record { 0 = user }; num = process }) (row_at w.parts user) refl
    ∙ (in_range (λ number. ToldProcess number (row_at w.parts user)) PROCESSES process (session_told config lines user some) one few).1
