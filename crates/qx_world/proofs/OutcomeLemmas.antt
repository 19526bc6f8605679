-- Which outcomes the machine's steps have.
use Rattle.std.proofs.Common.{◌≡◌, ◌≢◌, ◌∙◌, ℕ, List, [], Bool, true, false, ap, refl, sym}
use Rattle.std.specs.Prelude.{⊤, Option, Some, None, Result, Ok, Err, not}
use Rattle.std.proofs.lemmas.Bool.{cond_both, false≢true}
use Rattle.qx_types.specs.Configuration.{Configuration}
use Rattle.qx_types.specs.Step.{actor_of, user_of}
use Rattle.qx_base.specs.declared.errno.Errno.{Errno}
use Rattle.qx_types.specs.declared.names.Actor.{Actor}
use Rattle.qx_types.specs.declared.names.Prio.{Prio}
use Rattle.qx_types.specs.declared.names.Thread.{Thread}
use Rattle.qx_types.specs.declared.names.Worker.{Worker}
use Rattle.qx_types.specs.declared.outcome.Answer.{Answer}
use Rattle.qx_types.specs.declared.outcome.Answer.TheVariants as answer
use Rattle.qx_types.specs.declared.outcome.Outcome.{Outcome}
use Rattle.qx_types.specs.declared.outcome.Outcome.TheVariants.{Refused, Reply, WrongState}
use Rattle.qx_types.specs.declared.request.Request.{Request}
use Rattle.qx_types.specs.declared.step.Step.{Step}
use Rattle.qx_types.specs.declared.step.Step.TheVariants.{Spawn, Exit, Call, TakeReply, TakePulse, SetPrio, Interrupt, Mount, Receive, Perform}
use Rattle.qx_isolation.specs.declared.rows.OwnItem.{OwnItem}
use Rattle.qx_machine.specs.declared.rows.Pulse.{Pulse}
use Rattle.qx_machine.specs.declared.rows.State.{State}
use Rattle.qx_machine.specs.declared.rows.ThreadRow.{ThreadRow}
use Rattle.qx_machine.specs.declared.rows.State.TheVariants.{Queued, Taken, Waiting}
use Rattle.qx_paths.specs.Prefixes.{MountPoint}
use Rattle.qx_machine.specs.Calls.{Address, Opens, Connects, ConnectsBoth, Uses, Duplicates, may_call, target_at}
use Rattle.qx_machine.specs.Processes.{Process, ready_thread}
use Rattle.qx_isolation.specs.Judgements.{◌>>=◌, found, need, or_refused}
use Rattle.qx_machine.specs.Clients as clients
use Rattle.qx_machine.specs.Clients.{ClientStep, answer_in, client_given, interrupt_in, or_unchanged, outcome_of, pulse_taken, target_by}
use Rattle.qx_machine.specs.Machine.{After, World, client_step, or_same_world, own_held, server_given, server_step, step, step_of}
use Rattle.qx_machine.specs.Parts.{Part, thread_at, thread_of, with_thread_of}
use Rattle.qx_isolation.specs.Rows.{row_at}
use Rattle.qx_machine.specs.Users.{client}
use Rattle.qx_machine.specs.Reads.{answer_of, process_of_part, row_among_parts}
use Rattle.qx_world.specs.Outcomes.{is_reply, may_be_pulse, may_be_taken, may_end_call, may_give}

-- what refuses a step is so
abbrev IsErrSo : {A : Type 0} → (Outcome → Bool) → Result A Outcome → Type 0
IsErrSo may (Ok value) = ⊤
IsErrSo may (Err outcome) = may outcome ≡ true

record Refuses {A : Type 0} (may : Outcome → Bool) (first : Result A Outcome) : Type 0 where
  refuses : IsErrSo may first

-- what a client's step gives is so
record Gives (may : Outcome → Bool) (given : Result ClientStep Outcome) : Type 0 where
  gives : (part : Part) → may (or_unchanged part given).outcome ≡ true

module _ (may : Outcome → Bool) where
  needed : (test : Bool) (outcome : Outcome) → may outcome ≡ true → Refuses may (need test outcome)
  needed true outcome so = record { refuses = tt }
  needed false outcome so = record { refuses = so }

  looked_up : {A : Type 0} (row : Option A) (outcome : Outcome) → may outcome ≡ true → Refuses may (found row outcome)
  looked_up (Some value) outcome so = record { refuses = tt }
  looked_up None outcome so = record { refuses = so }

  judged : {A : Type 0} (result : Result A Errno) → ((errno : Errno) → may (Refused errno) ≡ true) → Refuses may (or_refused result)
  judged (Ok value) so = record { refuses = tt }
  judged (Err errno) so = record { refuses = so errno }

  value_refuses : {A : Type 0} (value : A) → Refuses may (Ok value)
  value_refuses value = record { refuses = tt }

  refuses_on : {A B : Type 0} (first : Result A Outcome) (next : A → Result B Outcome) → Refuses may first → ((value : A) → Refuses may (next value)) → Refuses may (first >>= next)
  refuses_on (Ok value) next so h = h value
  refuses_on (Err outcome) next so h = record { refuses = so.refuses }

  gives_on : {A : Type 0} (first : Result A Outcome) (next : A → Result ClientStep Outcome) → Refuses may first → ((value : A) → Gives may (next value)) → Gives may (first >>= next)
  gives_on (Ok value) next so h = h value
  gives_on (Err outcome) next so h = record { gives = λ part. so.refuses }

  done_gives : (given : ClientStep) → may given.outcome ≡ true → Gives may (Ok given)
  done_gives given so = record { gives = λ part. so }

answer_taken : (given : Answer) → may_be_taken (outcome_of given) ≡ true
answer_taken (answer.Reply status bytes) = refl
answer_taken (answer.Failed error) = refl

abbrev plain : Outcome → Bool
plain outcome = not (is_reply outcome)

interrupt_gives : (prio : ℕ) (part : Part) (thread : Thread) (call : ℕ) (state : State) → Gives plain (Ok (interrupt_in prio part thread call state))
interrupt_gives prio part thread call (Queued sent) = record { gives = λ _. refl }
interrupt_gives prio part thread call (Taken sent) = cond_both {A = ClientStep} sent.is_asked _ _ (λ given. Gives plain (Ok given)) (λ asked. record { gives = λ _. refl }) (λ unasked. record { gives = λ _. refl })
interrupt_gives prio part thread call (Waiting sent) = cond_both {A = ClientStep} sent.is_asked _ _ (λ given. Gives plain (Ok given)) (λ asked. record { gives = λ _. refl }) (λ unasked. record { gives = λ _. refl })
interrupt_gives prio part thread call _ = record { gives = λ _. refl }

pulse_gives : (part : Part) (process : ℕ) (first : Option Pulse) → Gives may_be_pulse (Ok (pulse_taken part process first))
pulse_gives part process None = record { gives = λ _. refl }
pulse_gives part process (Some first) = record { gives = λ _. refl }

address_refuses : (config : Configuration) (user : ℕ) (mounts : List MountPoint) (processes : List (Option Process)) (process : Process) (prio : Prio) (asked : Address) → Refuses may_end_call (target_at config user mounts processes process prio asked)
address_refuses config user mounts processes process prio (Opens path) = search (refuses_on, needed, judged, value_refuses)
address_refuses config user mounts processes process prio (Connects path) = search (refuses_on, needed, judged, value_refuses)
address_refuses config user mounts processes process prio (ConnectsBoth path to) = search (refuses_on, needed, judged, value_refuses)
address_refuses config user mounts processes process prio (Uses coid) = search (refuses_on, needed, looked_up, value_refuses)
address_refuses config user mounts processes process prio (Duplicates coid) = search (refuses_on, needed, looked_up, value_refuses)

may_call_refuses : (row : ThreadRow) (asked : Request) → Refuses may_end_call (may_call row asked)
may_call_refuses row asked = search (refuses_on, needed, value_refuses)

target_refuses : (config : Configuration) (user : ℕ) (mounts : List MountPoint) (processes : List (Option Process)) (thread : Thread) (request : Request) → Refuses may_end_call (target_by config user mounts processes thread request)
target_refuses config user mounts processes thread request = search (refuses_on, looked_up, may_call_refuses, address_refuses)

priority_refuses : (ceiling prio : ℕ) → Refuses plain (clients.may_give ceiling prio)
unfolding clients.may_give
priority_refuses ceiling prio = search (refuses_on, needed)

client_gives : (config : Configuration) (user : ℕ) (held : List OwnItem) (part : Part) (e : Step) → Gives (may_give e) (client_given config user held part e)
client_gives config user held part (Spawn of threads prio) = search (gives_on, refuses_on, done_gives, needed, value_refuses, priority_refuses)
client_gives config user held part (Exit proc) = search (gives_on, done_gives, looked_up)
client_gives config user held part (Call thread request) = search (gives_on, done_gives, target_refuses)
client_gives config user held part (TakeReply thread) = search (gives_on, done_gives, looked_up, answer_taken)
client_gives config user held part (TakePulse proc) = search (gives_on, looked_up, pulse_gives)
client_gives config user held part (SetPrio thread prio) = search (gives_on, done_gives, looked_up, priority_refuses)
client_gives config user held part (Interrupt thread) = search (gives_on, looked_up, interrupt_gives)
client_gives config user held part (Mount thread path manager) = search (gives_on, refuses_on, done_gives, needed, looked_up, judged)
client_gives config user held part (Receive worker manager) = record { gives = λ _. refl }
client_gives config user held part (Perform worker moment) = record { gives = λ _. refl }

client_step_gives : (w : World) (user : ℕ) (e : Step) (row : Option Part) → may_give e WrongState ≡ true → may_give e (client_step w user e row).outcome ≡ true
unfolding client
client_step_gives w user e None none = none
client_step_gives w user e (Some part) none = (client_gives w.config user (own_held user w.hands) part e).gives part

-- what a worker's step gives is no reply
record IsPlain (given : Result After Outcome) : Type 0 where
  plain : (w : World) → plain (or_same_world w given).outcome ≡ true

plain_on : {A : Type 0} (first : Result A Outcome) (next : A → Result After Outcome) → Refuses plain first → ((value : A) → IsPlain (next value)) → IsPlain (first >>= next)
plain_on (Ok value) next so h = h value
plain_on (Err outcome) next so h = record { plain = λ w. so.refuses }

done_plain : (given : After) → plain given.outcome ≡ true → IsPlain (Ok given)
done_plain given so = record { plain = λ w. so }

worker_gives : (w : World) (e : Step) → IsPlain (server_given w e)
worker_gives w (Receive worker manager) = search (plain_on, refuses_on, needed, looked_up, value_refuses, done_plain)
worker_gives w (Perform worker moment) = search (plain_on, refuses_on, needed, looked_up, done_plain)
worker_gives w _ = record { plain = λ w. refl }

wrong_state : (e : Step) → may_give e WrongState ≡ true
wrong_state (Call thread request) = refl
wrong_state (TakeReply thread) = refl
wrong_state (TakePulse proc) = refl
wrong_state _ = refl

server_gives : (w : World) (e : Step) → may_give e (server_step w e).outcome ≡ true
server_gives w (Receive worker manager) = (worker_gives w (Receive worker manager)).plain w
server_gives w (Perform worker moment) = (worker_gives w (Perform worker moment)).plain w
server_gives w (Call thread request) = refl
server_gives w (TakeReply thread) = refl
server_gives w (TakePulse proc) = refl
server_gives w _ = refl

step_of_gives : (w : World) (e : Step) (by : Option Actor) → may_give e (step_of w e by).outcome ≡ true
step_of_gives w e None = server_gives w e
step_of_gives w e (Some actor) = client_step_gives w (user_of actor) e (row_at w.parts (user_of actor)) (wrong_state e)

-- each step gives what it may
pub step_gives : (w : World) (e : Step) → may_give e (step w e).outcome ≡ true
unfolding step
step_gives w e = step_of_gives w e (actor_of e)

-- what a thread is told that takes its answer, if it has one
abbrev pub told_by : Option Answer → Outcome
told_by None = WrongState
told_by (Some given) = outcome_of given

abbrev taking : Part → Thread → Option Answer → Result ClientStep Outcome
taking part thread answered = do
  given ← found answered WrongState
  Ok (record { outcome = outcome_of given; part = with_thread_of thread ready_thread part; changes = [] })

by_answer : (part : Part) (thread : Thread) (answered : Option Answer) → (or_unchanged part (taking part thread answered)).outcome ≡ told_by answered
by_answer part thread None = refl
by_answer part thread (Some given) = refl

by_row : (part : Part) (thread : Thread) (row : Option ThreadRow) → (or_unchanged part (found row WrongState >>= λ row. taking part thread (answer_in row.state))).outcome ≡ told_by (answer_of row)
by_row part thread None = refl
by_row part thread (Some row) = by_answer part thread (answer_in row.state)

by_part : (w : World) (thread : Thread) (row : Option Part) → (client_step w thread.proc.user.0 (TakeReply thread) row).outcome ≡ told_by (answer_of (thread_of thread.tid (process_of_part thread.proc.num row)))
unfolding client
by_part w thread None = refl
by_part w thread (Some part) = by_row part thread (thread_at part thread.proc.num thread.tid)

-- the answer that a thread has is what its taking gives
pub taken_outcome : (w : World) (thread : Thread) → (step w (TakeReply thread)).outcome ≡ told_by (answer_of (row_among_parts w.parts thread))
unfolding step
taken_outcome w thread = by_part w thread (row_at w.parts thread.proc.user.0)

not_reply : (o : Outcome) → may_end_call o ≡ true → is_reply o ≡ false
not_reply (Reply status bytes) may = absurd (false≢true may)
not_reply _ may = refl

not_reply_too : (o : Outcome) → may_be_pulse o ≡ true → is_reply o ≡ false
not_reply_too (Reply status bytes) may = absurd (false≢true may)
not_reply_too _ may = refl

plainly : (o : Outcome) → not (is_reply o) ≡ true → is_reply o ≡ false
plainly (Reply status bytes) may = absurd (false≢true may)
plainly _ may = refl

-- a perform gives no reply
pub perform_plain : (w : World) (worker : Worker) (moment : ℕ) → is_reply (step w (Perform worker moment)).outcome ≡ false
perform_plain w worker moment = plainly _ (step_gives w (Perform worker moment))

-- nor does another step than the taking of an answer
pub plain_outcome : (w : World) (e : Step) → ((thread : Thread) → e ≢ TakeReply thread) → is_reply (step w e).outcome ≡ false
plain_outcome w (TakeReply thread) other = absurd (other thread refl)
plain_outcome w (Call thread request) other = not_reply _ (step_gives w (Call thread request))
plain_outcome w (Spawn user threads prio) other = plainly _ (step_gives w (Spawn user threads prio))
plain_outcome w (Exit proc) other = plainly _ (step_gives w (Exit proc))
plain_outcome w (TakePulse proc) other = not_reply_too _ (step_gives w (TakePulse proc))
plain_outcome w (SetPrio thread prio) other = plainly _ (step_gives w (SetPrio thread prio))
plain_outcome w (Interrupt thread) other = plainly _ (step_gives w (Interrupt thread))
plain_outcome w (Mount thread path manager) other = plainly _ (step_gives w (Mount thread path manager))
plain_outcome w (Receive worker manager) other = plainly _ (step_gives w (Receive worker manager))
plain_outcome w (Perform worker moment) other = perform_plain w worker moment

-- nor does a thread that has no answer get one
pub unanswered_outcome : (w : World) (thread : Thread) → None ≡ answer_of (row_among_parts w.parts thread) → is_reply (step w (TakeReply thread)).outcome ≡ false
unanswered_outcome w thread none = ap is_reply (taken_outcome w thread ∙ ap told_by (sym none))
