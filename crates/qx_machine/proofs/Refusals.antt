-- What a step that is refused leaves as it was: everything.
use Rattle.std.proofs.Common.{◌≡◌, ℕ, List, [], true, false, refl, sym, ap, ◌∙◌}
use Rattle.std.specs.Prelude.{⊤, Option, Some, None, Result, Ok, Err, slice_set}
use Rattle.std.proofs.lemmas.Bool.{cond_both, false≢true}
use Rattle.qx_types.specs.Configuration.{Configuration}
use Rattle.qx_types.specs.declared.names.Actor.{Actor}
use Rattle.qx_types.specs.declared.names.Thread.{Thread}
use Rattle.qx_types.specs.declared.outcome.Answer.{Answer}
use Rattle.qx_types.specs.declared.outcome.Answer.TheVariants as answer
use Rattle.qx_types.specs.declared.outcome.Outcome.{Outcome}
use Rattle.qx_types.specs.declared.step.Step.{Step}
use Rattle.qx_types.specs.declared.step.Step.TheVariants.{Spawn, Exit, Call, TakeReply, TakePulse, SetPrio, Interrupt, Mount}
use Rattle.qx_isolation.specs.declared.rows.OwnItem.{OwnItem}
use Rattle.qx_machine.specs.declared.rows.Pulse.{Pulse}
use Rattle.qx_machine.specs.declared.rows.State.{State}
use Rattle.qx_machine.specs.declared.rows.State.TheVariants.{Queued as queued, Taken, Waiting}
use Rattle.qx_isolation.specs.Judgements.{◌>>=◌}
use Rattle.qx_machine.specs.Laws.{IsSettled, is_refusal}
use Rattle.qx_machine.specs.Machine.{World, step_end, client_step, own_held, step, step_of}
use Rattle.qx_types.specs.Step.{actor_of, user_of}
use Rattle.qx_isolation.specs.Rows.{row_at}
use Rattle.qx_machine.specs.Clients.{ClientStep, client_given, interrupt_in, or_unchanged, outcome_of, pulse_taken}
use Rattle.qx_machine.specs.Parts.{Part}
use Rattle.qx_machine.specs.Users.{client}
use Rattle.qx_isolation.proofs.Places.{set-row_at}
use Rattle.qx_isolation.proofs.Workers.{server_same}

-- a step that is not refused at once gives no refusal
abbrev IsNoRefusal : Result ClientStep Outcome → Type 0
IsNoRefusal (Ok given) = is_refusal given.outcome ≡ false
IsNoRefusal (Err outcome) = ⊤

record Goes (given : Result ClientStep Outcome) : Type 0 where
  goes : IsNoRefusal given

goes_on : {A : Type 0} (first : Result A Outcome) (next : A → Result ClientStep Outcome) → ((value : A) → Goes (next value)) → Goes (first >>= next)
goes_on (Ok value) next h = h value
goes_on (Err outcome) next h = record { goes = tt }

done_goes : (given : ClientStep) → is_refusal given.outcome ≡ false → Goes (Ok given)
done_goes given h = record { goes = h }

answer_goes : (given : Answer) → is_refusal (outcome_of given) ≡ false
answer_goes (answer.Reply status bytes) = refl
answer_goes (answer.Failed error) = refl

interrupt_goes : (prio : ℕ) (part : Part) (thread : Thread) (call : ℕ) (state : State) → Goes (Ok (interrupt_in prio part thread call state))
interrupt_goes prio part thread call (queued sent) = record { goes = refl }
interrupt_goes prio part thread call (Taken sent) = cond_both {A = ClientStep} sent.is_asked _ _ (λ given. Goes (Ok given)) (λ asked. record { goes = refl }) (λ unasked. record { goes = refl })
interrupt_goes prio part thread call (Waiting sent) = cond_both {A = ClientStep} sent.is_asked _ _ (λ given. Goes (Ok given)) (λ asked. record { goes = refl }) (λ unasked. record { goes = refl })
interrupt_goes prio part thread call _ = record { goes = refl }

pulse_goes : (part : Part) (process : ℕ) (first : Option Pulse) → Goes (Ok (pulse_taken part process first))
pulse_goes part process None = record { goes = refl }
pulse_goes part process (Some first) = record { goes = refl }

given_goes : (config : Configuration) (user : ℕ) (held : List OwnItem) (part : Part) (e : Step) → Goes (client_given config user held part e)
given_goes config user held part (Spawn of threads prio) = search (goes_on, done_goes)
given_goes config user held part (Exit proc) = search (goes_on, done_goes)
given_goes config user held part (Call thread request) = search (goes_on, done_goes)
given_goes config user held part (TakeReply thread) = search (goes_on, done_goes, answer_goes)
given_goes config user held part (TakePulse proc) = search (goes_on, pulse_goes)
given_goes config user held part (SetPrio thread prio) = search (goes_on, done_goes)
given_goes config user held part (Interrupt thread) = search (goes_on, interrupt_goes)
given_goes config user held part (Mount thread path manager) = search (goes_on, done_goes)
given_goes config user held part _ = record { goes = tt }

unchanged_stays : (part : Part) (given : Result ClientStep Outcome) → Goes given → is_refusal (or_unchanged part given).outcome ≡ true → or_unchanged part given ≡ or_unchanged part (Err (or_unchanged part given).outcome)
unchanged_stays part (Ok given) goes refused = absurd (false≢true (sym goes.goes ∙ refused))
unchanged_stays part (Err outcome) goes refused = refl

-- where a client's step is refused, its user's rows stay and no line changes
client_stays : (config : Configuration) (user : ℕ) (held : List OwnItem) (part : Part) (e : Step) → is_refusal (client config user held part e).outcome ≡ true → client config user held part e ≡ or_unchanged part (Err (client config user held part e).outcome)
unfolding client
client_stays config user held part e refused = unchanged_stays part (client_given config user held part e) (given_goes config user held part e) refused

-- rows that stay are put back where they were
acted_same : (w : World) (user : ℕ) (part : Part) → IsSettled w → row_at w.parts user ≡ Some part → step_end user part part [] w ≡ w
acted_same w user part settled here =
    ap (λ parts. record w { parts = parts }) (ap (λ settled. slice_set w.parts user (Some settled)) (settled user part here) ∙ ap (slice_set w.parts user) (sym here) ∙ set-row_at w.parts user)

client_same : (w : World) (user : ℕ) (e : Step) (row : Option Part) → IsSettled w → row_at w.parts user ≡ row → is_refusal (client_step w user e row).outcome ≡ true → (client_step w user e row).world ≡ w
client_same w user e None settled here refused = refl
client_same w user e (Some part) settled here refused =
    ap (λ given. step_end user part given.part given.changes w) (client_stays w.config user (own_held user w.hands) part e refused) ∙ acted_same w user part settled here

step_of_same : (w : World) (e : Step) (by : Option Actor) → IsSettled w → is_refusal (step_of w e by).outcome ≡ true → (step_of w e by).world ≡ w
step_of_same w e None settled refused = server_same w e refused
step_of_same w e (Some actor) settled refused = client_same w (user_of actor) e _ settled refl refused

pub refused_same : (w : World) (e : Step) → IsSettled w → is_refusal (step w e).outcome ≡ true → (step w e).world ≡ w
unfolding step
refused_same w e settled refused = step_of_same w e (actor_of e) settled refused
