-- No process ends as an item is performed.
use Rattle.std.proofs.Common.{◌≡◌, inl, inr, ℕ, zero, suc, ◌==◌, List, [], ◌∷◌, length, Bool, refl, ap, ◌∙◌}
use Rattle.std.specs.Prelude.{Option, Some, None, Result, Ok, Err, is_some, option_map, if◌then◌else◌}
use Rattle.std.proofs.lemmas.Bool.{cases_eq, cond_both}
use Rattle.std.proofs.lemmas.List.{length-set}
use Rattle.qx_base.specs.declared.errno.Errno.{Errno}
use Rattle.qx_types.specs.declared.outcome.Answer.{Answer}
use Rattle.qx_machine.specs.declared.rows.Effect.{Effect}
use Rattle.qx_machine.specs.declared.rows.Effect.TheVariants.{Keeps, Opens, Closes}
use Rattle.qx_machine.specs.declared.rows.Over.{Over}
use Rattle.qx_machine.specs.declared.rows.Over.TheVariants.{New, Existing, Side}
use Rattle.qx_machine.specs.declared.rows.ThreadRow.{ThreadRow}
use Rattle.qx_machine.specs.declared.rows.WaitingCall.{WaitingCall}
use Rattle.qx_machine.specs.Functions.{Deed, Reply}
use Rattle.qx_machine.specs.Parts.{Part}
use Rattle.qx_machine.specs.Performing.{after_answer, after_message, after_serving, with_answers}
use Rattle.qx_machine.specs.Processes.{Process, after_effect, after_error, after_reply, has_ended, living, with_thread}
use Rattle.qx_machine.specs.Resources.{Resources}
use Rattle.qx_isolation.specs.Rows.{row_at, with_row}
use Rattle.qx_machine.specs.Settling.{is_living}
use Rattle.qx_isolation.proofs.Places.{row_at-set_other}

-- a change of a process that leaves as many threads
pub record KeepsThreads (change : Process → Process) : Type 0 where
  pub keeps : (process : Process) → length (change process).threads ≡ length process.threads

lives-row : (change : Process → Process) → KeepsThreads change → (row : Option Process) → is_some (living (option_map change row)) ≡ is_some (living row)
lives-row change kept None = refl
lives-row change kept (Some process) = by (has_ended process) (has_ended (change process)) (ap (λ (n : ℕ). n == 0) (kept.keeps process))
  where
    by : (before after : Bool) → after ≡ before → is_some (if after then None else Some (change process)) ≡ is_some (if before then None else Some process)
    by before after same = rw same (cond_both before None (Some (change process)) (λ (row : Option Process). is_some row ≡ is_some (if before then None else Some process)) (λ is. rw is refl) (λ is_not. rw is_not refl))

row-changed : (processes : List (Option Process)) (number other : ℕ) (change : Process → Process) → KeepsThreads change → is_some (living (row_at (with_row processes number change) other)) ≡ is_some (living (row_at processes other))
row-changed processes number other change kept = elim (cases_eq other number) [
  | inl same ↦ rw same (here processes number)
  | inr differs ↦ ap (λ row. is_some (living row)) (row_at-set_other processes number other (option_map change (row_at processes number)) differs)
]
  where
    here : (rows : List (Option Process)) (n : ℕ) → is_some (living (row_at (with_row rows n change) n)) ≡ is_some (living (row_at rows n))
    here [] n = refl
    here (row ∷ rows) zero = lives-row change kept row
    here (row ∷ rows) (suc n) = here rows n

-- the same processes live
pub lives-changed : (processes : List (Option Process)) (number : ℕ) (change : Process → Process) → KeepsThreads change → is_living (with_row processes number change) ≡ is_living processes
lives-changed processes number change kept = λ i other. row-changed processes number other change kept i

pub keeps-thread : (thread : ℕ) (change : ThreadRow → ThreadRow) → KeepsThreads (with_thread thread change)
keeps-thread thread change = record { keeps = λ process. length-set process.threads thread (option_map change (row_at process.threads thread)) }

pub lives-answers : (answers : List (WaitingCall × Answer)) (part : Part) → is_living (with_answers answers part).processes ≡ is_living part.processes
lives-answers [] part = refl
lives-answers (first ∷ rest) part = lives-answers rest _ ∙ lives-changed part.processes first.0.process _ (keeps-thread first.0.thread _)

effect-keeps : (effect : Effect) (process : Process) → (after_effect effect process).threads ≡ process.threads
effect-keeps Keeps process = refl
effect-keeps (Opens coid block) process = refl
effect-keeps (Closes coid) process = refl

reply-keeps : (thread : ℕ) (over : Over) (effect : Effect) (process : Process) → (after_reply thread over effect process).threads ≡ process.threads
reply-keeps thread (New coid) effect process = effect-keeps effect process
reply-keeps thread (Existing coid) effect process = effect-keeps effect process
reply-keeps thread Side effect process = refl

error-keeps : (thread : ℕ) (over : Over) (process : Process) → (after_error thread over process).threads ≡ process.threads
error-keeps thread (New coid) process = refl
error-keeps thread (Existing coid) process = refl
error-keeps thread Side process = refl

serving-keeps : (thread : ℕ) (over : Over) (reply : Option Reply) → KeepsThreads (after_serving thread over reply)
serving-keeps thread over None = keeps-thread thread _
serving-keeps thread over (Some reply) = record { keeps = λ process. ap length (reply-keeps thread over reply.effect _) ∙ (keeps-thread thread _).keeps process }

pub message-keeps : (thread : ℕ) (over : Over) (given : Result (Deed Resources) Errno) → KeepsThreads (after_message thread over given)
message-keeps thread over (Ok deed) = serving-keeps thread over deed.reply
message-keeps thread over (Err error) = record { keeps = λ process. ap length (error-keeps thread over _) ∙ (keeps-thread thread _).keeps process }

-- the same processes live once a message is answered
pub lives-answered : (part : Part) (process thread : ℕ) (over : Over) (given : Result (Deed Resources) Errno) → is_living (after_answer part process thread over given).processes ≡ is_living part.processes
lives-answered part process thread over (Ok deed) = lives-answers deed.answers _ ∙ lives-changed part.processes process _ (message-keeps thread over (Ok deed))
lives-answered part process thread over (Err error) = lives-changed part.processes process _ (message-keeps thread over (Err error))
