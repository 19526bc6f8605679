-- What is printed of a step is a line that takes this step.
use Rattle.std.proofs.Common.{◌≡◌, ◌∙◌, ℕ, Bool, true, false, cond, List, ◌∷◌, Some, ap, refl, arith}
use Rattle.std.specs.Prelude.{option_map}
use Rattle.qx_types.specs.Configuration.{Configuration, IsConfiguration}
use Rattle.qx_types.specs.declared.names.Thread.{Thread}
use Rattle.qx_types.specs.declared.request.Request.{Request}
use Rattle.qx_types.specs.declared.step.Step.{Step}
use Rattle.qx_types.specs.declared.step.Step.TheVariants.{Spawn, Exit, Call, TakeReply, TakePulse, SetPrio, Interrupt, Mount, Receive, Perform}
use Rattle.qx_script.specs.declared.command.Command.TheVariants.{Take}
use Rattle.qx_calls.specs.Calls.{call_in_line, call_said}
use Rattle.qx_calls.specs.Forms.{line_text, words_for, words_said}
use Rattle.qx_script.specs.Lines.{CanSay, call_step, command_of, exit_line, interrupt_line, mount_line, perform_line, prio_line, line_of_receive, pulse_line, reply_line, spawn_line, step_in_line, step_said}
use Rattle.qx_script.specs.Script.{Reading, after_line, after_words, is_skipped, with_command}
use Rattle.qx_script.specs.StepText.{step_text}
use Rattle.qx_words.specs.Kinds.{is_word}
use Rattle.qx_words.specs.Words.{words_of}
use Rattle.qx_calls.proofs.ReadCalls.{call_again}
use Rattle.qx_calls.proofs.ReadForms.{line_again, text_in_words}

-- the first word of a call's line is that of no line of another step
reads_call : (users : List (List ℕ)) (thread : Thread) (request : Request) (words : List (List ℕ))
    → step_in_line users (call_said thread request).name words ≡ option_map call_step (call_in_line users (call_said thread request).name words)
unfolding step_in_line
reads_call users thread request words = grind arith

-- a step's line is read as that step
again : (config : Configuration) (step : Step) → IsConfiguration config.users config.workers → CanSay config.users step
    → step_in_line config.users (step_said step).name (words_for (step_said step).form config (step_said step).values) ≡ Some step
unfolding step_in_line
again config (Spawn user threads prio) valid can = line_again spawn_line config (user, (threads, (prio.0, tt))) valid can
again config (Exit process) valid can = line_again exit_line config (process, tt) valid can
again config (Call thread request) valid can =
    reads_call config.users thread request (words_for (call_said thread request).form config (call_said thread request).values)
    ∙ ap (option_map call_step) (call_again config thread request valid can)
again config (TakeReply thread) valid can = line_again reply_line config (thread, tt) valid can
again config (TakePulse process) valid can = line_again pulse_line config (process, tt) valid can
again config (SetPrio thread prio) valid can = line_again prio_line config (thread, (prio.0, tt)) valid can
again config (Interrupt thread) valid can = line_again interrupt_line config (thread, tt) valid can
again config (Mount thread path manager) valid can = line_again mount_line config (thread, (path, (manager, tt))) valid can
again config (Receive worker manager) valid can = line_again line_of_receive config (worker.0, (manager, tt)) valid can
again config (Perform worker moment) valid can = line_again perform_line config (worker.0, (moment, tt)) valid can

-- its first word is a word, begins no comment, and is that of no line that takes no step
pub name_is_word : (step : Step) → is_word (step_said step).name ≡ true
name_is_word step = grind arith

not_skipped : (config : Configuration) (step : Step) → is_skipped (line_text config (step_said step)) ≡ false
not_skipped config step = grind arith

takes_step : (reading : Reading) (step : Step) (words : List (List ℕ))
    → after_words reading ((step_said step).name ∷ words) ≡ option_map (with_command reading) (option_map Take (step_in_line reading.users (step_said step).name words))
unfolding after_words command_of
takes_step reading step words = grind arith

takes : (config : Configuration) (reading : Reading) (step : Step) → IsConfiguration config.users config.workers → reading.users ≡ config.users
    → CanSay config.users step → after_words reading (words_said config (step_said step)) ≡ Some (with_command reading (Take step))
takes config reading step valid same can =
    let words = words_for (step_said step).form config (step_said step).values in
    takes_step reading step words
    ∙ ap (λ users. option_map (with_command reading) (option_map Take (step_in_line users (step_said step).name words))) same
    ∙ ap (λ found. option_map (with_command reading) (option_map Take found)) (again config step valid can)

other : {A : Type 0} (b : Bool) (x y : A) → b ≡ false → cond b x y ≡ y
other true x y is = cc
other false x y is = refl

pub line_in_words : (reading : Reading) (line : List ℕ) → is_skipped line ≡ false → after_line reading line ≡ after_words reading (words_of line)
unfolding after_line
line_in_words reading line is = other (is_skipped line) (Some reading) (after_words reading (words_of line)) is

pub read_back : (config : Configuration) (reading : Reading) (step : Step) → IsConfiguration config.users config.workers → reading.users ≡ config.users
    → CanSay config.users step → after_line reading (step_text config step) ≡ Some (with_command reading (Take step))
unfolding step_text
read_back config reading step valid same can =
    line_in_words reading (line_text config (step_said step)) (not_skipped config step)
    ∙ ap (after_words reading) (text_in_words config (step_said step) valid (name_is_word step) can)
    ∙ takes config reading step valid same can
