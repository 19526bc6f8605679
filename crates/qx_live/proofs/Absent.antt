-- A thread or a process that is not there is told nothing.
use Rattle.std.proofs.Common.{◌≡◌, ℕ, zero, suc, ◌+◌, ◌-◌, ◌≤◌, ◌<◌, false, List, [], ◌∷◌, refl, ap, ◌∙◌, arith, if◌then◌else◌}
use Rattle.std.specs.Prelude.{◌&&◌, Option, Some, None, is_some, length, unwrap_or}
use Rattle.std.specs.List.{range_with_len}
use Rattle.std.proofs.lemmas.Option.{slice_get_past}
use Rattle.qx_types.specs.declared.limits.TheConstants.Limits.{PROCESSES, THREADS}
use Rattle.qx_types.specs.declared.names.Proc.{Proc}
use Rattle.qx_types.specs.declared.step.Step.{Step}
use Rattle.qx_types.specs.declared.step.Step.TheVariants.{TakeReply, TakePulse}
use Rattle.qx_isolation.specs.Rows.{row_at}
use Rattle.qx_machine.specs.Machine.{World, named_thread}
use Rattle.qx_machine.specs.Events.{first_pulse}
use Rattle.qx_machine.specs.Parts.{Part, thread_of}
use Rattle.qx_machine.specs.Processes.{Process, living}
use Rattle.qx_machine.specs.Reads.{is_thread_answered, process_among_parts, process_of_part}
use Rattle.qx_steps.specs.Places.{process_places, thread_places}
use Rattle.qx_live.specs.Chosen.{each, followed}
use Rattle.qx_live.specs.Live.{has_pulse, process_steps, pulse_count, pulse_steps, pulses, reply_steps}
use Rattle.qx_live.specs.Sessions.{processes_behind, threads_from}
use Rattle.qx_live.proofs.Told.{has_pulse_is, pulse_at}

-- a row behind the last place
row_past : {A : Type 0} (places : List (Option A)) (number : ℕ) → length places ≤ number → row_at places number ≡ None
row_past places number past = ap (λ place. unwrap_or place None) (slice_get_past places number past)

-- steps that are chosen for numbers from one on, none for each
none_each : (choose : ℕ → World → List Step) (w : World) (first count : ℕ) → ((number : ℕ) → first ≤ number → choose number w ≡ []) → each choose (range_with_len first count) w ≡ []
none_each choose w first zero none = refl
none_each choose w first (suc count) none =
    ap (λ steps. followed w steps (each choose (range_with_len (first + 1) count))) (none first (omega arith))
    ∙ none_each choose w (first + 1) count (λ number from. none number (omega (arith, from)))

-- ---- threads

unanswered : (row : Option Process) (thread : ℕ) → thread_places row ≤ thread → is_thread_answered (thread_of thread row) ≡ false
unanswered None thread past = refl
unanswered (Some process) thread past = ap is_thread_answered (row_past process.threads thread past)

no_reply : (user process thread : ℕ) (w : World) → is_thread_answered (thread_of thread (process_among_parts w.parts (named_thread user process thread).proc)) ≡ false → reply_steps user process thread w ≡ []
unfolding reply_steps
no_reply user process thread w none = ap (λ answered. if answered then TakeReply (named_thread user process thread) ∷ [] else []) none

-- behind the last place of the process
pub none_from : (user process thread : ℕ) (w : World) → thread_places (process_among_parts w.parts (named_thread user process thread).proc) ≤ thread → threads_from user process thread w ≡ []
none_from user process thread w past =
    none_each (reply_steps user process) w thread (THREADS + 1 - thread)
    (λ number from. no_reply user process number w (unanswered (process_among_parts w.parts (named_thread user process thread).proc) number (omega (arith, past, from))))

-- behind the last number that a thread may have
pub none_past : (user process thread : ℕ) (w : World) → THREADS < thread → threads_from user process thread w ≡ []
none_past user process thread w past =
    let none : THREADS + 1 - thread ≡ zero = omega arith in
    ap (λ n. each (reply_steps user process) (range_with_len thread n) w) none

-- ---- processes

absent : (row : Option Part) (process : ℕ) → process_places row ≤ process → process_of_part process row ≡ None
absent None process past = refl
absent (Some part) process past = row_past part.processes process past

no_pulse_at : (row : Option Part) (process : ℕ) → process_places row ≤ process → pulse_at row process ≡ false
no_pulse_at None process past = refl
no_pulse_at (Some part) process past = ap (λ row. is_some (living row) && is_some (first_pulse process part.resources.events)) (row_past part.processes process past)

no_pulses : (count : ℕ) (proc : Proc) (w : World) → has_pulse w proc ≡ false → pulses count proc w ≡ []
no_pulses zero proc w none = refl
no_pulses (suc count) proc w none = ap (λ has. if has then followed w (TakePulse proc ∷ []) (pulses count proc) else []) none

module _ (user process : ℕ) (w : World) (past : process_places (row_at w.parts user) ≤ process) where
  abbrev proc : Proc
  proc = (named_thread user process 0).proc

  untold : pulse_steps user process w ≡ []
  unfolding pulse_steps
  untold = no_pulses (pulse_count process (row_at w.parts user)) proc w (has_pulse_is w proc (row_at w.parts user) refl ∙ no_pulse_at (row_at w.parts user) process past)

  nothing : process_steps user process w ≡ []
  nothing =
      ap (λ steps. followed w steps (pulse_steps user process))
      (none_each (reply_steps user process) w 1 THREADS (λ number from. no_reply user process number w (ap (λ row. is_thread_answered (thread_of number row)) (absent (row_at w.parts user) process past))))
      ∙ untold

-- behind the last place of the user
pub none_behind : (user process : ℕ) (w : World) → process_places (row_at w.parts user) ≤ process + 1 → processes_behind user process w ≡ []
none_behind user process w past = none_each (process_steps user) w (process + 1) (PROCESSES - process) (λ number from. nothing user number w (omega (arith, past, from)))

-- behind the last number that a process may have
pub none_last : (user process : ℕ) (w : World) → PROCESSES ≤ process → processes_behind user process w ≡ []
none_last user process w last =
    let none : PROCESSES - process ≡ zero = omega arith in
    ap (λ n. each (process_steps user) (range_with_len (process + 1) n) w) none
