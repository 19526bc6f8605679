-- What the lines of a live session lead to: the steps that are taken, and what is written of them.
use Rattle.std.specs.Prelude.{ℕ, zero, suc, ◌==◌, Bool, true, false, List, [], ◌∷◌, ◌++◌, Option, Some, None, filter, if◌then◌else◌, length, option_map}
use Rattle.std.specs.List.{range_with_len}
use Rattle.qx_types.specs.Configuration.{Configuration}
use Rattle.qx_types.specs.Step.{actor_of, user_of}
use Rattle.qx_types.specs.declared.limits.TheConstants.Limits.{PROCESSES, THREADS}
use Rattle.qx_types.specs.declared.names.Actor.{Actor}
use Rattle.qx_types.specs.declared.names.Proc.{Proc}
use Rattle.qx_types.specs.declared.names.Thread.{Thread}
use Rattle.qx_types.specs.declared.outcome.Outcome.{Outcome}
use Rattle.qx_types.specs.declared.outcome.Outcome.TheVariants.{Pulse}
use Rattle.qx_types.specs.declared.step.Step.{Step}
use Rattle.qx_types.specs.declared.step.Step.TheVariants.{TakeReply, TakePulse}
use Rattle.qx_isolation.specs.Lines.{line_at}
use Rattle.qx_isolation.specs.Rows.{row_at}
use Rattle.qx_isolation.specs.declared.rows.Entry.{Entry}
use Rattle.qx_isolation.specs.declared.rows.Seen.{Seen}
use Rattle.qx_machine.specs.Machine.{World, boot, named_thread, step}
use Rattle.qx_machine.specs.Parts.{Part}
use Rattle.qx_machine.specs.Reads.{is_thread_answered, row_among_parts}
use Rattle.qx_machine.specs.Runs.{is_owner}
use Rattle.qx_live.specs.Chosen.{each, followed, served_steps}
use Rattle.qx_live.specs.declared.line.LiveLine.{LiveLine}

-- ---- telling

-- the thread has an answer that it has not taken
abbrev pub is_answered : World → Thread → Bool
is_answered w thread = is_thread_answered (row_among_parts w.parts thread)

-- a thread takes its answer, if it has one
unfoldable pub reply_steps : ℕ → ℕ → ℕ → World → List Step
reply_steps user process thread w =
    if is_answered w (named_thread user process thread) then TakeReply (named_thread user process thread) ∷ [] else []

abbrev pub is_pulse : Outcome → Bool
is_pulse (Pulse code value) = true
is_pulse _ = false

-- the process has a pulse that it has not taken
abbrev pub has_pulse : World → Proc → Bool
has_pulse w proc = is_pulse (step w (TakePulse proc)).outcome

abbrev pub pulse_count : ℕ → Option Part → ℕ
pulse_count process None = 0
pulse_count process (Some part) = length (line_at part.resources.events.pulses process)

-- so many pulses, as long as there is one
abbrev pub pulses : ℕ → Proc → World → List Step
pulses zero proc w = []
pulses (suc left) proc w = if has_pulse w proc then followed w (TakePulse proc ∷ []) (pulses left proc) else []

-- a process takes all its pulses
unfoldable pub pulse_steps : ℕ → ℕ → World → List Step
pulse_steps user process w = pulses (pulse_count process (row_at w.parts user)) (record { user = record { 0 = user }; num = process }) w

-- the threads of a process take their answers, and then the process its pulses
abbrev pub process_steps : ℕ → ℕ → World → List Step
process_steps user process w = followed w (each (reply_steps user process) (range_with_len 1 THREADS) w) (pulse_steps user process)

-- all that a user's processes have not taken
unfoldable pub told_steps : ℕ → World → List Step
told_steps user w = each (process_steps user) (range_with_len 1 PROCESSES) w

-- ---- lines

-- the step of a line is taken, what waits is served, and the user who took the step is told what came of it; a worker's step is no line's
abbrev pub steps_by : World → LiveLine → Option Actor → List Step
steps_by w line None = []
steps_by w line (Some actor) = followed w (followed w (line.step ∷ []) (served_steps line.moment)) (told_steps (user_of actor))

unfoldable pub line_steps : World → LiveLine → List Step
line_steps w line = steps_by w line (actor_of line.step)

-- ---- sessions

-- the world, and what was written so far: of each client's step, who took it and its outcome
pub record Session : Type 0 where
  pub world : World
  pub written : List Seen

abbrev pub begun : Configuration → Session
begun config = record { world = boot config; written = [] }

-- of a worker's step nothing is written
abbrev pub written_by : Outcome → Option Actor → List Seen
written_by outcome None = []
written_by outcome (Some actor) = record { actor = actor; outcome = outcome } ∷ []

abbrev pub after_step : Session → Step → Session
after_step session e = record {
  world = (step session.world e).world;
  written = session.written ++ written_by (step session.world e).outcome (actor_of e);
}

abbrev pub after_steps : Session → List Step → Session
after_steps session [] = session
after_steps session (e ∷ steps) = after_steps (after_step session e) steps

-- what a line leads to, with what is written at it
abbrev pub after_line : Session → LiveLine → Session
after_line session line = after_steps session (line_steps session.world line)

abbrev pub after_lines : Session → List LiveLine → Session
after_lines session [] = session
after_lines session (line ∷ lines) = after_lines (after_line session line) lines

-- what a session writes over lines
unfoldable pub written : Configuration → List LiveLine → List Seen
written config lines = (after_lines (begun config) lines).written

-- ---- words of the laws

-- what is written for a user
abbrev pub for_user : ℕ → List Seen → List Seen
for_user user all = filter (λ seen. user_of seen.actor == user) all

-- the lines of a user
abbrev pub is_line_of : ℕ → LiveLine → Bool
is_line_of user line = is_owner user (option_map user_of (actor_of line.step))

abbrev pub lines_of : ℕ → List LiveLine → List LiveLine
lines_of user lines = filter (is_line_of user) lines

-- the steps of all lines, from a world
abbrev pub live_steps : World → List LiveLine → List Step
live_steps w [] = []
live_steps w (line ∷ lines) = followed w (line_steps w line) (λ after. live_steps after lines)

-- what is written of a run
abbrev pub written_of : List Entry → List Seen
written_of [] = []
written_of (entry ∷ entries) = written_by entry.outcome (actor_of entry.step) ++ written_of entries
