-- What the lines of a script do: the steps that they take and the text that they print.
use Rattle.std.specs.Prelude.{ℕ, Bool, true, false, List, [], ◌∷◌, ◌++◌, if◌then◌else◌, is_some}
use Rattle.qx_types.specs.Configuration.{Configuration}
use Rattle.qx_types.specs.declared.names.Thread.{Thread}
use Rattle.qx_types.specs.declared.outcome.Outcome.{Outcome}
use Rattle.qx_types.specs.declared.outcome.Outcome.TheVariants.{Spawned, Refused, Done, Sent, Reply, Failed, Pulse, NoPulse, WrongState, Took, Idle, Busy, Handled, Nothing}
use Rattle.qx_types.specs.declared.step.Step.{Step}
use Rattle.qx_types.specs.declared.step.Step.TheVariants.{Call, TakeReply, Perform}
use Rattle.qx_machine.specs.Machine.{World, boot, step}
use Rattle.qx_isolation.specs.Rows.{row_at}
use Rattle.qx_machine.specs.Runs.{erase, run, received}
use Rattle.qx_machine.specs.Reads.{is_thread_answered, row_among_parts}
use Rattle.qx_live.specs.Chosen.{first_worker, served_steps}
use Rattle.qx_live.specs.Live.{live_steps}
use Rattle.qx_live.specs.declared.line.LiveLine.{LiveLine}
use Rattle.qx_script.specs.declared.command.Command.{Command}
use Rattle.qx_script.specs.declared.command.Command.TheVariants.{Take, Serve, Do, Show, Erased, Trace}
use Rattle.qx_play.specs.Printed.{trace_text, transcript_text}

-- the steps taken and the text printed so far
pub record Played : Type 0 where
  pub steps : List Step
  pub text : List ℕ

-- the world after the steps
abbrev pub world_played : Configuration → List Step → World
world_played config steps = (run config steps).world

abbrev pub is_holding : World → Bool
is_holding w = is_some (row_at w.hands 1)

-- the first worker does what it holds
unfoldable pub hand_emptied : Configuration → ℕ → List Step → List Step
hand_emptied config moment steps =
    if is_holding (world_played config steps) then steps ++ Perform first_worker moment ∷ [] else steps

-- and then all that waits is served
unfoldable pub all_served : Configuration → ℕ → List Step → List Step
all_served config moment steps = steps ++ served_steps moment (world_played config steps)

unfoldable pub with_lines_served : Configuration → ℕ → List Step → List Step
with_lines_served config moment steps = all_served config moment (hand_emptied config moment steps)

abbrev pub is_sent : Outcome → Bool
is_sent (Spawned number) = false
is_sent (Refused error) = false
is_sent Done = false
is_sent Sent = true
is_sent (Reply status bytes) = false
is_sent (Failed error) = false
is_sent (Pulse code value) = false
is_sent NoPulse = false
is_sent WrongState = false
is_sent (Took item) = false
is_sent Idle = false
is_sent Busy = false
is_sent Handled = false
is_sent Nothing = false

-- the thread has an answer to take
abbrev pub has_answer : World → Thread → Bool
has_answer w thread = is_thread_answered (row_among_parts w.parts thread)

-- the thread takes its answer, if it has one
unfoldable pub with_reply_taken : Configuration → Thread → List Step → List Step
with_reply_taken config thread steps = if has_answer (world_played config steps) thread then steps ++ TakeReply thread ∷ [] else steps

-- a call; where it is sent, all is served and the answer is taken
unfoldable pub called : Configuration → ℕ → Thread → Step → List Step → List Step
called config moment thread call steps =
    if is_sent (step (world_played config steps) call).outcome
    then with_reply_taken config thread (with_lines_served config moment (steps ++ call ∷ []))
    else steps ++ call ∷ []

-- what one line does
abbrev pub played_line : Configuration → Played → Command → Played
played_line config played (Take step) = record { steps = played.steps ++ step ∷ []; text = played.text }
played_line config played (Serve moment) = record { steps = with_lines_served config moment played.steps; text = played.text }
played_line config played (Do moment thread request) =
    record { steps = called config moment thread (Call thread request) played.steps; text = played.text }
played_line config played (Show user) =
    record { steps = played.steps; text = played.text ++ transcript_text config (received user.0 (run config played.steps).entries) }
played_line config played (Erased user) =
    record { steps = played.steps; text = played.text ++ transcript_text config (received user.0 (run config (erase user.0 config played.steps)).entries) }
played_line config played Trace =
    record { steps = played.steps; text = played.text ++ trace_text config (run config played.steps).entries }

abbrev pub played_lines : Configuration → Played → List Command → Played
played_lines config played [] = played
played_lines config played (command ∷ commands) = played_lines config (played_line config played command) commands

-- all lines, from boot
abbrev pub played : Configuration → List Command → Played
played config commands = played_lines config (record { steps = []; text = [] }) commands

-- what a script prints
unfoldable pub shown : Configuration → List Command → List ℕ
shown config commands = (played config commands).text

-- what `trace` prints behind the lines of a session
abbrev pub session_trace : Configuration → List LiveLine → List ℕ
session_trace config lines = trace_text config (run config (live_steps (boot config) lines)).entries
