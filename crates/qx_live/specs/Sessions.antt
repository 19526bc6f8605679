-- A session in code, as the definitions see it, and what is due of its last line.
use Rattle.std.specs.Prelude.{◌≡◌, ◌⊎◌, ℕ, ◌+◌, ◌-◌, Bool, true, false, List, [], ◌∷◌, Option, Some, None, vec_capacity, vec_len}
use Rattle.std.specs.List.{range_with_len}
use Rattle.qx_types.specs.declared.limits.TheConstants.Limits.{PROCESSES, THREADS}
use Rattle.qx_types.specs.declared.step.Step.{Step}
use Rattle.qx_types.specs.declared.step.Step.TheVariants.{Perform}
use Rattle.qx_machine.specs.Machine.{World}
use Rattle.qx_machine.specs.Wants.{wants_memory}
use Rattle.qx_live.specs.declared.session.Session as code
use Rattle.qx_live.specs.declared.session.Due.{Due}
use Rattle.qx_live.specs.declared.session.Due.TheVariants.{Serving, Performing, Telling}
use Rattle.qx_live.specs.Chosen.{each, first_worker, followed, rounds}
use Rattle.qx_live.specs.Live.{Session, after_steps, process_steps, pulse_steps, reply_steps, told_steps}

abbrev pub session_of : code.Session → Session
session_of session = record { world = session.world; written = session.written.items }

abbrev pub due_of : code.Session → Option Due
due_of session = session.due

-- the threads of a process take their answers, from one on
abbrev pub threads_from : ℕ → ℕ → ℕ → World → List Step
threads_from user process thread = each (reply_steps user process) (range_with_len thread (THREADS + 1 - thread))

-- what the processes behind one have not taken
abbrev pub processes_behind : ℕ → ℕ → World → List Step
processes_behind user process = each (process_steps user) (range_with_len (process + 1) (PROCESSES - process))

-- what a user is told from a thread of a process on
unfoldable pub told_from : ℕ → ℕ → ℕ → World → List Step
told_from user process thread w = followed w (followed w (threads_from user process thread w) (pulse_steps user process)) (processes_behind user process)

-- so many rounds of serving, and then all that the user is told
abbrev pub serving_steps : ℕ → ℕ → ℕ → World → List Step
serving_steps user moment left w = followed w (rounds left moment w) (told_steps user)

-- a session that goes on so
abbrev pub served : ℕ → ℕ → ℕ → Session → Session
served user moment left session = after_steps session (serving_steps user moment left session.world)

-- what is left to do of a line
abbrev pub due_steps : Option Due → World → List Step
due_steps None w = []
due_steps (Some (Serving user moment left)) w = serving_steps user.0 moment left w
due_steps (Some (Performing user moment left)) w = followed w (Perform first_worker moment ∷ []) (serving_steps user.0 moment left)
due_steps (Some (Telling user process thread)) w = told_from user.0 process thread w

-- the session once that is done
abbrev pub caught_up : code.Session → Session
caught_up session = after_steps (session_of session) (due_steps session.due session.world)

-- for how many outcomes more there is room
abbrev pub room_of : code.Session → ℕ
room_of session = vec_capacity session.written - vec_len session.written

-- the first worker holds a message whose performing wants memory
abbrev pub wants_due : Option Due → World → Bool
wants_due (Some (Performing user moment left)) w = wants_memory w (Perform first_worker moment)
wants_due _ w = false

-- why a line is late: there is no room for an outcome, or a message wants memory
abbrev pub IsShort : code.Session → Type 0
IsShort session = (room_of session ≡ 0) ⊎ (wants_due session.due session.world ≡ true)
