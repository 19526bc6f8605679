-- A small front over pipes (an example): which steps a request takes, and which answers come of them, at once or later.
use Rattle.std.specs.Prelude.{ℕ, ◌==◌, ◌&&◌, Bool, true, false, List, [], ◌∷◌, ◌++◌, Option, Some, None, if◌then◌else◌}
use Rattle.qx_types.specs.declared.names.Actor.{Actor}
use Rattle.qx_types.specs.declared.names.Actor.TheVariants.{OfThread}
use Rattle.qx_types.specs.declared.names.Coid.{Coid}
use Rattle.qx_types.specs.declared.names.Manager.TheVariants.{Pipe}
use Rattle.qx_types.specs.declared.names.Thread.{Thread}
use Rattle.qx_types.specs.declared.outcome.Outcome.{Outcome}
use Rattle.qx_types.specs.declared.outcome.Outcome.TheVariants as outcome
use Rattle.qx_types.specs.declared.request.Request.TheVariants.{OpenPath, Read, Write}
use Rattle.qx_types.specs.declared.step.Step.{Step}
use Rattle.qx_types.specs.declared.step.Step.TheVariants.{Call, Interrupt, Mount, Spawn}
use Rattle.qx_isolation.specs.declared.rows.Seen.{Seen}
use Rattle.qx_machine.specs.Machine.{named_thread}
use Rattle.qx_desk.specs.Fronts.{Came, Front}
use Rattle.qx_desk.specs.Programs.{Program, Done, ◌>>=◌, take}
use Rattle.test_desk.specs.declared.asked.Act.{Act}
use Rattle.test_desk.specs.declared.asked.Act.TheVariants.{Open, Get, Put, Cancel}
use Rattle.test_desk.specs.declared.asked.Asked.{Asked}
use Rattle.test_desk.specs.declared.asked.Told.{Told}
use Rattle.test_desk.specs.declared.asked.Waiting.{Waiting}
use Rattle.test_desk.specs.declared.asked.What.{What}
use Rattle.test_desk.specs.declared.asked.What.TheVariants as what

-- the requests of a user that have no answer yet
abbrev pub State : Type 0
State = List Waiting

-- ---- answers among what was written

-- whether it is a thread of the process
abbrev pub is_of : ℕ → Actor → Bool
is_of process (OfThread thread) = thread.proc.num == process
is_of process _ = false

abbrev pub is_answer : Outcome → Bool
is_answer (outcome.Reply status bytes) = true
is_answer (outcome.Failed error) = true
is_answer _ = false

-- the first answer that the process took
abbrev pub answer_for : ℕ → List Seen → Option Outcome
answer_for process [] = None
answer_for process (one ∷ seen) = if is_of process one.actor && is_answer one.outcome then Some one.outcome else answer_for process seen

abbrev pub told_of : Waiting → Option Outcome → List Told
told_of one None = []
told_of one (Some outcome) = record { number = one.number; process = one.process; outcome = outcome } ∷ []

abbrev pub left_of : Waiting → Option Outcome → List Waiting
left_of one None = one ∷ []
left_of one (Some outcome) = []

-- the answers to requests that waited, and those that still wait
abbrev pub late : List Seen → List Waiting → List Told
late seen [] = []
late seen (one ∷ waiting) = told_of one (answer_for one.process seen) ++ late seen waiting

abbrev pub still : List Seen → List Waiting → List Waiting
still seen [] = []
still seen (one ∷ waiting) = left_of one (answer_for one.process seen) ++ still seen waiting

-- ---- what comes of a step

-- a message that was sent has no answer yet; any other outcome is one
abbrev pub at_once : State → Waiting → Outcome → Came State Told
at_once state one outcome.Sent = record { state = state ++ one ∷ []; outputs = [] }
at_once state one outcome = record { state = state; outputs = told_of one (Some outcome) }

abbrev pub with_late : Came State Told → List Seen → Came State Told
with_late came seen = record { state = still seen came.state; outputs = came.outputs ++ late seen came.state }

-- what is written first is of the step itself, and the rest are answers that processes took then
abbrev pub came : State → Waiting → List Seen → Came State Told
came state one [] = record { state = state; outputs = [] }
came state one (first ∷ rest) = with_late (at_once state one first.outcome) rest

-- ---- requests

-- a request of one step
unfoldable pub one_step : State → Waiting → Step → Program (Came State Told)
one_step state one e = do
  seen ← take e
  Done (came state one seen)

-- a process has one thread
abbrev pub thread_of : ℕ → ℕ → Thread
thread_of user process = named_thread user process 1

-- the process that was started
abbrev pub spawned_by : Outcome → Option ℕ
spawned_by (outcome.Spawned process) = Some process
spawned_by _ = None

abbrev pub spawned : List Seen → Option ℕ
spawned [] = None
spawned (first ∷ seen) = spawned_by first.outcome

-- the second step is chosen by what the first one gave
abbrev pub joined : ℕ → State → ℕ → List ℕ → List Seen → Option ℕ → Program (Came State Told)
joined user state number path seen None = Done (came state (record { number = number; process = 0 }) seen)
joined user state number path seen (Some process) = one_step state (record { number = number; process = process }) (Mount (thread_of user process) path Pipe)

unfoldable pub join : ℕ → State → ℕ → List ℕ → Program (Came State Told)
join user state number path = do
  seen ← take (Spawn (record { 0 = user }) 1 (record { 0 = 10 }))
  joined user state number path seen (spawned seen)

-- a process' first connection
abbrev pub pipe : Coid
pipe = record { 0 = 3 }

-- a pipe is opened to read and to write it, and made where it is not there, with the mode 0600
abbrev pub step_of : Thread → Act → Step
step_of thread (Open path) = Call thread (OpenPath (record { 0 = 7 }) 384 path)
step_of thread Get = Call thread (Read pipe 16)
step_of thread (Put bytes) = Call thread (Write pipe bytes)
step_of thread Cancel = Interrupt thread

abbrev pub program_of : ℕ → State → ℕ → What → Program (Came State Told)
program_of user state number (what.Join path) = join user state number path
program_of user state number (what.Act process act) = one_step state (record { number = number; process = process }) (step_of (thread_of user process) act)

-- of a user nothing is kept at first
abbrev pub asking : Front State Asked Told
asking = record {
  start = λ config user. [];
  on = λ user state asked. program_of user state asked.number asked.what;
}
