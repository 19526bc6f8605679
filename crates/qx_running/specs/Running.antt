-- A run that goes on with no list of its steps: its world, the last steps, which manager is next, and which steps are read.
use Rattle.std.specs.Prelude.{◌≡◌, ℕ, ◌+◌, ◌-◌, ◌^◌, ◌==◌, ◌&&◌, Bool, List, [], ◌∷◌, ◌++◌, Option, Some, None, drop, find, length, max, min, nat_le, nat_lt, option_map, replicate, slice_get, slice_set, take, get_or, if◌then◌else◌}
use Rattle.circular_buffer.specs.Buffer.{keep_last}
use Rattle.qx_types.specs.Managers.{manager_count, manager_number, managers}
use Rattle.qx_types.specs.declared.names.Manager.{Manager}
use Rattle.qx_types.specs.declared.names.Prio.{Prio}
use Rattle.qx_types.specs.declared.outcome.Outcome.{Outcome}
use Rattle.qx_types.specs.declared.outcome.Outcome.TheVariants.{Took}
use Rattle.qx_types.specs.declared.step.Step.{Step}
use Rattle.qx_types.specs.declared.step.Step.TheVariants.{Receive}
use Rattle.qx_machine.specs.Machine.{World, line_of, owner, step}
use Rattle.qx_machine.specs.Runs.{run, world_after}
use Rattle.qx_types.specs.Cut.{bytes_of_outcome, bytes_of_step, cut_outcome, cut_step}
use Rattle.qx_running.specs.declared.running.Recorded.{Recorded}
use Rattle.qx_running.specs.declared.running.TheConstants.{URGENCIES}

-- the world; the last steps, of at most so many; how many were taken since the run began, at most the greatest number of 64 bits;
-- and for each urgency of a line the number of the manager whose turn it is among those of that urgency
pub record Now : Type 0 where
  pub world : World
  pub last : List Recorded
  pub room : ℕ
  pub taken : ℕ
  pub turns : List ℕ

-- a run that begins
abbrev pub begun : World → ℕ → Now
begun world room = record { world = world; last = []; room = room; taken = 0; turns = replicate URGENCIES 0 }

-- what is kept of a step from a world
abbrev pub recorded : World → Step → Recorded
recorded w e = record {
  owner = option_map (λ number. record { 0 = number }) (owner w e);
  entry = record { step = cut_step e; outcome = cut_outcome (step w e).outcome };
  step_bytes = bytes_of_step e;
  outcome_bytes = bytes_of_outcome (step w e).outcome;
}

-- and of the steps from a world
abbrev pub recorded_from : World → List Step → List Recorded
recorded_from w [] = []
recorded_from w (e ∷ steps) = recorded w e ∷ recorded_from (step w e).world steps

-- the world that some steps lead to from boot
abbrev pub world_by : World → List Step → World
world_by w before = (run w.config before).world

-- `before` led from boot to the world that the run began with, and `since` from there to now
pub record CameBy (before since : List Step) (now : Now) : Type 0 where
  pub world : now.world ≡ world_after (world_by now.world before) since
  pub last : now.last ≡ keep_last now.room (recorded_from (world_by now.world before) since)
  pub taken : now.taken ≡ min (length since) (2 ^ 64 - 1)

-- some steps came to it
abbrev pub IsOfRun : Now → Type 0
IsOfRun now = (before : List Step) × (since : List Step) × CameBy before since now

-- ---- whose turn it is

-- how urgent a line is by the priority of its first item: one more than that, and 0 where it is empty
abbrev pub urgency_of : Option Prio → ℕ
urgency_of None = 0
urgency_of (Some prio) = prio.0 + 1

abbrev pub urgency : World → Manager → ℕ
urgency w manager = urgency_of (option_map (λ first. first.prio) (slice_get (line_of w manager) 0))

-- whose turn a receive makes it that takes an item, and among the managers of which urgency: its manager comes last of those whose
-- lines are as urgent as its own was
abbrev pub turn_by : World → Step → Option (ℕ × ℕ)
turn_by w (Receive worker manager) = Some (urgency w manager, manager_number manager + 1)
turn_by w _ = None

-- a step with an outcome moves a turn only where it took an item
abbrev pub with_turn : List ℕ → Option (ℕ × ℕ) → Outcome → List ℕ
with_turn turns None outcome = turns
with_turn turns (Some by) (Took item) = slice_set turns by.0 by.1
with_turn turns (Some by) _ = turns

-- after one step more
abbrev pub next : Now → Step → Now
next now e = record {
  world = (step now.world e).world;
  last = keep_last now.room (now.last ++ recorded now.world e ∷ []);
  room = now.room;
  taken = min (now.taken + 1) (2 ^ 64 - 1);
  turns = with_turn now.turns (turn_by now.world e) (step now.world e).outcome;
}

-- ---- the next manager

-- how urgent the most urgent line of some managers is
abbrev pub greatest_urgency : World → List Manager → ℕ
greatest_urgency w [] = 0
greatest_urgency w (manager ∷ some) = max (urgency w manager) (greatest_urgency w some)

-- an item waits for the manager, and the line is as urgent as that
abbrev pub is_as_urgent : World → ℕ → Manager → Bool
is_as_urgent w most manager = nat_lt 0 most && (urgency w manager == most)

-- of the managers with the most urgent lines the first one from a turn on; none where all lines are empty
abbrev pub in_turn : World → ℕ → Option Manager
in_turn w turn = find (is_as_urgent w (greatest_urgency w managers)) (drop turn managers ++ take turn managers)

-- the manager whose line a worker serves next: that of the first item of the highest priority, and of several such the one whose turn it
-- is; none where all lines are empty
abbrev pub next_manager : World → List ℕ → Option Manager
next_manager w turns = in_turn w (get_or turns (greatest_urgency w managers) 0)

-- how many managers have their turn before one, from a turn on
abbrev pub stand_before : ℕ → Manager → ℕ
stand_before turn manager = if nat_le turn (manager_number manager) then manager_number manager - turn else manager_count - turn + manager_number manager

-- ---- reading

-- the number of the oldest step that is kept, or of the next one to come where none is; numbers begin at 1, and end with the greatest
-- number of 64 bits
abbrev pub oldest : Now → ℕ
oldest now = min (now.taken - length now.last + 1) (2 ^ 64 - 1)
