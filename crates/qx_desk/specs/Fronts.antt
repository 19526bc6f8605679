-- A front: inputs of several users are answered, each by steps of its own user and by what the front keeps of that user (this profile).
use Rattle.std.specs.Prelude.{ℕ, ◌+◌, ◌==◌, List, [], ◌∷◌, ◌++◌, Option, Some, None, filter, map, slice_set}
use Rattle.qx_types.specs.Configuration.{Configuration}
use Rattle.qx_types.specs.declared.step.Step.{Step}
use Rattle.qx_isolation.specs.Rows.{row_at}
use Rattle.qx_machine.specs.Machine.{World, boot}
use Rattle.qx_live.specs.declared.line.LiveLine.{LiveLine}
use Rattle.qx_desk.specs.Programs.{Program, each_taken, lines_taken, ran}

-- the value of an input's program: what is kept of the user from then on, and the user's answers, to this input or to earlier ones
pub record Came (State Output : Type 0) : Type 0 where
  pub state : State
  pub outputs : List Output

-- what is kept of a user at first, and what is done for an input of the user, who is given by number; nothing of another user is given
pub record Front (State Input Output : Type 0) : Type 0 where
  pub start : Configuration → ℕ → State
  pub on : ℕ → State → Input → Program (Came State Output)

-- what was done for an input for which memory ran short: the steps that were taken, and what the front left of the user
pub record Left (State : Type 0) : Type 0 where
  pub steps : List Step
  pub state : State

-- an input, its user, and the moment at which it came; and whether memory ran short for it
pub record Arrived (State Input : Type 0) : Type 0 where
  pub user : ℕ
  pub moment : ℕ
  pub input : Input
  pub short : Option (Left State)

pub record Answer (Output : Type 0) : Type 0 where
  pub user : ℕ
  pub output : Output

-- the answers that outputs are to a user
abbrev pub to_user : {Output : Type 0} → ℕ → List Output → List (Answer Output)
to_user user outputs = map (λ output. record { user = user; output = output }) outputs

-- the world, and what is kept of each user under the user's number
pub record Desk (State : Type 0) : Type 0 where
  pub world : World
  pub states : List (Option State)

-- what an input leads to
pub record Turn (State Output : Type 0) : Type 0 where
  pub desk : Desk State
  pub outputs : List Output

module _ {State Input Output : Type 0} where
  -- what is kept at first of the users from this one on
  abbrev pub start_states : Front State Input Output → Configuration → ℕ → List (List ℕ) → List (Option State)
  start_states front config user [] = []
  start_states front config user (name ∷ names) = Some (front.start config user) ∷ start_states front config (user + 1) names

  abbrev pub opened : Front State Input Output → Configuration → Desk State
  opened front config = record { world = boot config; states = None ∷ start_states front config 1 config.users }

  -- the front's program for the input; where memory ran short, some steps and no answer
  abbrev pub program_with : Front State Input Output → Arrived State Input → State → Option (Left State) → Program (Came State Output)
  program_with front arrived state None = front.on arrived.user state arrived.input
  program_with front arrived state (Some left) = each_taken left.steps (record { state = left.state; outputs = [] })

  abbrev pub program_for : Front State Input Output → Arrived State Input → State → Program (Came State Output)
  program_for front arrived state = program_with front arrived state arrived.short

  -- of a user that is not configured nothing is kept, and there is no answer
  abbrev pub turn_of : Front State Input Output → Desk State → Arrived State Input → Option State → Turn State Output
  turn_of front desk arrived None = record { desk = desk; outputs = [] }
  turn_of front desk arrived (Some state) =
      let after = ran arrived.user arrived.moment desk.world (program_for front arrived state) in
      record { desk = record { world = after.world; states = slice_set desk.states arrived.user (Some after.value.state) }; outputs = after.value.outputs }

  abbrev pub turn : Front State Input Output → Desk State → Arrived State Input → Turn State Output
  turn front desk arrived = turn_of front desk arrived (row_at desk.states arrived.user)

  abbrev pub desk_after : Front State Input Output → Desk State → List (Arrived State Input) → Desk State
  desk_after front desk [] = desk
  desk_after front desk (arrived ∷ inputs) = desk_after front (turn front desk arrived).desk inputs

  abbrev pub answers_from : Front State Input Output → Desk State → List (Arrived State Input) → List (Answer Output)
  answers_from front desk [] = []
  answers_from front desk (arrived ∷ inputs) =
      let one = turn front desk arrived in
      to_user arrived.user one.outputs ++ answers_from front one.desk inputs

  -- a front's answers to inputs, in order, each with its user
  unfoldable pub answers : Front State Input Output → Configuration → List (Arrived State Input) → List (Answer Output)
  answers front config inputs = answers_from front (opened front config) inputs

  -- ---- words of the laws

  abbrev pub turn_lines : Front State Input Output → Desk State → Arrived State Input → Option State → List LiveLine
  turn_lines front desk arrived None = []
  turn_lines front desk arrived (Some state) = lines_taken arrived.user arrived.moment desk.world (program_for front arrived state)

  abbrev pub lines_from : Front State Input Output → Desk State → List (Arrived State Input) → List LiveLine
  lines_from front desk [] = []
  lines_from front desk (arrived ∷ inputs) =
      turn_lines front desk arrived (row_at desk.states arrived.user) ++ lines_from front (turn front desk arrived).desk inputs

  -- the lines of a session that a front takes
  unfoldable pub front_lines : Front State Input Output → Configuration → List (Arrived State Input) → List LiveLine
  front_lines front config inputs = lines_from front (opened front config) inputs

-- the answers to a user
abbrev pub for_user : {Output : Type 0} → ℕ → List (Answer Output) → List (Answer Output)
for_user user all = filter (λ answer. answer.user == user) all

-- the inputs of a user
abbrev pub inputs_of : {State Input : Type 0} → ℕ → List (Arrived State Input) → List (Arrived State Input)
inputs_of user inputs = filter (λ arrived. arrived.user == user) inputs
