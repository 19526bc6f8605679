-- What is taken at a session in code, and a desk in code, as the definitions see them.
use Rattle.std.specs.Prelude.{◌≡◌, List, [], ◌∷◌, Option, Some, None, map}
use Rattle.qx_types.specs.declared.step.Step.{Step}
use Rattle.qx_isolation.specs.declared.rows.Seen.{Seen}
use Rattle.qx_machine.specs.Machine.{World}
use Rattle.qx_live.specs.Sessions.{caught_up}
use Rattle.qx_desk.specs.Fronts.{Arrived, Desk, Front, Left, turn}
use Rattle.qx_desk.specs.Programs.{Program, line_for, ran}
use Rattle.qx_desk.specs.declared.taking.By.{By}
use Rattle.qx_desk.specs.declared.taking.Taking as taking
use Rattle.qx_desk.specs.declared.desk.Desk as desk

-- who takes steps, and when
abbrev pub by_of : taking.Taking → By
by_of taking = taking.by

-- the world, once what is due of the last line is made up
abbrev pub world_of : taking.Taking → World
world_of taking = (caught_up taking.session).world

-- what was written at the last step
abbrev pub written_of : taking.Taking → List Seen
written_of taking = taking.session.written.items

-- a program leads from one world to another, and has this value
abbrev pub Comes : {A : Type 0} → By → World → Program A → World → A → Type 0
Comes by before program after value = ran by.user.0 by.moment before program ≡ record { world = after; value = value }

-- the world after a user's steps, whatever is written at them
abbrev pub after_each : By → World → List Step → World
after_each by w [] = w
after_each by w (e ∷ steps) = after_each by (line_for by.user.0 w (record { moment = by.moment; step = e })).world steps

-- some steps of the user lead from one world to another
pub record Leads (by : By) (before after : World) : Type 0 where
  pub steps : List Step
  pub after_them : after_each by before steps ≡ after

-- ---- a desk

-- what is kept of the users, under their numbers from 1
abbrev pub rows_of : {State : Type 0} → List State → List (Option State)
rows_of own = None ∷ map Some own

abbrev pub desk_of : {State : Type 0} → desk.Desk State → Desk State
desk_of desk = record { world = world_of desk.taking; states = rows_of desk.own.items }

abbrev pub arrived : {State Input : Type 0} → By → Input → Option (Left State) → Arrived State Input
arrived by input short = record { user = by.user.0; moment = by.moment; input = input; short = short }

-- memory ran short for an input: some steps were taken, and there is no answer
abbrev pub RanShort : {State Input Output : Type 0} → Front State Input Output → Desk State → By → Input → Desk State → Type 0
RanShort front old by input new = (left : Left _) × (turn front old (arrived by input (Some left)) ≡ record { desk = new; outputs = [] })
