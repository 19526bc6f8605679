-- All inputs of a front: over one user's alone the front keeps the same of that user, in a world that is that user's view.
use Rattle.std.proofs.Common.{◌≡◌, ◌≢◌, ℕ, zero, suc, ◌≤◌, List, [], ◌∷◌, ◌++◌, Bool, true, false, refl, sym, ap, subst, ◌∙◌, eq-eqb, if◌then◌else◌}
use Rattle.std.specs.Prelude.{◌==◌, Option, Some, None, slice_set, option_map}
use Rattle.std.proofs.lemmas.Bool.{eqb-true, false≢true}
use Rattle.qx_types.specs.Configuration.{Configuration}
use Rattle.qx_types.specs.Step.{actor_of, user_of}
use Rattle.qx_isolation.specs.Rows.{row_at}
use Rattle.qx_isolation.specs.declared.rows.Seen.{Seen}
use Rattle.qx_isolation.proofs.Places.{row_at-set_other}
use Rattle.qx_isolation.proofs.Runs.{run_world}
use Rattle.qx_machine.specs.Machine.{World, machine, view}
use Rattle.qx_machine.specs.Runs.{is_owner, world_after}
use Rattle.qx_live.specs.Live.{Session, after_line, after_lines, begun, is_line_of, lines_of, live_steps}
use Rattle.qx_live.specs.declared.line.LiveLine.{LiveLine}
use Rattle.qx_live.proofs.Serving.{Quiet}
use Rattle.qx_live.proofs.Sessions.{after_all, quiet_boot, session_steps}
use Rattle.qx_desk.specs.Fronts.{Answer, Arrived, Came, Desk, Front, answers, answers_from, desk_after, for_user, front_lines, inputs_of, lines_from, opened, program_for, to_user, turn, turn_lines, turn_of}
use Rattle.qx_desk.specs.Programs.{Program, Done, Take, Ran, line_for, lines_taken, ran}
use Rattle.qx_desk.proofs.Views.{program_is, same_lines}

-- ---- what is for a user among what was put together of what is for one

own_outputs : {Output : Type 0} (user of : ℕ) (outputs : List Output) (rest : List (Answer Output)) → (of == user) ≡ true → for_user user (to_user of outputs ++ rest) ≡ to_user of outputs ++ for_user user rest
own_outputs user of [] rest own = refl
own_outputs user of (output ∷ outputs) rest own = rw own (ap (λ l. record { user = of; output = output } ∷ l) (own_outputs user of outputs rest own))

other_outputs : {Output : Type 0} (user of : ℕ) (outputs : List Output) (rest : List (Answer Output)) → (of == user) ≡ false → for_user user (to_user of outputs ++ rest) ≡ for_user user rest
other_outputs user of [] rest other = refl
other_outputs user of (output ∷ outputs) rest other = rw other (other_outputs user of outputs rest other)

-- the lines that a program takes are all its user's

owned_by_one : (user other : ℕ) (by : Option ℕ) → is_owner user by ≡ true → (user == other) ≡ false → is_owner other by ≡ false
owned_by_one user other None own differ = refl
owned_by_one user other (Some one) own differ = ap (λ n. n == other) (eqb-true one user own) ∙ differ

own_lines : {A : Type 0} (user moment : ℕ) (w : World) (program : Program A) (rest : List LiveLine) → lines_of user (lines_taken user moment w program ++ rest) ≡ lines_taken user moment w program ++ lines_of user rest
own_lines user moment w (Done value) rest = refl
own_lines user moment w (Take e more) rest =
    let line : LiveLine = record { moment = moment; step = e } in
    let after = line_for user w line in
    either line (lines_taken user moment after.world (more after.written)) (own_lines user moment after.world (more after.written) rest) (is_line_of user line) refl
  where
    either : (line : LiveLine) (later : List LiveLine) → lines_of user (later ++ rest) ≡ later ++ lines_of user rest → (is : Bool) → is_line_of user line ≡ is
        → lines_of user ((if is then line ∷ later else later) ++ rest) ≡ (if is then line ∷ later else later) ++ lines_of user rest
    either line later all true is = rw is (ap (λ l. line ∷ l) all)
    either line later all false is = all

other_lines : {A : Type 0} (user of moment : ℕ) (w : World) (program : Program A) (rest : List LiveLine) → (of == user) ≡ false → lines_of user (lines_taken of moment w program ++ rest) ≡ lines_of user rest
other_lines user of moment w (Done value) rest other = refl
other_lines user of moment w (Take e more) rest other =
    let line : LiveLine = record { moment = moment; step = e } in
    let after = line_for of w line in
    either line (lines_taken of moment after.world (more after.written)) (other_lines user of moment after.world (more after.written) rest other) (is_line_of of line) refl
  where
    either : (line : LiveLine) (later : List LiveLine) → lines_of user (later ++ rest) ≡ lines_of user rest → (is : Bool) → is_line_of of line ≡ is
        → lines_of user ((if is then line ∷ later else later) ++ rest) ≡ lines_of user rest
    either line later all true is = let not : is_line_of user line ≡ false = owned_by_one of user (option_map user_of (actor_of line.step)) is other in rw not all
    either line later all false is = all

-- ---- a row that is there

row_put : {A : Type 0} (rows : List (Option A)) (i : ℕ) (before after : A) → row_at rows i ≡ Some before → row_at (slice_set rows i (Some after)) i ≡ Some after
row_put [] i before after there = absurd (cc)
row_put (row ∷ rows) zero before after there = refl
row_put (row ∷ rows) (suc i) before after there = row_put rows i before after there

-- ---- a desk, and one beside it that is the user's alone

record Beside {State : Type 0} (user : ℕ) (desk alone : Desk State) : Type 0 where
  pub world : alone.world ≡ view user desk.world
  pub row : row_at alone.states user ≡ row_at desk.states user

module _ {State Input Output : Type 0} (front : Front State Input Output) (config : Configuration) where
  -- ---- an input of the user

  record OwnTurn (n : ℕ) (desk alone : Desk State) (arrived : Arrived State Input) (row other : Option State) : Type 0 where
    pub beside : Beside arrived.user (turn_of front desk arrived row).desk (turn_of front alone arrived other).desk
    pub outputs : (turn_of front alone arrived other).outputs ≡ (turn_of front desk arrived row).outputs
    pub lines : turn_lines front alone arrived other ≡ turn_lines front desk arrived row
    pub quiet : Quiet n (turn_of front desk arrived row).desk.world

  own_row : (n : ℕ) (desk alone : Desk State) (arrived : Arrived State Input) (row : Option State) → 1 ≤ n → Quiet n desk.world → Beside arrived.user desk alone → row_at desk.states arrived.user ≡ row → OwnTurn n desk alone arrived row row
  own_row n desk alone arrived None some q b there = record { beside = b; outputs = refl; lines = refl; quiet = q }
  own_row n desk alone arrived (Some state) some q b there =
      let user = arrived.user in
      let program = program_for front arrived state in
      let after = ran user arrived.moment desk.world program in
      let is = program_is user n arrived.moment desk.world program some q in
      let same : ran user arrived.moment alone.world program ≡ record after { world = view user after.world } = ap (λ w. ran user arrived.moment w program) b.world ∙ is.alone in
      record {
        beside = record {
          world = ap (λ (one : Ran (Came State Output)). one.world) same;
          row =
              row_put alone.states user state _ (b.row ∙ there)
              ∙ (ap (λ (one : Ran (Came State Output)). Some one.value.state) same ∙ sym (row_put desk.states user state after.value.state there));
        };
        outputs = ap (λ (one : Ran (Came State Output)). one.value.outputs) same;
        lines = ap (λ w. lines_taken user arrived.moment w program) b.world ∙ same_lines user n arrived.moment desk.world program some q;
        quiet = is.quiet;
      }

  own_turn : (n : ℕ) (desk alone : Desk State) (arrived : Arrived State Input) → 1 ≤ n → Quiet n desk.world → Beside arrived.user desk alone
      → OwnTurn n desk alone arrived (row_at desk.states arrived.user) (row_at alone.states arrived.user)
  own_turn n desk alone arrived some q b =
      let row = row_at desk.states arrived.user in
      subst (OwnTurn n desk alone arrived row) (sym b.row) (own_row n desk alone arrived row some q b refl)

  -- ---- an input of another

  record OtherTurn (n user : ℕ) (desk alone : Desk State) (arrived : Arrived State Input) (row : Option State) : Type 0 where
    pub beside : Beside user (turn_of front desk arrived row).desk alone
    pub quiet : Quiet n (turn_of front desk arrived row).desk.world

  other_turn : (n user : ℕ) (desk alone : Desk State) (arrived : Arrived State Input) (row : Option State) → 1 ≤ n → Quiet n desk.world → Beside user desk alone → (arrived.user == user) ≡ false → OtherTurn n user desk alone arrived row
  other_turn n user desk alone arrived None some q b other = record { beside = b; quiet = q }
  other_turn n user desk alone arrived (Some state) some q b other =
      let program = program_for front arrived state in
      let is = program_is arrived.user n arrived.moment desk.world program some q in
      let differ : user ≢ arrived.user = λ same. false≢true (sym other ∙ eq-eqb arrived.user user (sym same)) in
      record {
        beside = record {
          world = b.world ∙ sym (is.unseen user other);
          row = b.row ∙ sym (row_at-set_other desk.states arrived.user user _ differ);
        };
        quiet = is.quiet;
      }

  -- ---- all inputs

  -- what is told of both desks after the first input is told of them before it
  by_user : (n user : ℕ) (desk alone : Desk State) (arrived : Arrived State Input) (Both : Desk State → Desk State → Type 0) → 1 ≤ n → Quiet n desk.world → Beside user desk alone
      → ((next beside : Desk State) → Quiet n next.world → Beside user next beside → Both next beside)
      → (is : Bool) → (arrived.user == user) ≡ is
      → Both (turn front desk arrived).desk (if is then (turn front alone arrived).desk else alone)
  by_user n user desk alone arrived Both some q b later true own =
      let whose = eqb-true arrived.user user own in
      let t = own_turn n desk alone arrived some q (subst (λ u. Beside u desk alone) (sym whose) b) in
      later (turn front desk arrived).desk (turn front alone arrived).desk t.quiet (subst (λ u. Beside u (turn front desk arrived).desk (turn front alone arrived).desk) whose t.beside)
  by_user n user desk alone arrived Both some q b later false other =
      let t = other_turn n user desk alone arrived (row_at desk.states arrived.user) some q b other in
      later (turn front desk arrived).desk alone t.quiet t.beside

  same_outputs : (n user : ℕ) (desk alone : Desk State) (arrived : Arrived State Input) → 1 ≤ n → Quiet n desk.world → Beside user desk alone → (arrived.user == user) ≡ true
      → ((turn front desk arrived).outputs ≡ (turn front alone arrived).outputs)
      × (turn_lines front desk arrived (row_at desk.states arrived.user) ≡ turn_lines front alone arrived (row_at alone.states arrived.user))
  same_outputs n user desk alone arrived some q b own =
      let t = own_turn n desk alone arrived some q (subst (λ u. Beside u desk alone) (sym (eqb-true arrived.user user own)) b) in
      (sym t.outputs, sym t.lines)

  abbrev AnswersLeft : ℕ → List (Arrived State Input) → Desk State → Desk State → Type 0
  AnswersLeft user inputs desk alone = for_user user (answers_from front desk inputs) ≡ answers_from front alone (inputs_of user inputs)

  answers_left : (n user : ℕ) (inputs : List (Arrived State Input)) (desk alone : Desk State) → 1 ≤ n → Quiet n desk.world → Beside user desk alone → AnswersLeft user inputs desk alone
  answers_left n user [] desk alone some q b = refl
  answers_left n user (arrived ∷ inputs) desk alone some q b =
      first (arrived.user == user) refl (by_user n user desk alone arrived (AnswersLeft user inputs) some q b (λ next beside quiet both. answers_left n user inputs next beside some quiet both) (arrived.user == user) refl)
    where
      first : (is : Bool) → (arrived.user == user) ≡ is → AnswersLeft user inputs (turn front desk arrived).desk (if is then (turn front alone arrived).desk else alone)
          → AnswersLeft user (arrived ∷ inputs) desk alone
      first true own later =
          own_outputs user arrived.user (turn front desk arrived).outputs _ own
          ∙ ((λ i. to_user arrived.user ((same_outputs n user desk alone arrived some q b own).0 i) ++ later i)
          ∙ sym (ap (λ is. answers_from front alone (if is then arrived ∷ inputs_of user inputs else inputs_of user inputs)) own))
      first false other later =
          other_outputs user arrived.user (turn front desk arrived).outputs _ other
          ∙ (later ∙ sym (ap (λ is. answers_from front alone (if is then arrived ∷ inputs_of user inputs else inputs_of user inputs)) other))

  abbrev LinesLeft : ℕ → List (Arrived State Input) → Desk State → Desk State → Type 0
  LinesLeft user inputs desk alone = lines_of user (lines_from front desk inputs) ≡ lines_from front alone (inputs_of user inputs)

  own_turn_lines : (user : ℕ) (desk : Desk State) (arrived : Arrived State Input) (row : Option State) (rest : List LiveLine) → (arrived.user == user) ≡ true
      → lines_of user (turn_lines front desk arrived row ++ rest) ≡ turn_lines front desk arrived row ++ lines_of user rest
  own_turn_lines user desk arrived None rest own = refl
  own_turn_lines user desk arrived (Some state) rest own =
      subst (λ u. lines_of u (turn_lines front desk arrived (Some state) ++ rest) ≡ turn_lines front desk arrived (Some state) ++ lines_of u rest) (eqb-true arrived.user user own)
      (own_lines arrived.user arrived.moment desk.world (program_for front arrived state) rest)

  other_turn_lines : (user : ℕ) (desk : Desk State) (arrived : Arrived State Input) (row : Option State) (rest : List LiveLine) → (arrived.user == user) ≡ false
      → lines_of user (turn_lines front desk arrived row ++ rest) ≡ lines_of user rest
  other_turn_lines user desk arrived None rest other = refl
  other_turn_lines user desk arrived (Some state) rest other = other_lines user arrived.user arrived.moment desk.world (program_for front arrived state) rest other

  lines_left : (n user : ℕ) (inputs : List (Arrived State Input)) (desk alone : Desk State) → 1 ≤ n → Quiet n desk.world → Beside user desk alone → LinesLeft user inputs desk alone
  lines_left n user [] desk alone some q b = refl
  lines_left n user (arrived ∷ inputs) desk alone some q b =
      first (arrived.user == user) refl (by_user n user desk alone arrived (LinesLeft user inputs) some q b (λ next beside quiet both. lines_left n user inputs next beside some quiet both) (arrived.user == user) refl)
    where
      first : (is : Bool) → (arrived.user == user) ≡ is → LinesLeft user inputs (turn front desk arrived).desk (if is then (turn front alone arrived).desk else alone)
          → LinesLeft user (arrived ∷ inputs) desk alone
      first true own later =
          own_turn_lines user desk arrived (row_at desk.states arrived.user) _ own
          ∙ ((λ i. (same_outputs n user desk alone arrived some q b own).1 i ++ later i)
          ∙ sym (ap (λ is. lines_from front alone (if is then arrived ∷ inputs_of user inputs else inputs_of user inputs)) own))
      first false other later =
          other_turn_lines user desk arrived (row_at desk.states arrived.user) _ other
          ∙ (later ∙ sym (ap (λ is. lines_from front alone (if is then arrived ∷ inputs_of user inputs else inputs_of user inputs)) other))

  -- ---- from the start

  beside_opened : (user : ℕ) → Beside user (opened front config) (opened front config)
  beside_opened user = record { world = run_world machine config [] user; row = refl }

  pub answers_alone : (inputs : List (Arrived State Input)) (user : ℕ) → 1 ≤ config.workers → for_user user (answers front config inputs) ≡ answers front config (inputs_of user inputs)
  unfolding answers
  answers_alone inputs user some = answers_left config.workers user inputs (opened front config) (opened front config) some (quiet_boot config) (beside_opened user)

  pub lines_alone : (inputs : List (Arrived State Input)) (user : ℕ) → 1 ≤ config.workers → lines_of user (front_lines front config inputs) ≡ front_lines front config (inputs_of user inputs)
  unfolding front_lines
  lines_alone inputs user some = lines_left config.workers user inputs (opened front config) (opened front config) some (quiet_boot config) (beside_opened user)

-- ---- the world is that of a session

abbrev fresh : World → Session
fresh w = record { world = w; written = [] }

session_world : (session : Session) (lines : List LiveLine) → (after_lines session lines).world ≡ world_after session.world (live_steps session.world lines)
session_world session lines = ap (λ (after : Session). after.world) (session_steps session lines ∙ after_all session (live_steps session.world lines))

-- what was written does not matter
any_session : (session : Session) (lines : List LiveLine) → (after_lines (fresh session.world) lines).world ≡ (after_lines session lines).world
any_session session lines = session_world (fresh session.world) lines ∙ sym (session_world session lines)

after_both_lines : (session : Session) (xs ys : List LiveLine) → after_lines session (xs ++ ys) ≡ after_lines (after_lines session xs) ys
after_both_lines session [] ys = refl
after_both_lines session (line ∷ xs) ys = after_both_lines (after_line session line) xs ys

-- what follows a line, or none
abbrev LaterLines : {A : Type 0} → ℕ → ℕ → World → (List Seen → Program A) → LiveLine → Bool → Type 0
LaterLines user moment w more line is =
    let after : Session = if is then after_line (fresh w) line else fresh w in
    let rest = lines_taken user moment after.world (more after.written) in
    (ran user moment after.world (more after.written)).world ≡ (after_lines (fresh w) (if is then line ∷ rest else rest)).world

later_lines : {A : Type 0} (user moment : ℕ) (w : World) (more : List Seen → Program A) (line : LiveLine) (is : Bool)
    → ((v : World) (seen : List Seen) → (ran user moment v (more seen)).world ≡ (after_lines (fresh v) (lines_taken user moment v (more seen))).world) → LaterLines user moment w more line is
later_lines user moment w more line true later =
    let after = after_line (fresh w) line in
    later after.world after.written ∙ any_session after (lines_taken user moment after.world (more after.written))
later_lines user moment w more line false later = later w []

program_world : {A : Type 0} (user moment : ℕ) (w : World) (program : Program A) → (ran user moment w program).world ≡ (after_lines (fresh w) (lines_taken user moment w program)).world
program_world user moment w (Done value) = refl
program_world user moment w (Take e more) =
    let line : LiveLine = record { moment = moment; step = e } in
    later_lines user moment w more line (is_line_of user line) (λ v seen. program_world user moment v (more seen))

module _ {State Input Output : Type 0} (front : Front State Input Output) (config : Configuration) where
  turn_world : (desk : Desk State) (arrived : Arrived State Input) (row : Option State) → (turn_of front desk arrived row).desk.world ≡ (after_lines (fresh desk.world) (turn_lines front desk arrived row)).world
  turn_world desk arrived None = refl
  turn_world desk arrived (Some state) = program_world arrived.user arrived.moment desk.world (program_for front arrived state)

  desk_world : (desk : Desk State) (inputs : List (Arrived State Input)) → (desk_after front desk inputs).world ≡ (after_lines (fresh desk.world) (lines_from front desk inputs)).world
  desk_world desk [] = refl
  desk_world desk (arrived ∷ inputs) =
      let next = (turn front desk arrived).desk in
      let first = turn_lines front desk arrived (row_at desk.states arrived.user) in
      let rest = lines_from front next inputs in
      desk_world next inputs
      ∙ (ap (λ w. (after_lines (fresh w) rest).world) (turn_world desk arrived (row_at desk.states arrived.user))
      ∙ (any_session (after_lines (fresh desk.world) first) rest ∙ sym (ap (λ (s : Session). s.world) (after_both_lines (fresh desk.world) first rest))))

  pub world_is : (inputs : List (Arrived State Input)) → (desk_after front (opened front config) inputs).world ≡ (after_lines (begun config) (front_lines front config inputs)).world
  unfolding front_lines
  world_is inputs = desk_world (opened front config) inputs
