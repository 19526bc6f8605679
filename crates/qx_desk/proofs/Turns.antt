-- What a desk in code comes to at an input.
use Rattle.std.proofs.Common.{◌≡◌, ℕ, zero, suc, ◌<◌, List, [], ◌∷◌, length, get_or, refl, sym, ap, subst, ◌∙◌, arith}
use Rattle.std.specs.Prelude.{Option, Some, None, map, slice_set}
use Rattle.std.proofs.lemmas.List.{map-set}
use Rattle.qx_types.specs.declared.step.Step.{Step}
use Rattle.qx_isolation.specs.Rows.{row_at}
use Rattle.qx_machine.specs.Machine.{World}
use Rattle.qx_desk.specs.Desks.{Comes, Leads, RanShort, after_each, arrived, rows_of}
use Rattle.qx_desk.specs.Fronts.{Came, Desk, Front, Left, Turn, program_for, turn, turn_of}
use Rattle.qx_desk.specs.Programs.{Ran, each_taken, line_for}
use Rattle.qx_desk.specs.declared.taking.By.{By}
use Rattle.qx_desk.proofs.Comings.{leads_nowhere}

row_there : {A : Type 0} (own : List A) (i : ℕ) (one : A) → i < length own → one ≡ get_or own i one → row_at (map Some own) i ≡ Some one
row_there [] i one more is = absurd (omega arith)
row_there (first ∷ own) zero one more is = ap Some (sym is)
row_there (first ∷ own) (suc i) one more is = row_there own i one (omega arith) is

-- steps that are taken whatever is written lead where each of them leads
all_ran : {A : Type 0} (by : By) (w : World) (steps : List Step) (value : A) → Comes by w (each_taken steps value) (after_each by w steps) value
all_ran by w [] value = refl
all_ran by w (e ∷ steps) value = all_ran by (line_for by.user.0 w (record { moment = by.moment; step = e })).world steps value

module _ {State Input Output : Type 0} where
  -- an input whose program comes to a value
  pub turned : (front : Front State Input Output) (w after : World) (own : List State) (by : By) (i : ℕ) (input : Input) (short : Option (Left State)) (state next : State) (outputs : List Output)
      → by.user.0 ≡ suc i → i < length own → state ≡ get_or own i state → Comes by w (program_for front (arrived by input short) state) after (record { state = next; outputs = outputs })
      → turn front (record { world = w; states = rows_of own }) (arrived by input short) ≡ record { desk = record { world = after; states = rows_of (slice_set own i next) }; outputs = outputs }
  turned front w after own by i input short state next outputs is more there comes =
      let desk : Desk State = record { world = w; states = rows_of own } in
      let user = by.user.0 in
      let row : row_at (rows_of own) user ≡ Some state = ap (row_at (rows_of own)) is ∙ row_there own i state more there in
      let put : slice_set (rows_of own) user (Some next) ≡ rows_of (slice_set own i next) =
      ap (λ u. slice_set (rows_of own) u (Some next)) is ∙ ap (λ l. None ∷ l) (sym (map-set Some own i next)) in
      let turn_is : Ran (Came State Output) → Turn State Output =
      λ r. record { desk = record { world = r.world; states = slice_set (rows_of own) user (Some r.value.state) }; outputs = r.value.outputs } in
      let with_rows : List (Option State) → Turn State Output = λ rows. record { desk = record { world = after; states = rows }; outputs = outputs } in
      ap (turn_of front desk (arrived by input short)) row ∙ (ap turn_is comes ∙ ap with_rows put)

  -- an input for which memory ran short
  pub turned_short : (front : Front State Input Output) (w after : World) (own : List State) (by : By) (i : ℕ) (input : Input) (state next : State)
      → by.user.0 ≡ suc i → i < length own → state ≡ get_or own i state → Leads by w after
      → RanShort front (record { world = w; states = rows_of own }) by input (record { world = after; states = rows_of (slice_set own i next) })
  turned_short front w after own by i input state next is more there leads =
      let left : Left State = record { steps = leads.steps; state = next } in
      let came : Came State Output = record { state = next; outputs = [] } in (
        left,
        turned front w after own by i input (Some left) state next [] is more there
            (all_ran by w leads.steps came ∙ ap (λ v. record { world = v; value = came }) leads.after_them),
      )

  -- ---- what a front did, at what the desk had made up before

  pub turned_at : (front : Front State Input Output) (w after : World) (own : List State) (by : By) (i : ℕ) (input : Input) (state next : State) (outputs : List Output) (at : By) (from : World)
      → by.user.0 ≡ suc i → i < length own → state ≡ get_or own i state → at ≡ by → from ≡ w
      → Comes at from (front.on at.user.0 state input) after (record { state = next; outputs = outputs })
      → turn front (record { world = w; states = rows_of own }) (arrived by input None) ≡ record { desk = record { world = after; states = rows_of (slice_set own i next) }; outputs = outputs }
  turned_at front w after own by i input state next outputs at from is more there same_by same_world comes =
      let came : Came State Output = record { state = next; outputs = outputs } in
      let here : Comes at w (front.on at.user.0 state input) after came = subst (λ v. Comes at v (front.on at.user.0 state input) after came) same_world comes in
      turned front w after own by i input None state next outputs is more there (subst (λ b. Comes b w (front.on b.user.0 state input) after came) same_by here)

  pub short_at : (front : Front State Input Output) (w after : World) (own : List State) (by : By) (i : ℕ) (input : Input) (state next : State) (at : By) (from : World)
      → by.user.0 ≡ suc i → i < length own → state ≡ get_or own i state → at ≡ by → from ≡ w → ((start : World) → Leads at start from → Leads at start after)
      → RanShort front (record { world = w; states = rows_of own }) by input (record { world = after; states = rows_of (slice_set own i next) })
  short_at front w after own by i input state next at from is more there same_by same_world leads =
      let here : Leads at w after = leads w (subst (Leads at w) (sym same_world) (leads_nowhere at w)) in
      turned_short front w after own by i input state next is more there (subst (λ b. Leads b w after) same_by here)
