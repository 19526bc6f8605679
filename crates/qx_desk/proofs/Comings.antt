-- One program after another, and steps that lead on.
use Rattle.std.proofs.Common.{◌≡◌, ℕ, List, [], ◌∷◌, ◌++◌, refl, ap, ◌∙◌}
use Rattle.qx_types.specs.declared.step.Step.{Step}
use Rattle.qx_machine.specs.Machine.{World}
use Rattle.qx_live.specs.declared.line.LiveLine.{LiveLine}
use Rattle.qx_desk.specs.Desks.{Comes, Leads, after_each}
use Rattle.qx_desk.specs.Programs.{Program, Done, Take, Ran, ◌>>=◌, line_for, ran}
use Rattle.qx_desk.specs.declared.taking.By.{By}

ran_then : {A B : Type 0} (user moment : ℕ) (w : World) (program : Program A) (next : A → Program B)
    → ran user moment w (program >>= next) ≡ ran user moment (ran user moment w program).world (next (ran user moment w program).value)
ran_then user moment w (Done value) next = refl
ran_then user moment w (Take e more) next =
    let line : LiveLine = record { moment = moment; step = e } in
    let after = line_for user w line in
    ran_then user moment after.world (more after.written) next

-- one comes to a value, and the next, which is chosen by it, to another
pub comes_then : {A B : Type 0} (by : By) (w between after : World) (program : Program A) (value : A) (next : A → Program B) (last : B)
    → Comes by w program between value → Comes by between (next value) after last → Comes by w (program >>= next) after last
comes_then by w between after program value next last first second =
    ran_then by.user.0 by.moment w program next ∙ (ap (λ (r : Ran _). ran by.user.0 by.moment r.world (next r.value)) first ∙ second)

-- one comes to a value, of which the end is made
pub comes_end : {A B : Type 0} (by : By) (w after : World) (program : Program A) (value : A) (next : A → Program B) (last : B)
    → Comes by w program after value → next value ≡ Done last → Comes by w (program >>= next) after last
comes_end by w after program value next last first end = comes_then by w after after program value next last first (ap (ran by.user.0 by.moment after) end)

-- ---- steps that lead on

each_after : (by : By) (w : World) (steps : List Step) (e : Step) → after_each by w (steps ++ e ∷ []) ≡ (line_for by.user.0 (after_each by w steps) (record { moment = by.moment; step = e })).world
each_after by w [] e = refl
each_after by w (first ∷ steps) e = each_after by (line_for by.user.0 w (record { moment = by.moment; step = first })).world steps e

-- no step
pub leads_nowhere : (by : By) (w : World) → Leads by w w
leads_nowhere by w = record { steps = []; after_them = refl }

-- one more step
pub leads_on : (by : By) (start w after : World) (e : Step) → (line_for by.user.0 w (record { moment = by.moment; step = e })).world ≡ after → Leads by start w → Leads by start after
leads_on by start w after e is leads = record {
  steps = leads.steps ++ e ∷ [];
  after_them = each_after by start leads.steps e ∙ (ap (λ v. (line_for by.user.0 v (record { moment = by.moment; step = e })).world) leads.after_them ∙ is);
}
