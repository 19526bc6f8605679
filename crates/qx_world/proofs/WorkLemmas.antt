-- What a worker does at a seat of any server, one step after another.
use Rattle.std.proofs.Common.{◌≡◌, ◌∷◌, ◌++◌, [], List, ℕ, true, inl, inr, refl, subst}
use Rattle.std.specs.Prelude.{◌==◌, Result, Ok, Err, IfOk, OnErr}
use Rattle.std.proofs.lemmas.Bool.{eq-eqb}
use Rattle.qx_types.specs.declared.outcome.Outcome.{Outcome}
use Rattle.qx_types.specs.declared.step.Step.{Step}
use Rattle.qx_world.specs.Seats.{Works, WorksBy, is_of_worker}

pub own : (worker : ℕ) → (worker == worker) ≡ true
own worker = eq-eqb worker worker refl

module _ {Seat : Type 0} (adds : Seat → Seat → Step → Outcome → Type 0) (keeps : Seat → Seat → Type 0) where
  -- a step that was taken, or was not
  pub works_on : {E : Type 0} (worker : ℕ) (old new : Seat) (e : Step) (result : Result Outcome E) → is_of_worker worker e ≡ true → IfOk result (λ outcome. adds old new e outcome)
      → OnErr result (keeps old new) → Works adds keeps worker old new
  works_on worker old new e (Ok outcome) own added kept = (new ∷ [], (inr (e, outcome, own, added), refl))
  works_on worker old new e (Err error) own added kept = (new ∷ [], (inl kept, refl))

  works_by : (worker : ℕ) (old between new : Seat) (seats more : List Seat) → WorksBy adds keeps worker old seats between → WorksBy adds keeps worker between more new → WorksBy adds keeps worker old (seats ++ more) new
  works_by worker old between new [] more here then = subst (λ seat. WorksBy adds keeps worker seat more new) here then
  works_by worker old between new (seat ∷ seats) more by then = (by.0, works_by worker seat between new seats more by.1 then)

  -- some, and then others
  pub works_more : (worker : ℕ) (old between new : Seat) → Works adds keeps worker old between → Works adds keeps worker between new → Works adds keeps worker old new
  works_more worker old between new first others = (first.0 ++ others.0, works_by worker old between new first.0 others.0 first.1 others.1)
