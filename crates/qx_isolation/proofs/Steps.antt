-- What one step does to the view of its own user, and to the views of others.
use Rattle.std.proofs.Common.{◌≡◌, ℕ, [], true, false, refl, ap, ◌∙◌}
use Rattle.std.specs.Prelude.{Option, Some, None}
use Rattle.std.proofs.lemmas.Bool.{eqb-true}
use Rattle.qx_types.specs.declared.names.Actor.{Actor}
use Rattle.qx_types.specs.declared.step.Step.{Step}
use Rattle.qx_types.specs.declared.step.Step.TheVariants.{Receive, Perform}
use Rattle.qx_isolation.specs.System.{Behaviour, is_owner, item_to_do, item_to_take, owner, owner_of, seen_by, server_owner, server_step, step, step_of, user_of_item, view, World}
use Rattle.qx_types.specs.Step.{actor_of, user_of}
use Rattle.qx_isolation.specs.Rows.{row_at}
use Rattle.qx_isolation.proofs.Views.{IsReached, viewed, reached_client, client_own, client_other}
use Rattle.qx_isolation.proofs.Receives.{receive_own, receive_other, reached_receive}
use Rattle.qx_isolation.proofs.Performs.{perform_own, perform_other, reached_perform}
use Rattle.qx_isolation.proofs.Workers.{after_doing, after_item, after_taking, item_other, item_own, item_to_do_own, item_to_take_own, server_idle, server_leaves}
use Rattle.qx_types.specs.declared.outcome.Outcome.{Outcome}

module _ {Part : Type 0} {b : Behaviour Part} where
  reached_server : (w : World b) (e : Step) → IsReached w → IsReached (server_step w e).world
  reached_server w e h = server_leaves w e IsReached h (λ worker manager taken is. reached_receive w worker manager taken h) (λ worker moment held is. reached_perform w worker moment held h)

  reached_of : (w : World b) (e : Step) (by : Option Actor) → IsReached w → IsReached (step_of w e by).world
  reached_of w e None h = reached_server w e h
  reached_of w e (Some actor) h = reached_client w (user_of actor) e (row_at w.parts (user_of actor)) h

  pub reached_step : (w : World b) (e : Step) → IsReached w → IsReached (step w e).world
  unfolding step
  reached_step w e h = reached_of w e (actor_of e) h

  server_own : (w : World b) (user : ℕ) (e : Step) → IsReached w → is_owner user (server_owner w e) ≡ true → server_step (view user w) e ≡ viewed user (server_step w e)
  server_own w user (Receive worker manager) h own =
      ap (λ item. after_item (view user w) item (after_taking (view user w) worker.0 manager)) (item_to_take_own w user worker.0 manager own)
      ∙ item_own w user (item_to_take w worker.0 manager) _ _ own (λ taken is its. receive_own w user worker.0 manager taken h is its)
  server_own w user (Perform worker moment) h own =
      ap (λ item. after_item (view user w) item (after_doing (view user w) worker.0 moment)) (item_to_do_own w user worker.0 own)
      ∙ item_own w user (item_to_do w worker.0) _ _ own (λ held is its. perform_own w user worker.0 moment held h its)
  server_own w user _ h own = refl

  step_of_own : (w : World b) (user : ℕ) (e : Step) (by : Option Actor) → IsReached w → is_owner user (owner_of w e by) ≡ true → step_of (view user w) e by ≡ viewed user (step_of w e by)
  step_of_own w user e None h own = server_own w user e h own
  step_of_own w user e (Some actor) h own = client_own w user (user_of actor) e h (eqb-true (user_of actor) user own)

  -- a step of the user goes in the user's view as in the whole world
  pub step_own : (w : World b) (user : ℕ) (e : Step) → IsReached w → is_owner user (owner w e) ≡ true → step (view user w) e ≡ viewed user (step w e)
  unfolding step owner
  step_own w user e h own = step_of_own w user e (actor_of e) h own

  server_other : (w : World b) (user : ℕ) (e : Step) → is_owner user (server_owner w e) ≡ false → view user (server_step w e).world ≡ view user w
  server_other w user (Receive worker manager) differ = item_other w user (item_to_take w worker.0 manager) _ differ (λ taken is its. receive_other w user worker.0 manager taken is its)
  server_other w user (Perform worker moment) differ = item_other w user (item_to_do w worker.0) _ differ (λ held is its. perform_other w user worker.0 moment held is its)
  server_other w user _ differ = refl

  step_of_other : (w : World b) (user : ℕ) (e : Step) (by : Option Actor) → is_owner user (owner_of w e by) ≡ false → view user (step_of w e by).world ≡ view user w
  step_of_other w user e None differ = server_other w user e differ
  step_of_other w user e (Some actor) differ = client_other w user (user_of actor) e (row_at w.parts (user_of actor)) differ

  -- a step of another user, or of nobody, is not seen in the user's view
  pub step_other : (w : World b) (user : ℕ) (e : Step) → is_owner user (owner w e) ≡ false → view user (step w e).world ≡ view user w
  unfolding step owner
  step_other w user e differ = step_of_other w user e (actor_of e) differ

  server_owner_own : (w : World b) (user : ℕ) (e : Step) → is_owner user (server_owner w e) ≡ true → server_owner (view user w) e ≡ server_owner w e
  server_owner_own w user (Receive worker manager) own = ap user_of_item (item_to_take_own w user worker.0 manager own)
  server_owner_own w user (Perform worker moment) own = ap user_of_item (item_to_do_own w user worker.0 own)
  server_owner_own w user _ own = refl

  owner_of_own : (w : World b) (user : ℕ) (e : Step) (by : Option Actor) → is_owner user (owner_of w e by) ≡ true → owner_of (view user w) e by ≡ owner_of w e by
  owner_of_own w user e None own = server_owner_own w user e own
  owner_of_own w user e (Some actor) own = refl

  -- a step of the user is the user's in the user's view too
  pub owner_own : (w : World b) (user : ℕ) (e : Step) → is_owner user (owner w e) ≡ true → owner (view user w) e ≡ owner w e
  unfolding owner
  owner_own w user e own = owner_of_own w user e (actor_of e) own

  seen_of_other : (w : World b) (user : ℕ) (e : Step) (outcome : Outcome) (by : Option Actor) → is_owner user (owner_of w e by) ≡ false → seen_by user outcome by ≡ []
  seen_of_other w user e outcome None differ = refl
  seen_of_other w user e outcome (Some actor) differ = rw differ refl

  -- of a step that is not the user's, the user's processes receive nothing
  pub seen_other : (w : World b) (user : ℕ) (e : Step) (outcome : Outcome) → is_owner user (owner w e) ≡ false → seen_by user outcome (actor_of e) ≡ []
  unfolding owner
  seen_other w user e outcome differ = seen_of_other w user e outcome (actor_of e) differ

  step_of_idle : (w : World b) (e : Step) (by : Option Actor) → owner_of w e by ≡ None → (step_of w e by).world ≡ w
  step_of_idle w e None none = server_idle w e none
  step_of_idle w e (Some actor) none = absurd (cc)

  -- a step of nobody changes nothing
  pub step_idle : (w : World b) (e : Step) → owner w e ≡ None → (step w e).world ≡ w
  unfolding step owner
  step_idle w e none = step_of_idle w e (actor_of e) none
