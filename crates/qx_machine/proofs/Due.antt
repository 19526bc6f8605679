-- After a step no event is armed whose condition came to hold in it.
use Rattle.std.proofs.Common.{◌≡◌, inl, inr, ℕ, List, [], ◌∷◌, refl, sym, ap, ◌∙◌, subst}
use Rattle.std.specs.Prelude.{Option, Some, None, filter}
use Rattle.std.proofs.lemmas.Bool.{cases_eq}
use Rattle.std.proofs.lemmas.Option.{same_Some}
use Rattle.qx_types.specs.Step.{actor_of, user_of}
use Rattle.qx_types.specs.declared.names.Actor.{Actor}
use Rattle.qx_types.specs.declared.step.Step.{Step}
use Rattle.qx_isolation.specs.declared.rows.Held.{Held}
use Rattle.qx_isolation.specs.declared.rows.OwnItem.{OwnItem}
use Rattle.qx_machine.specs.declared.rows.Conditions.{Conditions}
use Rattle.qx_machine.specs.declared.rows.Event.{Event}
use Rattle.qx_machine.specs.Events.{is_due}
use Rattle.qx_machine.specs.Laws.{due_since}
use Rattle.qx_machine.specs.Machine.{World, client_step, own_held, performed_part, received_part, step, step_end, step_of, with_empty_hand, with_taken}
use Rattle.qx_machine.specs.Notification.{block_conditions}
use Rattle.qx_machine.specs.Parts.{Change, Part}
use Rattle.qx_isolation.specs.Rows.{row_at}
use Rattle.qx_machine.specs.Users.{client, serve, settle_part, take}
use Rattle.qx_machine.proofs.EventFacts.{not-due}
use Rattle.qx_machine.proofs.NotifyLemmas.{none-left, same-conditions}
use Rattle.qx_machine.proofs.Settled.{row_at-set_same}
use Rattle.qx_isolation.proofs.Places.{row_at-set_other}
use Rattle.qx_isolation.proofs.Workers.{server_leaves}

-- ---- one user's rows

-- rows that did not change have none
same_due : (part : Part) → due_since part part ≡ []
same_due part = none part.resources.events.armed
  where
    holding : ℕ → Conditions
    holding = block_conditions part.resources

    none : (events : List Event) → filter (is_due holding holding) events ≡ []
    none [] = refl
    none (event ∷ events) = rw (not-due holding holding event refl) (none events)

-- nor have those that were settled
settled_due : (before : Part) (held : List OwnItem) (after : Part) → due_since before (settle_part before held after) ≡ []
unfolding settle_part
settled_due before held after =
    let same : block_conditions after.resources ≡ block_conditions (settle_part before held after).resources = λ i number. same-conditions after.resources (settle_part before held after).resources refl refl number i in
    subst (λ holding. filter (is_due (block_conditions before.resources) holding) (settle_part before held after).resources.events.armed ≡ []) same
    (none-left (is_due (block_conditions before.resources) (block_conditions after.resources)) after.resources.events.armed)

-- ---- one step

-- no user has any there since the rows were those
abbrev NoneDue : List (Option Part) → World → Type 0
NoneDue parts now = (user : ℕ) (before after : Part) → row_at parts user ≡ Some before → row_at now.parts user ≡ Some after → due_since before after ≡ []

due_same : (w : World) → NoneDue w.parts w
due_same w user before after was is = subst (λ part. due_since before part ≡ []) (same_Some _ _ (sym was ∙ is)) (same_due before)

due_end : (user : ℕ) (before after : Part) (changes : List Change) (w : World) → row_at w.parts user ≡ Some before → NoneDue w.parts (step_end user before after changes w)
due_end user before after changes w here other first last was is = elim (cases_eq other user) [
  | inl same ↦
      let rows : List (Option Part) = (step_end user before after changes w).parts in
      let put : settle_part before (own_held user w.hands) after ≡ last = same_Some _ _ (row_at-set_same w.parts user _ last (ap (row_at rows) (sym same) ∙ is)) in
      let its : before ≡ first = same_Some _ _ (sym here ∙ (ap (row_at w.parts) (sym same) ∙ was)) in
      subst (λ part. due_since part last ≡ []) its (subst (λ part. due_since before part ≡ []) put (settled_due before (own_held user w.hands) after))
  | inr apart ↦ subst (λ part. due_since first part ≡ []) (same_Some _ _ (sym was ∙ (sym (row_at-set_other w.parts user other _ apart) ∙ is))) (same_due first)
]

due_client : (w : World) (user : ℕ) (e : Step) (row : Option Part) → row_at w.parts user ≡ row → NoneDue w.parts (client_step w user e row).world
due_client w user e None here = due_same w
due_client w user e (Some part) here = let given = client w.config user (own_held user w.hands) part e in due_end user part given.part given.changes w here

due_received : (w : World) (taken : Held) (row : Option Part) → row_at w.parts taken.user.0 ≡ row → NoneDue w.parts (received_part w taken row)
due_received w taken None here = due_same w
due_received w taken (Some part) here = due_end taken.user.0 part (take part taken.item) [] w here

due_performed : (w : World) (held : Held) (moment : ℕ) (row : Option Part) → row_at w.parts held.user.0 ≡ row → NoneDue w.parts (performed_part w held moment row)
due_performed w held moment None here = due_same w
due_performed w held moment (Some part) here =
    let given = serve w.config held.user.0 (own_held held.user.0 w.hands) part held.item moment in
    due_end held.user.0 part given.part given.changes w here

due_of : (w : World) (e : Step) (by : Option Actor) → NoneDue w.parts (step_of w e by).world
due_of w e None = server_leaves w e (NoneDue w.parts) (due_same w)
    (λ worker manager taken is. due_received (with_taken w worker manager taken) taken (row_at w.parts taken.user.0) refl)
    (λ worker moment held is. due_performed (with_empty_hand w worker) held moment (row_at w.parts held.user.0) refl)
due_of w e (Some actor) = due_client w (user_of actor) e (row_at w.parts (user_of actor)) refl

pub none_due : (w : World) (e : Step) → NoneDue w.parts (step w e).world
unfolding step
none_due w e = due_of w e (actor_of e)
