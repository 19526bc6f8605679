-- A worker's step, by the item that it takes or does.
use Rattle.std.proofs.Common.{◌≡◌, ℕ, List, [], ◌∷◌, Bool, true, false, refl, sym, ap, ◌∙◌}
use Rattle.std.specs.Prelude.{◌==◌, Option, Some, None, Result, Ok, Err, is_none, slice_get}
use Rattle.std.proofs.lemmas.Bool.{false≢true}
use Rattle.qx_types.specs.declared.names.Manager.{Manager}
use Rattle.qx_types.specs.declared.outcome.Outcome.{Outcome}
use Rattle.qx_types.specs.declared.outcome.Outcome.TheVariants.{WrongState, Took, Idle, Busy, Handled, Nothing}
use Rattle.qx_types.specs.declared.step.Step.{Step}
use Rattle.qx_types.specs.declared.step.Step.TheVariants.{Receive, Perform}
use Rattle.qx_isolation.specs.declared.rows.Held.{Held}
use Rattle.qx_isolation.specs.declared.rows.Queued.{Queued}
use Rattle.qx_isolation.specs.Judgements.{◌>>=◌, found, need}
use Rattle.qx_isolation.specs.System.{Behaviour, After, is_owner, is_refusal, is_worker, item_to_do, item_to_take, line_of, or_same_world, own_hand, own_line, performed_part, received_part, server_owner, server_step, shown_item, user_of_item, view, with_empty_hand, with_taken, World}
use Rattle.qx_isolation.specs.Rows.{row_at}
use Rattle.qx_isolation.proofs.Views.{viewed, row_at-hands, line_of-view}

module _ {Part : Type 0} {b : Behaviour Part} where
  -- what the step gives that takes this item, and the one that does it
  abbrev pub after_taking : World b → ℕ → Manager → Held → After b
  after_taking w worker manager taken = record {
    world = received_part (with_taken w worker manager taken) taken (row_at w.parts taken.user.0);
    outcome = Took (shown_item taken.user.0 taken.item);
  }

  abbrev pub after_doing : World b → ℕ → ℕ → Held → After b
  after_doing w worker moment held = record { world = performed_part (with_empty_hand w worker) held moment (row_at w.parts held.user.0); outcome = Handled }

  abbrev pub after_item : World b → Result Held Outcome → (Held → After b) → After b
  after_item w item next = or_same_world w (item >>= λ held. Ok (next held))

-- what a worker takes is the first of the line, and its hand is empty
pub record Takes (hand : Option Held) (line : List Queued) (taken : Held) : Type 0 where
  pub free : hand ≡ None
  pub first : Queued
  pub rest : List Queued
  pub line_is : line ≡ first ∷ rest
  pub taken_is : record { user = first.user; item = first.item } ≡ taken

abbrev judged : Bool → Option Held → List Queued → Result Held Outcome
judged is_one hand line = do
  valid ← need is_one WrongState
  free ← need (is_none hand) Busy
  first ← found (slice_get line 0) Idle
  Ok (record { user = first.user; item = first.item })

judged_takes : (is_one : Bool) (hand : Option Held) (line : List Queued) (taken : Held) → judged is_one hand line ≡ Ok taken → Takes hand line taken
judged_takes false hand line taken is = absurd (cc)
judged_takes true (Some held) line taken is = absurd (cc)
judged_takes true None [] taken is = absurd (cc)
judged_takes true None (first ∷ rest) taken is = record { free = refl; first = first; rest = rest; line_is = refl; taken_is = cc }

module _ {Part : Type 0} {b : Behaviour Part} where
  pub takes : (w : World b) (worker : ℕ) (manager : Manager) (taken : Held) → item_to_take w worker manager ≡ Ok taken → Takes (row_at w.hands worker) (line_of w manager) taken
  takes w worker manager taken is = judged_takes (is_worker w.config worker) (row_at w.hands worker) (line_of w manager) taken is

-- what a worker does is in its hand
abbrev judged_held : Bool → Option Held → Result Held Outcome
judged_held is_one hand = do
  valid ← need is_one WrongState
  found hand Nothing

holds_by : (is_one : Bool) (hand : Option Held) (held : Held) → judged_held is_one hand ≡ Ok held → hand ≡ Some held
holds_by false hand held is = absurd (cc)
holds_by true None held is = absurd (cc)
holds_by true (Some other) held is = cc

module _ {Part : Type 0} {b : Behaviour Part} where
  pub holds : (w : World b) (worker : ℕ) (held : Held) → item_to_do w worker ≡ Ok held → row_at w.hands worker ≡ Some held
  holds w worker held is = holds_by (is_worker w.config worker) (row_at w.hands worker) held is

  -- the first item of a line is taken by a worker whose hand is empty, and what is in a hand is done

  pub item_taken : (w : World b) (worker : ℕ) (manager : Manager) (first : Queued) (rest : List Queued) → is_worker w.config worker ≡ true → row_at w.hands worker ≡ None → line_of w manager ≡ first ∷ rest
      → item_to_take w worker manager ≡ Ok (record { user = first.user; item = first.item })
  item_taken w worker manager first rest valid free is = λ i. judged (valid i) (free i) (is i)

  pub item_done : (w : World b) (worker : ℕ) (held : Held) → is_worker w.config worker ≡ true → row_at w.hands worker ≡ Some held → item_to_do w worker ≡ Ok held
  item_done w worker held valid full = λ i. judged_held (valid i) (full i)

-- an item of the user is taken or done in the user's view too

judged_own : (user : ℕ) (is_one : Bool) (hand : Option Held) (line : List Queued) → is_owner user (user_of_item (judged is_one hand line)) ≡ true
    → judged is_one (own_hand user hand) (own_line user line) ≡ judged is_one hand line
judged_own user false hand line own = refl
judged_own user true (Some held) line own = absurd (false≢true own)
judged_own user true None [] own = refl
judged_own user true None (first ∷ line) own = rw own refl

module _ {Part : Type 0} {b : Behaviour Part} where
  pub item_to_take_own : (w : World b) (user worker : ℕ) (manager : Manager) → is_owner user (user_of_item (item_to_take w worker manager)) ≡ true → item_to_take (view user w) worker manager ≡ item_to_take w worker manager
  unfolding view
  item_to_take_own w user worker manager own =
      (λ i. judged (is_worker w.config worker) (row_at-hands user w worker i) (line_of-view user w manager i))
      ∙ judged_own user (is_worker w.config worker) (row_at w.hands worker) (line_of w manager) own

judged_held_own : (user : ℕ) (is_one : Bool) (hand : Option Held) → is_owner user (user_of_item (judged_held is_one hand)) ≡ true → judged_held is_one (own_hand user hand) ≡ judged_held is_one hand
judged_held_own user false hand own = refl
judged_held_own user true None own = refl
judged_held_own user true (Some held) own = rw own refl

module _ {Part : Type 0} {b : Behaviour Part} where
  pub item_to_do_own : (w : World b) (user worker : ℕ) → is_owner user (user_of_item (item_to_do w worker)) ≡ true → item_to_do (view user w) worker ≡ item_to_do w worker
  unfolding view
  item_to_do_own w user worker own = ap (judged_held (is_worker w.config worker)) (row_at-hands user w worker) ∙ judged_held_own user (is_worker w.config worker) (row_at w.hands worker) own

  -- what is done with an item of the user is done in the user's view; with that of another it is not seen there

  pub item_own : (w : World b) (user : ℕ) (item : Result Held Outcome) (next next_viewed : Held → After b) → is_owner user (user_of_item item) ≡ true
      → ((held : Held) → item ≡ Ok held → (held.user.0 == user) ≡ true → next_viewed held ≡ viewed user (next held)) → after_item (view user w) item next_viewed ≡ viewed user (after_item w item next)
  item_own w user (Ok held) next next_viewed own same = same held refl own
  item_own w user (Err outcome) next next_viewed own same = absurd (false≢true own)

  pub item_other : (w : World b) (user : ℕ) (item : Result Held Outcome) (next : Held → After b) → is_owner user (user_of_item item) ≡ false
      → ((held : Held) → item ≡ Ok held → (held.user.0 == user) ≡ false → view user (next held).world ≡ view user w) → view user (after_item w item next).world ≡ view user w
  item_other w user (Ok held) next differ unseen = unseen held refl differ
  item_other w user (Err outcome) next differ unseen = refl

  -- what holds of the world, and of what its item makes of it, holds after the step
  after_item_both : (w : World b) (item : Result Held Outcome) (next : Held → After b) (P : World b → Type 0) → P w → ((held : Held) → item ≡ Ok held → P (next held).world) → P (after_item w item next).world
  after_item_both w (Ok held) next P same given = given held refl
  after_item_both w (Err outcome) next P same given = same

  pub server_leaves : (w : World b) (e : Step) (P : World b → Type 0) → P w
      → ((worker : ℕ) (manager : Manager) (taken : Held) → item_to_take w worker manager ≡ Ok taken → P (after_taking w worker manager taken).world)
      → ((worker moment : ℕ) (held : Held) → item_to_do w worker ≡ Ok held → P (after_doing w worker moment held).world)
      → P (server_step w e).world
  server_leaves w (Receive worker manager) P same takes does = after_item_both w (item_to_take w worker.0 manager) (after_taking w worker.0 manager) P same (takes worker.0 manager)
  server_leaves w (Perform worker moment) P same takes does = after_item_both w (item_to_do w worker.0) (after_doing w worker.0 moment) P same (does worker.0 moment)
  server_leaves w _ P same takes does = same

  -- a step that has no item changes nothing

  idle_item : (w : World b) (item : Result Held Outcome) (next : Held → After b) → user_of_item item ≡ None → (after_item w item next).world ≡ w
  idle_item w (Ok held) next none = absurd (cc)
  idle_item w (Err outcome) next none = refl

  pub server_idle : (w : World b) (e : Step) → server_owner w e ≡ None → (server_step w e).world ≡ w
  server_idle w (Receive worker manager) none = idle_item w (item_to_take w worker.0 manager) (after_taking w worker.0 manager) none
  server_idle w (Perform worker moment) none = idle_item w (item_to_do w worker.0) (after_doing w worker.0 moment) none
  server_idle w _ none = refl

  refused_item : (w : World b) (item : Result Held Outcome) (next : Held → After b) → ((held : Held) → is_refusal (next held).outcome ≡ false) → is_refusal (after_item w item next).outcome ≡ true → (after_item w item next).world ≡ w
  refused_item w (Ok held) next done refused = absurd (false≢true (sym (done held) ∙ refused))
  refused_item w (Err outcome) next done refused = refl

  pub server_same : (w : World b) (e : Step) → is_refusal (server_step w e).outcome ≡ true → (server_step w e).world ≡ w
  server_same w (Receive worker manager) refused = refused_item w (item_to_take w worker.0 manager) (after_taking w worker.0 manager) (λ taken. refl) refused
  server_same w (Perform worker moment) refused = refused_item w (item_to_do w worker.0) (after_doing w worker.0 moment) (λ held. refl) refused
  server_same w _ refused = refl
