-- What a worker's performing does to the view of the item's user, and to the views of others.
use Rattle.std.proofs.Common.{◌≡◌, ℕ, true, false, refl, sym, ap, subst, ◌∙◌}
use Rattle.std.specs.Prelude.{◌==◌, Option, Some, None, Ok, map, slice_set}
use Rattle.std.proofs.lemmas.Bool.{eqb-true}
use Rattle.qx_types.specs.declared.outcome.Outcome.TheVariants.{Handled}
use Rattle.qx_isolation.specs.declared.rows.Held.{Held}
use Rattle.qx_isolation.specs.System.{Behaviour, boot, item_to_do, own_held, own_line, performed_part, serve_end, view, with_empty_hand, World}
use Rattle.qx_isolation.specs.Rows.{row_at}
use Rattle.qx_isolation.proofs.Changes.{own_held-view, own_hand-emptied, own_hand-emptied_other}
use Rattle.qx_isolation.proofs.Views.{IsReached, viewed, row_at-view, acted_self, acted_other, reached_acted}
use Rattle.qx_isolation.proofs.Workers.{after_doing, holds}

module _ {Part : Type 0} {b : Behaviour Part} where
  emptied_own : (w : World b) (user worker : ℕ) → view user (with_empty_hand w worker) ≡ with_empty_hand (view user w) worker
  unfolding view
  emptied_own w user worker = λ i. record {
    config = w.config;
    parts = slice_set (boot b w.config).parts user (row_at w.parts user);
    lines = map (own_line user) w.lines;
    hands = own_hand-emptied user worker w.hands i;
  }

  emptied_other : (w : World b) (user worker : ℕ) (held : Held) → row_at w.hands worker ≡ Some held → (held.user.0 == user) ≡ false → view user (with_empty_hand w worker) ≡ view user w
  unfolding view
  emptied_other w user worker held holds differ = λ i. record {
    config = w.config;
    parts = slice_set (boot b w.config).parts user (row_at w.parts user);
    lines = map (own_line user) w.lines;
    hands = own_hand-emptied_other user worker held w.hands holds differ i;
  }

  reached_emptied : (w : World b) (worker : ℕ) → IsReached w → IsReached (with_empty_hand w worker)
  reached_emptied w worker h = record { lines = h.lines; parts = h.parts }

  served_self : (w : World b) (held : Held) (moment : ℕ) (row : Option Part) → IsReached w → performed_part (view held.user.0 w) held moment row ≡ view held.user.0 (performed_part w held moment row)
  unfolding view
  served_self w held moment None h = refl
  served_self w held moment (Some part) h =
      let given = b.serve w.config held.user.0 (own_held held.user.0 w.hands) part held.item moment in
      ap (λ items. serve_end (view held.user.0 w) held.user.0 part (b.serve w.config held.user.0 items part held.item moment)) (own_held-view held.user.0 w.hands)
      ∙ sym (acted_self held.user.0 part given.part given.changes w h)

  served_own : (w : World b) (user : ℕ) (held : Held) (moment : ℕ) (row : Option Part) → IsReached w → held.user.0 ≡ user → performed_part (view user w) held moment row ≡ view user (performed_part w held moment row)
  served_own w user held moment row h same = subst (λ n. performed_part (view n w) held moment row ≡ view n (performed_part w held moment row)) same (served_self w held moment row h)

  served_other : (w : World b) (user : ℕ) (held : Held) (moment : ℕ) (row : Option Part) → (held.user.0 == user) ≡ false → view user (performed_part w held moment row) ≡ view user w
  served_other w user held moment None differ = refl
  served_other w user held moment (Some part) differ =
      let given = b.serve w.config held.user.0 (own_held held.user.0 w.hands) part held.item moment in
      acted_other user held.user.0 part given.part given.changes w differ

  reached_served : (w : World b) (held : Held) (moment : ℕ) (row : Option Part) → IsReached w → IsReached (performed_part w held moment row)
  reached_served w held moment None h = h
  reached_served w held moment (Some part) h =
      let given = b.serve w.config held.user.0 (own_held held.user.0 w.hands) part held.item moment in
      reached_acted held.user.0 part given.part given.changes w h

  pub perform_own : (w : World b) (user worker moment : ℕ) (held : Held) → IsReached w → (held.user.0 == user) ≡ true → after_doing (view user w) worker moment held ≡ viewed user (after_doing w worker moment held)
  perform_own w user worker moment held h own =
      let same : held.user.0 ≡ user = eqb-true held.user.0 user own in
      let emptied = emptied_own w user worker in
      let row = row_at-view user held.user.0 w h same in
      ap (λ world. record { world = world; outcome = Handled })
      ((λ i. performed_part (sym emptied i) held moment (row i))
      ∙ served_own (with_empty_hand w worker) user held moment (row_at w.parts held.user.0) (reached_emptied w worker h) same)

  pub perform_other : (w : World b) (user worker moment : ℕ) (held : Held) → item_to_do w worker ≡ Ok held → (held.user.0 == user) ≡ false → view user (after_doing w worker moment held).world ≡ view user w
  perform_other w user worker moment held is differ =
      served_other (with_empty_hand w worker) user held moment (row_at w.parts held.user.0) differ ∙ emptied_other w user worker held (holds w worker held is) differ

  pub reached_perform : (w : World b) (worker moment : ℕ) (held : Held) → IsReached w → IsReached (after_doing w worker moment held).world
  reached_perform w worker moment held h = reached_served (with_empty_hand w worker) held moment (row_at w.parts held.user.0) (reached_emptied w worker h)
