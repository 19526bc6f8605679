-- What the end of a step, and a client's step, do to the view of their own user and to the views of others.
use Rattle.std.proofs.Common.{◌≡◌, ◌≢◌, ℕ, List, [], length, false, refl, sym, ap, subst, ◌∙◌, length-set}
use Rattle.std.specs.Prelude.{◌==◌, Option, Some, None, map, slice_set}
use Rattle.std.proofs.lemmas.Bool.{eqb-false}
use Rattle.std.proofs.lemmas.List.{set-set}
use Rattle.qx_types.specs.declared.names.Manager.{Manager}
use Rattle.qx_types.specs.declared.step.Step.{Step}
use Rattle.qx_isolation.specs.System.{IsInOrder}
use Rattle.qx_isolation.specs.System.{Behaviour, After, boot, Change, client_end, client_step, line_of, own_hand, own_held, own_line, rank, step_end, view, World}
use Rattle.qx_types.specs.Managers.{manager_number}
use Rattle.qx_isolation.specs.Rows.{row_at}
use Rattle.qx_isolation.proofs.Changes.{AreInOrder, in_order_at, own_held-view, own_lines-after, own_lines-after_other, lines_in_order_after}
use Rattle.qx_isolation.proofs.Places.{row_at-set_other, set-row_at_set, row_at-set_row_at, at-map}

module _ {Part : Type 0} {b : Behaviour Part} where
  -- what holds of each world that a run reaches
  pub record IsReached (w : World b) : Type 0 where
    pub lines : AreInOrder w.lines
    pub parts : length w.parts ≡ length (boot b w.config).parts

  -- what a step gives, as one user sees it
  abbrev pub viewed : ℕ → After b → After b
  viewed user after = record { world = view user after.world; outcome = after.outcome }

  row_at-view_self : (user : ℕ) (w : World b) → IsReached w → row_at (view user w).parts user ≡ row_at w.parts user
  unfolding view
  row_at-view_self user w h = row_at-set_row_at (boot b w.config).parts w.parts user h.parts

  pub row_at-view : (user of : ℕ) (w : World b) → IsReached w → of ≡ user → row_at (view user w).parts of ≡ row_at w.parts of
  row_at-view user of w h same = subst (λ n. row_at (view n w).parts of ≡ row_at w.parts of) same (row_at-view_self of w h)

  pub row_at-hands : (user : ℕ) (w : World b) (worker : ℕ) → row_at (view user w).hands worker ≡ own_hand user (row_at w.hands worker)
  unfolding view
  row_at-hands user w worker = at-map (own_hand user) w.hands worker None None refl

  pub line_of-view : (user : ℕ) (w : World b) (manager : Manager) → line_of (view user w) manager ≡ own_line user (line_of w manager)
  unfolding view
  line_of-view user w manager = at-map (own_line user) w.lines (manager_number manager) [] [] refl

  pub in_order_line : (w : World b) (manager : Manager) → IsReached w → IsInOrder rank (line_of w manager)
  in_order_line w manager h = in_order_at w.lines (manager_number manager) h.lines

  -- the end of a step

  pub reached_acted : (user : ℕ) (before after : Part) (changes : List Change) (w : World b) → IsReached w → IsReached (step_end user before after changes w)
  reached_acted user before after changes w h = record {
    lines = lines_in_order_after user w.lines changes h.lines;
    parts = length-set w.parts user (Some (b.settle before (own_held user w.hands) after)) ∙ h.parts;
  }

  pub acted_self : (user : ℕ) (before after : Part) (changes : List Change) (w : World b) → IsReached w → view user (step_end user before after changes w) ≡ step_end user before after changes (view user w)
  unfolding view
  acted_self user before after changes w h = λ i. record {
    config = w.config;
    parts = parts i;
    lines = own_lines-after user w.lines changes h.lines i;
    hands = map (own_hand user) w.hands;
  }
    where
      parts : slice_set (boot b w.config).parts user (row_at (slice_set w.parts user (Some (b.settle before (own_held user w.hands) after))) user)
          ≡ slice_set (slice_set (boot b w.config).parts user (row_at w.parts user)) user (Some (b.settle before (own_held user (map (own_hand user) w.hands)) after))
      parts = rw (own_held-view user w.hands)
          (set-row_at_set (boot b w.config).parts w.parts user (Some (b.settle before (own_held user w.hands) after)) h.parts
          ∙ sym (set-set (boot b w.config).parts user (row_at w.parts user) (Some (b.settle before (own_held user w.hands) after))))

  pub acted_own : (user of : ℕ) (before after : Part) (changes : List Change) (w : World b) → IsReached w → of ≡ user → view user (step_end of before after changes w) ≡ step_end of before after changes (view user w)
  acted_own user of before after changes w h same = subst (λ n. view n (step_end of before after changes w) ≡ step_end of before after changes (view n w)) same (acted_self of before after changes w h)

  pub acted_other : (user other : ℕ) (before after : Part) (changes : List Change) (w : World b) → (other == user) ≡ false → view user (step_end other before after changes w) ≡ view user w
  unfolding view
  acted_other user other before after changes w differ = λ i. record {
    config = w.config;
    parts = slice_set (boot b w.config).parts user (row_at-set_other w.parts other user (Some (b.settle before (own_held other w.hands) after)) apart i);
    lines = own_lines-after_other user other w.lines changes differ i;
    hands = map (own_hand user) w.hands;
  }
    where
      apart : user ≢ other
      apart = λ e. eqb-false other user differ (sym e)

  -- a client's step

  pub reached_client : (w : World b) (user : ℕ) (e : Step) (row : Option Part) → IsReached w → IsReached (client_step w user e row).world
  reached_client w user e None h = h
  reached_client w user e (Some part) h = let given = b.client w.config user (own_held user w.hands) part e in reached_acted user part given.part given.changes w h

  pub client_other : (w : World b) (user other : ℕ) (e : Step) (row : Option Part) → (other == user) ≡ false → view user (client_step w other e row).world ≡ view user w
  client_other w user other e None differ = refl
  client_other w user other e (Some part) differ = let given = b.client w.config other (own_held other w.hands) part e in acted_other user other part given.part given.changes w differ

  client_row : (w : World b) (user : ℕ) (e : Step) (row : Option Part) → IsReached w → client_step (view user w) user e row ≡ viewed user (client_step w user e row)
  unfolding view
  client_row w user e None h = refl
  client_row w user e (Some part) h =
      let given = b.client w.config user (own_held user w.hands) part e in
      ap (λ held. client_end (view user w) user part (b.client w.config user held part e)) (own_held-view user w.hands)
      ∙ ap (λ world. record { world = world; outcome = given.outcome }) (sym (acted_self user part given.part given.changes w h))

  client_self : (w : World b) (user : ℕ) (e : Step) → IsReached w → client_step (view user w) user e (row_at (view user w).parts user) ≡ viewed user (client_step w user e (row_at w.parts user))
  client_self w user e h = rw (row_at-view_self user w h) (client_row w user e (row_at w.parts user) h)

  pub client_own : (w : World b) (user of : ℕ) (e : Step) → IsReached w → of ≡ user → client_step (view user w) of e (row_at (view user w).parts of) ≡ viewed user (client_step w of e (row_at w.parts of))
  client_own w user of e h same = subst (λ n. client_step (view n w) of e (row_at (view n w).parts of) ≡ viewed n (client_step w of e (row_at w.parts of))) same (client_self w of e h)
