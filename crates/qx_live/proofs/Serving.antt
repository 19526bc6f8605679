-- Serving in a world where all that waits is one user's: each step is that user's, and no item waits after it.
use Rattle.std.proofs.Common.{◌≡◌, ℕ, zero, suc, ◌*◌, ◌≤◌, ◌<◌, [], ◌∷◌, true, length, refl, sym, ap, subst, ◌∙◌, arith, slice_set}
use Rattle.std.specs.Prelude.{◌==◌, Option, Some, None, drop, find, map, nat_lt, replicate, sum_by}
use Rattle.std.proofs.lemmas.Bool.{eqb-true}
use Rattle.qx_types.specs.Managers.{manager_number, managers}
use Rattle.qx_types.specs.Step.{actor_of, user_of}
use Rattle.qx_types.specs.declared.names.Actor.{Actor}
use Rattle.qx_types.specs.declared.names.Manager.{Manager}
use Rattle.qx_types.specs.declared.step.Step.{Step}
use Rattle.qx_types.specs.declared.step.Step.TheVariants.{Receive, Perform}
use Rattle.qx_isolation.specs.Lines.{line_at, with_line}
use Rattle.qx_isolation.specs.Rows.{row_at}
use Rattle.qx_machine.specs.Machine.{World, client_step, line_of, lines_after, own_held, own_line, owner, performed_part, step, step_of, user_of_item, view, with_empty_hand, with_taken}
use Rattle.qx_machine.specs.Parts.{Part}
use Rattle.qx_machine.specs.Reads.{has_item, next_manager}
use Rattle.qx_machine.specs.Runs.{is_owner, world_after}
use Rattle.qx_machine.specs.Users as users
use Rattle.qx_machine.specs.Users.{serve}
use Rattle.qx_isolation.specs.declared.rows.Held.{Held}
use Rattle.qx_isolation.proofs.Changes.{own_lines-after, own_lines-rest}
use Rattle.qx_isolation.proofs.Places.{at-map}
use Rattle.qx_isolation.proofs.Steps.{reached_step}
use Rattle.qx_isolation.proofs.Views.{IsReached}
use Rattle.qx_isolation.proofs.Workers.{item_done, item_taken}
use Rattle.qx_live.specs.Chosen.{first_worker, items_waiting, round_steps, rounds, served_steps}
use Rattle.qx_live.proofs.Choices.{IsOf, followed_of, none_of}
use Rattle.qx_live.proofs.Emptied.{empties, stays, turn}
use Rattle.qx_live.proofs.Items.{filled, find_passes, first_own, free_again, free_first, no_items}
use Rattle.qx_live.proofs.Kept.{Keeps, at_one, given_hands, given_lines, is_first, kept, performed_hands, performed_is, received_is}
use Rattle.qx_live.proofs.Owned.{AreOwn}
use Rattle.qx_live.proofs.Weights.{waiting_weighs_at_most}

-- all that waits is the user's, and no worker holds anything
pub record Own (user n : ℕ) (w : World) : Type 0 where
  pub reached : IsReached w
  pub keeps : Keeps w n
  pub lines : map (own_line user) w.lines ≡ w.lines
  pub hands : w.hands ≡ None ∷ replicate n None

-- nothing waits, and no worker holds anything
pub record Quiet (n : ℕ) (w : World) : Type 0 where
  pub reached : IsReached w
  pub keeps : Keeps w n
  pub empty : items_waiting w ≡ 0
  pub hands : w.hands ≡ None ∷ replicate n None

pub own_of_quiet : (user n : ℕ) (w : World) → Quiet n w → Own user n w
own_of_quiet user n w q = record { reached = q.reached; keeps = q.keeps; lines = no_items user w.lines q.empty; hands = q.hands }

-- ---- a client's step puts the user's items into lines, and leaves hands alone

client_lines : (user : ℕ) (w : World) (e : Step) (row : Option Part) → IsReached w → map (own_line user) w.lines ≡ w.lines
    → map (own_line user) (client_step w user e row).world.lines ≡ (client_step w user e row).world.lines
client_lines user w e None h own = own
client_lines user w e (Some part) h own =
    let changes = (users.client w.config user (own_held user w.hands) part e).changes in
    own_lines-after user w.lines changes h.lines ∙ ap (λ lines. lines_after user lines changes) own

client_hands : (user : ℕ) (w : World) (e : Step) (row : Option Part) → (client_step w user e row).world.hands ≡ w.hands
client_hands user w e None = refl
client_hands user w e (Some part) = refl

pub client_is : (w : World) (e : Step) (actor : Actor) → actor_of e ≡ Some actor → step w e ≡ client_step w (user_of actor) e (row_at w.parts (user_of actor))
unfolding step
client_is w e actor by = ap (step_of w e) by

pub own_client : (n : ℕ) (w : World) (e : Step) (actor : Actor) → actor_of e ≡ Some actor → Own (user_of actor) n w → Own (user_of actor) n (step w e).world
own_client n w e actor by o =
    let user = user_of actor in
    let row = row_at w.parts user in
    let is = client_is w e actor by in
    record {
      reached = reached_step w e o.reached;
      keeps = kept n w e o.keeps;
      lines = subst (λ after. map (own_line user) after.world.lines ≡ after.world.lines) (sym is) (client_lines user w e row o.reached o.lines);
      hands = ap (λ after. after.world.hands) is ∙ client_hands user w e row ∙ o.hands;
    }

-- ---- one round

performed_lines : (user : ℕ) (w : World) (held : Held) (moment : ℕ) (row : Option Part) → IsReached w → held.user.0 ≡ user → map (own_line user) w.lines ≡ w.lines
    → map (own_line user) (performed_part w held moment row).lines ≡ (performed_part w held moment row).lines
performed_lines user w held moment None h same own = own
performed_lines user w held moment (Some part) h same own =
    let changes = (serve w.config held.user.0 (own_held held.user.0 w.hands) part held.item moment).changes in
    subst (λ n. map (own_line n) w.lines ≡ w.lines → map (own_line n) (lines_after held.user.0 w.lines changes) ≡ lines_after held.user.0 w.lines changes) same
    (λ mine. own_lines-after held.user.0 w.lines changes h.lines ∙ ap (λ lines. lines_after held.user.0 lines changes) mine) own

emptied_reached : (w : World) → IsReached w → IsReached (with_empty_hand w 1)
emptied_reached w h = record { lines = h.lines; parts = h.parts }

-- the first worker takes the first item of a line, which is the user's, and does it
pub round_of : (user n moment : ℕ) (w : World) (manager : Manager) → 1 ≤ n → Own user n w → next_manager w ≡ Some manager
    → IsOf user (Own user n) (λ v. round_steps moment manager) w
unfolding owner
round_of user n moment w manager some o next =
    let f = filled (line_of w manager) (find_passes (has_item w) managers manager next) in
    let number = manager_number manager in
    let held : Held = record { user = f.first.user; item = f.first.item } in
    let mine : (f.first.user.0 == user) ≡ true =
    first_own user f.first f.rest
    (ap (own_line user) (sym f.is) ∙ sym (at-map (own_line user) w.lines number [] [] refl) ∙ ap (λ lines. line_at lines number) o.lines ∙ f.is) in
    let free = free_first n w.hands o.hands in
    let takes = Receive first_worker manager in
    let does = Perform first_worker moment in
    let v = (step w takes).world in
    let kept_v = kept n w takes o.keeps in
    let reached_v = reached_step w takes o.reached in
    let taken = with_taken w 1 manager held in
    let row = row_at w.parts f.first.user.0 in
    let v_is = received_is n w manager f.first f.rest some o.keeps free f.is in
    let v_hands : v.hands ≡ slice_set w.hands 1 (Some held) = ap (λ (x : World). x.hands) v_is ∙ given_hands taken held row in
    let v_lines : v.lines ≡ with_line w.lines number (drop 1) = ap (λ (x : World). x.lines) v_is ∙ given_lines taken held row in
    let v_own : map (own_line user) v.lines ≡ v.lines =
    subst (λ lines. map (own_line user) lines ≡ lines) (sym v_lines)
    (own_lines-rest user number f.first f.rest w.lines f.is mine ∙ ap (λ lines. with_line lines number (drop 1)) o.lines) in
    let room : 1 < length w.hands = omega (arith, o.keeps.hands) in
    let full : row_at v.hands 1 ≡ Some held = ap (λ hands. row_at hands 1) v_hands ∙ at_one w.hands (Some held) room in
    let emptied = with_empty_hand v 1 in
    let row_v = row_at v.parts f.first.user.0 in
    let u_is = performed_is n v moment held some kept_v full in
    record {
      same = refl;
      own = (
        ap (λ item. is_owner user (user_of_item item)) (item_taken w 1 manager f.first f.rest (is_first n w some o.keeps) free f.is) ∙ mine,
        (ap (λ item. is_owner user (user_of_item item)) (item_done v 1 held (is_first n v some kept_v) full) ∙ mine, tt),
      );
      after = record {
        reached = reached_step v does reached_v;
        keeps = kept n v does kept_v;
        lines = subst (λ (x : World). map (own_line user) x.lines ≡ x.lines) (sym u_is) (performed_lines user emptied held moment row_v (emptied_reached v reached_v) (eqb-true f.first.user.0 user mine) v_own);
        hands = ap (λ (x : World). x.hands) u_is ∙ performed_hands emptied held moment row_v ∙ ap (λ hands. slice_set hands 1 None) v_hands ∙ free_again n held w.hands o.hands;
      };
    }

-- ---- all rounds

view_next : (user : ℕ) (w : World) → map (own_line user) w.lines ≡ w.lines → next_manager (view user w) ≡ next_manager w
unfolding view
view_next user w own = ap (λ lines. find (λ manager. nat_lt 0 (length (line_at lines (manager_number manager)))) managers) own

pub view_waiting : (user : ℕ) (w : World) → map (own_line user) w.lines ≡ w.lines → items_waiting (view user w) ≡ items_waiting w
unfolding view
view_waiting user w own = ap (sum_by length) own

pub rounds_of : (left user n moment : ℕ) (w : World) → 1 ≤ n → Own user n w → IsOf user (Own user n) (rounds left moment) w
rounds_of zero user n moment w some o = none_of user (Own user n) w o
rounds_of (suc left) user n moment w some o = by_next (λ v own. rounds_of left user n moment v some own) (next_manager w) refl
  where
    by_next : ((v : World) → Own user n v → IsOf user (Own user n) (rounds left moment) v) → (next : Option Manager) → next_manager w ≡ next
        → IsOf user (Own user n) (rounds (suc left) moment) w
    by_next later None none = record {
      same = stays left moment (view user w) (view_next user w o.lines ∙ none) ∙ sym (stays left moment w none);
      own = subst (AreOwn user w) (sym (stays left moment w none)) tt;
      after = subst (λ steps. Own user n (world_after w steps)) (sym (stays left moment w none)) o;
    }
    by_next later (Some manager) next =
        let one = round_of user n moment w manager some o next in
        let all = followed_of user (Own user n) (Own user n) (λ v. round_steps moment manager) (rounds left moment) w o.reached one
        (later (world_after w (round_steps moment manager)) one.after) in
        let is = turn left moment w manager next in
        record {
          same = turn left moment (view user w) manager (view_next user w o.lines ∙ next) ∙ all.same ∙ sym is;
          own = subst (AreOwn user w) (sym is) all.own;
          after = subst (λ steps. Own user n (world_after w steps)) (sym is) all.after;
        }

-- all that waits is served
pub served_of : (user n moment : ℕ) (w : World) → 1 ≤ n → Own user n w → IsOf user (Quiet n) (served_steps moment) w
unfolding served_steps
served_of user n moment w some o =
    let left = 2 * items_waiting w in
    let all = rounds_of left user n moment w some o in
    record {
      same = ap (λ waiting. rounds (2 * waiting) moment (view user w)) (view_waiting user w o.lines) ∙ all.same;
      own = all.own;
      after = record {
        reached = all.after.reached;
        keeps = all.after.keeps;
        empty = empties left n moment w some o.keeps (free_first n w.hands o.hands) (waiting_weighs_at_most w);
        hands = all.after.hands;
      };
    }
