-- What a worker's receiving does to the view of the item's user, and to the views of others.
use Rattle.std.proofs.Common.{◌≡◌, ℕ, List, [], ◌∷◌, true, false, refl, sym, ap, ◌∙◌}
use Rattle.std.specs.Prelude.{◌==◌, Option, Some, None, Ok, drop, slice_set}
use Rattle.std.proofs.lemmas.Bool.{eqb-true}
use Rattle.std.proofs.lemmas.List.Elements.{All-set}
use Rattle.qx_types.specs.declared.names.Manager.{Manager}
use Rattle.qx_types.specs.declared.outcome.Outcome.TheVariants.{Took}
use Rattle.qx_isolation.specs.declared.rows.Held.{Held}
use Rattle.qx_isolation.specs.declared.rows.Queued.{Queued}
use Rattle.qx_isolation.specs.System.{IsInOrder}
use Rattle.qx_isolation.specs.System.{Behaviour, boot, item_to_take, line_of, rank, received_part, shown_item, view, with_taken, World}
use Rattle.qx_types.specs.Managers.{manager_number}
use Rattle.qx_isolation.specs.Rows.{row_at}
use Rattle.qx_isolation.proofs.Changes.{own_hand-put, own_hand-put_other, own_lines-rest, own_lines-rest_other}
use Rattle.qx_isolation.proofs.Orders.{in_order_rest}
use Rattle.qx_isolation.proofs.Views.{IsReached, in_order_line, viewed, row_at-view, acted_own, acted_other, reached_acted}
use Rattle.qx_isolation.proofs.Workers.{after_taking, takes}

in_order_after : (line : List Queued) → IsInOrder rank line → IsInOrder rank (drop 1 line)
in_order_after [] h = h
in_order_after (first ∷ rest) h = in_order_rest rank first rest h

module _ {Part : Type 0} {b : Behaviour Part} where
  reached_taken : (w : World b) (worker : ℕ) (manager : Manager) (taken : Held) → IsReached w → IsReached (with_taken w worker manager taken)
  reached_taken w worker manager taken h = record {
    lines = All-set (IsInOrder rank) w.lines (manager_number manager) (drop 1 (line_of w manager)) (in_order_after (line_of w manager) (in_order_line w manager h)) h.lines;
    parts = h.parts;
  }

  -- what a worker takes of a user into its empty hand is seen in that user's view
  taken_own : (w : World b) (user worker : ℕ) (manager : Manager) (taken : Held) → item_to_take w worker manager ≡ Ok taken → (taken.user.0 == user) ≡ true → view user (with_taken w worker manager taken) ≡ with_taken (view user w) worker manager taken
  unfolding view
  taken_own w user worker manager taken is own =
      let t = takes w worker manager taken is in
      λ i. record {
        config = w.config;
        parts = slice_set (boot b w.config).parts user (row_at w.parts user);
        lines = own_lines-rest user (manager_number manager) t.first t.rest w.lines t.line_is (ap (λ held. held.user.0 == user) t.taken_is ∙ own) i;
        hands = own_hand-put user worker taken w.hands own i;
      }

  taken_other : (w : World b) (user worker : ℕ) (manager : Manager) (taken : Held) → item_to_take w worker manager ≡ Ok taken → (taken.user.0 == user) ≡ false → view user (with_taken w worker manager taken) ≡ view user w
  unfolding view
  taken_other w user worker manager taken is differ =
      let t = takes w worker manager taken is in
      λ i. record {
        config = w.config;
        parts = slice_set (boot b w.config).parts user (row_at w.parts user);
        lines = own_lines-rest_other user (manager_number manager) t.first t.rest w.lines t.line_is (ap (λ held. held.user.0 == user) t.taken_is ∙ differ) i;
        hands = own_hand-put_other user worker taken w.hands t.free differ i;
      }

  received_own : (w : World b) (user : ℕ) (taken : Held) (row : Option Part) → IsReached w → taken.user.0 ≡ user → received_part (view user w) taken row ≡ view user (received_part w taken row)
  received_own w user taken None h same = refl
  received_own w user taken (Some part) h same = sym (acted_own user taken.user.0 part (b.take part taken.item) [] w h same)

  received_other : (w : World b) (user : ℕ) (taken : Held) (row : Option Part) → (taken.user.0 == user) ≡ false → view user (received_part w taken row) ≡ view user w
  received_other w user taken None differ = refl
  received_other w user taken (Some part) differ = acted_other user taken.user.0 part (b.take part taken.item) [] w differ

  reached_received : (w : World b) (taken : Held) (row : Option Part) → IsReached w → IsReached (received_part w taken row)
  reached_received w taken None h = h
  reached_received w taken (Some part) h = reached_acted taken.user.0 part (b.take part taken.item) [] w h

  pub receive_own : (w : World b) (user worker : ℕ) (manager : Manager) (taken : Held) → IsReached w → item_to_take w worker manager ≡ Ok taken → (taken.user.0 == user) ≡ true
      → after_taking (view user w) worker manager taken ≡ viewed user (after_taking w worker manager taken)
  receive_own w user worker manager taken h is own =
      let same : taken.user.0 ≡ user = eqb-true taken.user.0 user own in
      let in_hand = taken_own w user worker manager taken is own in
      let row = row_at-view user taken.user.0 w h same in
      ap (λ world. record { world = world; outcome = Took (shown_item taken.user.0 taken.item) })
      ((λ i. received_part (sym in_hand i) taken (row i))
      ∙ received_own (with_taken w worker manager taken) user taken (row_at w.parts taken.user.0) (reached_taken w worker manager taken h) same)

  pub receive_other : (w : World b) (user worker : ℕ) (manager : Manager) (taken : Held) → item_to_take w worker manager ≡ Ok taken → (taken.user.0 == user) ≡ false
      → view user (after_taking w worker manager taken).world ≡ view user w
  receive_other w user worker manager taken is differ =
      received_other (with_taken w worker manager taken) user taken (row_at w.parts taken.user.0) differ ∙ taken_other w user worker manager taken is differ

  pub reached_receive : (w : World b) (worker : ℕ) (manager : Manager) (taken : Held) → IsReached w → IsReached (after_taking w worker manager taken).world
  reached_receive w worker manager taken h = reached_received (with_taken w worker manager taken) taken (row_at w.parts taken.user.0) (reached_taken w worker manager taken h)
