-- What a user's changes of a line do to the items of that user and of others.
use Rattle.std.proofs.Common.{◌≡◌, eq-eqb, ℕ, ◌≤◌, List, [], ◌∷◌, true, false, refl, sym, ap, ◌∙◌, arith, zero, suc}
use Rattle.std.specs.Prelude.{◌==◌, ◌&&◌, All, Option, Some, None, drop, map, slice_set}
use Rattle.std.proofs.lemmas.List.{map-set}
use Rattle.std.proofs.lemmas.Bool.{cond_both}
use Rattle.std.proofs.lemmas.Bool.Decides.{nat_tests}
use Rattle.std.proofs.lemmas.List.Elements.{All-cons, All-head, All-tail, All-set}
use Rattle.qx_isolation.specs.declared.rows.Held.{Held}
use Rattle.qx_isolation.specs.declared.rows.OwnItem.{OwnItem}
use Rattle.qx_isolation.specs.declared.rows.Queued.{Queued}
use Rattle.qx_isolation.specs.System.{IsInOrder}
use Rattle.qx_isolation.specs.System.{rank, queued_item, line_without, is_same_item, changed_manager, line_after, lines_after, own_line, own_held, own_hand}
use Rattle.qx_types.specs.Managers.{manager_number}
use Rattle.qx_isolation.specs.Lines.{line_at, with_line}
use Rattle.qx_isolation.specs.Rows.{row_at}
use Rattle.qx_isolation.specs.System.{Change, Put, Remove}
use Rattle.qx_isolation.proofs.Orders.{filter-into, filter-into_other, in_order_into, in_order_none, in_order_rest, in_order_first, in_order_cons}
use Rattle.qx_isolation.proofs.Places.{at-map, map-set_unseen}

-- each line is in order of priority
abbrev pub AreInOrder : List (List Queued) → Type 0
AreInOrder lines = All (IsInOrder rank) lines

pub in_order_at : (lines : List (List Queued)) (number : ℕ) → AreInOrder lines → IsInOrder rank (line_at lines number)
in_order_at [] number h = in_order_none rank
in_order_at (line ∷ lines) zero h = All-head (IsInOrder rank) line lines h
in_order_at (line ∷ lines) (suc number) h = in_order_at lines number (All-tail (IsInOrder rank) line lines h)

own_line-without : (user : ℕ) (item : OwnItem) (line : List Queued) → own_line user (line_without user item line) ≡ line_without user item (own_line user line)
own_line-without user item [] = refl
own_line-without user item (first ∷ line) = grind (arith, nat_tests, own_line-without user item line)

own_line-without_other : (user other : ℕ) (item : OwnItem) (line : List Queued) → (other == user) ≡ false → own_line user (line_without other item line) ≡ own_line user line
own_line-without_other user other item [] differ = refl
own_line-without_other user other item (first ∷ line) differ = grind (arith, nat_tests, own_line-without_other user other item line differ)

All-without : (P : Queued → Type 0) (user : ℕ) (item : OwnItem) (line : List Queued) → All P line → All P (line_without user item line)
All-without P user item [] h = h
All-without P user item (first ∷ line) h =
    cond_both ((first.user.0 == user) && is_same_item first.item item) line (first ∷ line_without user item line) (All P)
    (λ same. All-tail P first line h)
    (λ differ. All-cons P first (line_without user item line) (All-head P first line h) (All-without P user item line (All-tail P first line h)))

in_order_without : (user : ℕ) (item : OwnItem) (line : List Queued) → IsInOrder rank line → IsInOrder rank (line_without user item line)
in_order_without user item [] h = h
in_order_without user item (first ∷ line) h =
    cond_both ((first.user.0 == user) && is_same_item first.item item) line (first ∷ line_without user item line) (IsInOrder rank)
    (λ same. in_order_rest rank first line h)
    (λ differ. in_order_cons rank first (line_without user item line)
    (All-without (λ later. rank later ≤ rank first) user item line (in_order_first rank first line h))
    (in_order_without user item line (in_order_rest rank first line h)))

in_order_changed : (user : ℕ) (change : Change) (line : List Queued) → IsInOrder rank line → IsInOrder rank (line_after user change line)
in_order_changed user (Put manager item prio) line h = in_order_into rank line (queued_item user item prio) h
in_order_changed user (Remove manager item) line h = in_order_without user item line h

own_line-changed : (user : ℕ) (change : Change) (line : List Queued) → IsInOrder rank line → own_line user (line_after user change line) ≡ line_after user change (own_line user line)
own_line-changed user (Put manager item prio) line h = filter-into rank (λ first. first.user.0 == user) line (queued_item user item prio) h (eq-eqb user user refl)
own_line-changed user (Remove manager item) line h = own_line-without user item line

own_line-changed_other : (user other : ℕ) (change : Change) (line : List Queued) → (other == user) ≡ false → own_line user (line_after other change line) ≡ own_line user line
own_line-changed_other user other (Put manager item prio) line differ = filter-into_other rank (λ first. first.user.0 == user) line (queued_item other item prio) differ
own_line-changed_other user other (Remove manager item) line differ = own_line-without_other user other item line differ

-- the line that a change is of, and the lines after it
abbrev number_of : Change → ℕ
number_of change = manager_number (changed_manager change)

abbrev lines_changed : ℕ → List (List Queued) → Change → List (List Queued)
lines_changed user lines change = with_line lines (number_of change) (line_after user change)

lines_in_order_changed : (user : ℕ) (lines : List (List Queued)) (change : Change) → AreInOrder lines → AreInOrder (lines_changed user lines change)
lines_in_order_changed user lines change h =
    All-set (IsInOrder rank) lines (number_of change) (line_after user change (line_at lines (number_of change)))
    (in_order_changed user change (line_at lines (number_of change)) (in_order_at lines (number_of change) h)) h

pub lines_in_order_after : (user : ℕ) (lines : List (List Queued)) (changes : List Change) → AreInOrder lines → AreInOrder (lines_after user lines changes)
lines_in_order_after user lines [] h = h
lines_in_order_after user lines (change ∷ changes) h = lines_in_order_after user (lines_changed user lines change) changes (lines_in_order_changed user lines change h)

own_lines-changed : (user : ℕ) (lines : List (List Queued)) (change : Change) → AreInOrder lines → map (own_line user) (lines_changed user lines change) ≡ lines_changed user (map (own_line user) lines) change
own_lines-changed user lines change h =
    let line = line_at lines (number_of change) in
    map-set (own_line user) lines (number_of change) (line_after user change line)
    ∙ ap (slice_set (map (own_line user) lines) (number_of change))
    (own_line-changed user change line (in_order_at lines (number_of change) h) ∙ ap (line_after user change) (sym (at-map (own_line user) lines (number_of change) [] [] refl)))

pub own_lines-after : (user : ℕ) (lines : List (List Queued)) (changes : List Change) → AreInOrder lines → map (own_line user) (lines_after user lines changes) ≡ lines_after user (map (own_line user) lines) changes
own_lines-after user lines [] h = refl
own_lines-after user lines (change ∷ changes) h =
    own_lines-after user (lines_changed user lines change) changes (lines_in_order_changed user lines change h)
    ∙ ap (λ l. lines_after user l changes) (own_lines-changed user lines change h)

pub own_lines-after_other : (user other : ℕ) (lines : List (List Queued)) (changes : List Change) → (other == user) ≡ false → map (own_line user) (lines_after other lines changes) ≡ map (own_line user) lines
own_lines-after_other user other lines [] differ = refl
own_lines-after_other user other lines (change ∷ changes) differ =
    own_lines-after_other user other (lines_changed other lines change) changes differ
    ∙ map-set_unseen (own_line user) lines (number_of change) [] (line_after other change (line_at lines (number_of change)))
    (own_line-changed_other user other change (line_at lines (number_of change)) differ)

-- a user's items in hands are in that user's view
pub own_held-view : (user : ℕ) (hands : List (Option Held)) → own_held user (map (own_hand user) hands) ≡ own_held user hands
own_held-view user [] = refl
own_held-view user (None ∷ hands) = own_held-view user hands
own_held-view user (Some held ∷ hands) =
    cond_both (held.user.0 == user) (Some held) None (λ hand. own_held user (hand ∷ map (own_hand user) hands) ≡ own_held user (Some held ∷ hands))
    (λ same. rw (own_held-view user hands) refl)
    (λ differ. rw differ (own_held-view user hands))

pub own_hand-put : (user worker : ℕ) (held : Held) (hands : List (Option Held)) → (held.user.0 == user) ≡ true → map (own_hand user) (slice_set hands worker (Some held)) ≡ slice_set (map (own_hand user) hands) worker (Some held)
own_hand-put user worker held hands own = map-set (own_hand user) hands worker (Some held) ∙ rw own refl

pub own_hand-put_other : (user worker : ℕ) (held : Held) (hands : List (Option Held)) → row_at hands worker ≡ None → (held.user.0 == user) ≡ false → map (own_hand user) (slice_set hands worker (Some held)) ≡ map (own_hand user) hands
own_hand-put_other user worker held hands empty differ = map-set_unseen (own_hand user) hands worker None (Some held) (rw (differ, empty) refl)

pub own_hand-emptied : (user worker : ℕ) (hands : List (Option Held)) → map (own_hand user) (slice_set hands worker None) ≡ slice_set (map (own_hand user) hands) worker None
own_hand-emptied user worker hands = map-set (own_hand user) hands worker None

pub own_hand-emptied_other : (user worker : ℕ) (held : Held) (hands : List (Option Held)) → row_at hands worker ≡ Some held → (held.user.0 == user) ≡ false → map (own_hand user) (slice_set hands worker None) ≡ map (own_hand user) hands
own_hand-emptied_other user worker held hands holds differ = map-set_unseen (own_hand user) hands worker None None (rw (holds, differ) refl)

-- a line without its first item
pub own_lines-rest : (user number : ℕ) (first : Queued) (rest : List Queued) (lines : List (List Queued)) → line_at lines number ≡ first ∷ rest → (first.user.0 == user) ≡ true
    → map (own_line user) (with_line lines number (drop 1)) ≡ with_line (map (own_line user) lines) number (drop 1)
own_lines-rest user number first rest lines is own =
    let line : drop 1 (own_line user (line_at lines number)) ≡ own_line user (drop 1 (line_at lines number)) = rw (is, own) refl in
    map-set (own_line user) lines number (drop 1 (line_at lines number))
    ∙ ap (slice_set (map (own_line user) lines) number) (sym line ∙ ap (drop 1) (sym (at-map (own_line user) lines number [] [] refl)))

pub own_lines-rest_other : (user number : ℕ) (first : Queued) (rest : List Queued) (lines : List (List Queued)) → line_at lines number ≡ first ∷ rest → (first.user.0 == user) ≡ false
    → map (own_line user) (with_line lines number (drop 1)) ≡ map (own_line user) lines
own_lines-rest_other user number first rest lines is differ = map-set_unseen (own_line user) lines number [] (drop 1 (line_at lines number)) (rw (is, differ) refl)
