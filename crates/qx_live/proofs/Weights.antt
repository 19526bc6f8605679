-- The weight of what waits in lines: a message weighs 2, since its performing may put one pulse into a line, and a pulse weighs 1.
use Rattle.std.proofs.Common.{◌≡◌, ℕ, suc, zero, ◌+◌, ◌*◌, ◌≤◌, Bool, true, false, List, [], ◌∷◌, length, refl, arith, if◌then◌else◌}
use Rattle.std.specs.Prelude.{◌==◌, ◌&&◌, Option, Some, None, drop, nat_lt, sum_by}
use Rattle.std.proofs.lemmas.List.Sums.{sum_by-cons}
use Rattle.qx_types.specs.Configuration.{Configuration}
use Rattle.qx_types.specs.Managers.{manager_number}
use Rattle.qx_isolation.specs.declared.rows.Held.{Held}
use Rattle.qx_isolation.specs.declared.rows.OwnItem.{OwnItem}
use Rattle.qx_isolation.specs.declared.rows.OwnItem.TheVariants.{Message, Unblock, Disconnect}
use Rattle.qx_isolation.specs.declared.rows.Queued.{Queued}
use Rattle.qx_machine.specs.Laws.{most_put}
use Rattle.qx_isolation.specs.Lines.{into, line_at, with_line}
use Rattle.qx_machine.specs.Machine.{World, changed_manager, is_same_item, line_after, line_without, lines_after, own_held, performed_part, queued_item, rank}
use Rattle.qx_machine.specs.Parts.{Change, Part, Put, Remove}
use Rattle.qx_machine.specs.Users.{serve}
use Rattle.qx_machine.proofs.Puts.{serve_puts_by}
use Rattle.qx_live.specs.Chosen.{items_waiting}

-- one more than an item's performing may put into a line
abbrev pub weight_of : OwnItem → ℕ
weight_of item = most_put item + 1

abbrev pub weight_in_line : Queued → ℕ
weight_in_line queued = weight_of queued.item

abbrev pub weight_of_line : List Queued → ℕ
weight_of_line line = sum_by weight_in_line line

abbrev pub weight_of_lines : List (List Queued) → ℕ
weight_of_lines lines = sum_by weight_of_line lines

-- the weight of all that waits
abbrev pub weight_waiting : World → ℕ
weight_waiting w = weight_of_lines w.lines

-- ---- no item weighs nothing, and none more than 2

line_counts : (line : List Queued) → (length line ≤ weight_of_line line) × (weight_of_line line ≤ 2 * length line)
line_counts [] = (omega arith, omega arith)
line_counts (first ∷ line) =
    let rest = line_counts line in
    let both = item_counts first.item in
    (omega (arith, rest.0, both.0, sum_by-cons weight_in_line first line), omega (arith, rest.1, both.1, sum_by-cons weight_in_line first line))
  where
    item_counts : (item : OwnItem) → (1 ≤ weight_of item) × (weight_of item ≤ 2)
    item_counts (Message process thread) = (omega arith, omega arith)
    item_counts (Unblock process thread call) = (omega arith, omega arith)
    item_counts (Disconnect process server) = (omega arith, omega arith)

lines_count : (lines : List (List Queued)) → (sum_by length lines ≤ weight_of_lines lines) × (weight_of_lines lines ≤ 2 * sum_by length lines)
lines_count [] = (omega arith, omega arith)
lines_count (line ∷ lines) =
    let rest = lines_count lines in
    let first = line_counts line in (
      omega (arith, rest.0, first.0, sum_by-cons weight_of_line line lines, sum_by-cons length line lines),
      omega (arith, rest.1, first.1, sum_by-cons weight_of_line line lines, sum_by-cons length line lines),
    )

pub waiting_weighs : (w : World) → items_waiting w ≤ weight_waiting w
waiting_weighs w = (lines_count w.lines).0

pub waiting_weighs_at_most : (w : World) → weight_waiting w ≤ 2 * items_waiting w
waiting_weighs_at_most w = (lines_count w.lines).1

-- ---- what changes put into lines

abbrev weight_put_by : Change → ℕ
weight_put_by (Put manager item prio) = weight_of item
weight_put_by (Remove manager item) = 0

abbrev weight_put : List Change → ℕ
weight_put changes = sum_by weight_put_by changes

-- all that is put is one pulse, and only a message puts it
serve_puts : (config : Configuration) (user : ℕ) (held : List OwnItem) (part : Part) (item : OwnItem) (moment : ℕ) → weight_put (serve config user held part item moment).changes ≤ most_put item
serve_puts = serve_puts_by weight_put_by (λ manager item. refl) (λ prio process server. omega arith)

-- ---- the lines after changes

without_weighs : (user : ℕ) (item : OwnItem) (line : List Queued) → weight_of_line (line_without user item line) ≤ weight_of_line line
without_weighs user item [] = omega arith
without_weighs user item (first ∷ line) = by_first (first.user.0 == user && is_same_item first.item item) (line_without user item line) (without_weighs user item line)
  where
    by_first : (b : Bool) (rest : List Queued) → weight_of_line rest ≤ weight_of_line line → weight_of_line (if b then line else first ∷ rest) ≤ weight_of_line (first ∷ line)
    by_first true rest less = omega (arith, sum_by-cons weight_in_line first line)
    by_first false rest less = omega (arith, less, sum_by-cons weight_in_line first line, sum_by-cons weight_in_line first rest)

into_weighs : (item : Queued) (line : List Queued) → weight_of_line (into rank line item) ≡ weight_of_line line + weight_in_line item
into_weighs item [] = omega arith
into_weighs item (first ∷ line) = by_first (nat_lt (rank first) (rank item)) (into rank line item) (into_weighs item line)
  where
    by_first : (b : Bool) (rest : List Queued) → weight_of_line rest ≡ weight_of_line line + weight_in_line item
        → weight_of_line (if b then item ∷ first ∷ line else first ∷ rest) ≡ weight_of_line (first ∷ line) + weight_in_line item
    by_first true rest more = omega (arith, sum_by-cons weight_in_line item (first ∷ line))
    by_first false rest more = omega (arith, more, sum_by-cons weight_in_line first line, sum_by-cons weight_in_line first rest)

change_weighs : (user : ℕ) (change : Change) (line : List Queued) → weight_of_line (line_after user change line) ≤ weight_of_line line + weight_put_by change
change_weighs user (Put manager item prio) line = omega (arith, into_weighs (queued_item user item prio) line)
change_weighs user (Remove manager item) line = omega (arith, without_weighs user item line)

with_line_weighs : (lines : List (List Queued)) (number more : ℕ) (change : List Queued → List Queued) → ((line : List Queued) → weight_of_line (change line) ≤ weight_of_line line + more)
    → weight_of_lines (with_line lines number change) ≤ weight_of_lines lines + more
with_line_weighs [] number more change at_most = omega arith
with_line_weighs (line ∷ lines) zero more change at_most =
    omega (arith, sum_by-cons weight_of_line (change line) lines, sum_by-cons weight_of_line line lines, at_most line)
with_line_weighs (line ∷ lines) (suc number) more change at_most =
    omega (arith, sum_by-cons weight_of_line line (with_line lines number change), sum_by-cons weight_of_line line lines, with_line_weighs lines number more change at_most)

lines_after_weigh : (user : ℕ) (lines : List (List Queued)) (changes : List Change) → weight_of_lines (lines_after user lines changes) ≤ weight_of_lines lines + weight_put changes
lines_after_weigh user lines [] = omega arith
lines_after_weigh user lines (change ∷ changes) =
    let number = manager_number (changed_manager change) in
    let after = with_line lines number (line_after user change) in
    omega (arith, lines_after_weigh user after changes, with_line_weighs lines number (weight_put_by change) (line_after user change) (change_weighs user change), sum_by-cons weight_put_by change changes)

-- the performing of an item puts back less than the item weighs
pub performed_weighs : (w : World) (held : Held) (moment : ℕ) (part : Option Part) → weight_waiting (performed_part w held moment part) + 1 ≤ weight_waiting w + weight_of held.item
performed_weighs w held moment None = omega arith
performed_weighs w held moment (Some part) =
    let changes = (serve w.config held.user.0 (own_held held.user.0 w.hands) part held.item moment).changes in
    omega (arith, lines_after_weigh held.user.0 w.lines changes, serve_puts w.config held.user.0 (own_held held.user.0 w.hands) part held.item moment)

-- a line without its first item weighs less by that item, and so do all lines together
pub first_weighs : (lines : List (List Queued)) (number : ℕ) (first : Queued) (rest : List Queued) → line_at lines number ≡ first ∷ rest
    → weight_of_lines (with_line lines number (drop 1)) + weight_in_line first ≡ weight_of_lines lines
first_weighs [] number first rest e = cc
first_weighs (line ∷ lines) zero first rest e =
    let less : weight_of_line (drop 1 line) + weight_in_line first ≡ weight_of_line line = rw e (omega (arith, sum_by-cons weight_in_line first rest)) in
    omega (arith, sum_by-cons weight_of_line (drop 1 line) lines, sum_by-cons weight_of_line line lines, less)
first_weighs (line ∷ lines) (suc number) first rest e =
    omega (arith, sum_by-cons weight_of_line line (with_line lines number (drop 1)), sum_by-cons weight_of_line line lines, first_weighs lines number first rest e)
