-- Serving leaves no item waiting: each round makes what waits weigh less.
use Rattle.std.proofs.Common.{◌≡◌, ◌⊎◌, inl, inr, ℕ, zero, suc, ◌+◌, ◌≤◌, ◌<◌, true, false, List, [], ◌∷◌, length, refl, sym, ap, subst, ◌∙◌, arith, cond, lt-ltb}
use Rattle.std.specs.Prelude.{Some, None, find, map, nat_lt, slice_get, sum_by}
use Rattle.std.proofs.lemmas.Grind.{common_steps}
use Rattle.std.proofs.lemmas.List.Sums.{sum_by-cons}
use Rattle.qx_types.specs.Managers.{manager_count, manager_number, managers}
use Rattle.qx_types.proofs.Managers.{count_managers, number_at}
use Rattle.qx_types.specs.declared.names.Manager.{Manager}
use Rattle.qx_types.specs.declared.step.Step.{Step}
use Rattle.qx_types.specs.declared.step.Step.TheVariants.{Receive, Perform}
use Rattle.qx_isolation.specs.Lines.{line_at}
use Rattle.qx_isolation.specs.Rows.{row_at}
use Rattle.qx_isolation.specs.declared.rows.Held.{Held}
use Rattle.qx_isolation.specs.declared.rows.Queued.{Queued}
use Rattle.qx_isolation.proofs.Workers.{after_taking}
use Rattle.qx_machine.specs.Machine.{World, line_of, step, with_empty_hand, with_taken}
use Rattle.qx_machine.specs.Reads.{has_item, next_manager}
use Rattle.qx_machine.specs.Runs.{world_after}
use Rattle.qx_live.specs.Chosen.{first_worker, followed, items_waiting, round_steps, rounds}
use Rattle.qx_live.proofs.Kept.{Keeps, at_one, given_hands, given_lines, kept, kept_after, performed_hands, performed_is, received_is}
use Rattle.qx_live.proofs.Owned.{after_append}
use Rattle.qx_live.proofs.Weights.{first_weighs, performed_weighs, waiting_weighs, weight_of, weight_of_lines, weight_waiting}

-- the first worker does what it holds: its hand is empty, and what was put into lines weighs less than what it held
pub record Emptied (w u : World) (held : Held) : Type 0 where
  pub less : weight_waiting u + 1 ≤ weight_waiting w + weight_of held.item
  pub free : row_at u.hands 1 ≡ None

pub does_item : (n : ℕ) (w : World) (moment : ℕ) (held : Held) → 1 ≤ n → Keeps w n → row_at w.hands 1 ≡ Some held → Emptied w (step w (Perform first_worker moment)).world held
does_item n w moment held some k full =
    let u = performed_is n w moment held some k full in
    let part = row_at w.parts held.user.0 in
    let room : 1 < length w.hands = omega (arith, k.hands) in
    record {
      less = subst (λ v. weight_waiting v + 1 ≤ weight_waiting w + weight_of held.item) (sym u) (performed_weighs (with_empty_hand w 1) held moment part);
      free = ap (λ v. row_at v.hands 1) u ∙ ap (λ hands. row_at hands 1) (performed_hands (with_empty_hand w 1) held moment part) ∙ at_one w.hands None room;
    }

-- the hand is empty, and what waits weighs less
pub record Round (w u : World) : Type 0 where
  pub less : weight_waiting u + 1 ≤ weight_waiting w
  pub free : row_at u.hands 1 ≡ None

-- the first worker takes the first item of a line
record Took (w u : World) (first : Queued) : Type 0 where
  less : weight_waiting u + weight_of first.item ≡ weight_waiting w
  full : row_at u.hands 1 ≡ Some (record { user = first.user; item = first.item })

took : (w : World) (manager : Manager) (first : Queued) (rest : List Queued) → 1 < length w.hands → line_of w manager ≡ first ∷ rest
    → Took w (after_taking w 1 manager (record { user = first.user; item = first.item })).world first
took w manager first rest room e =
    let held : Held = record { user = first.user; item = first.item } in
    let v = with_taken w 1 manager held in
    let part = row_at w.parts first.user.0 in
    record {
      less = ap (λ lines. weight_of_lines lines + weight_of first.item) (given_lines v held part) ∙ first_weighs w.lines (manager_number manager) first rest e;
      full = ap (λ hands. row_at hands 1) (given_hands v held part) ∙ at_one w.hands _ room;
    }

-- one round, at a line that holds an item
pub one_round : (n : ℕ) (w : World) (moment : ℕ) (manager : Manager) (first : Queued) (rest : List Queued) → 1 ≤ n → Keeps w n → row_at w.hands 1 ≡ None → line_of w manager ≡ first ∷ rest
    → Round w (world_after w (round_steps moment manager))
one_round n w moment manager first rest some k free e =
    let v = (step w (Receive first_worker manager)).world in
    let room : 1 < length w.hands = omega (arith, k.hands) in
    let t : Took w v first = subst (λ x. Took w x first) (sym (received_is n w manager first rest some k free e)) (took w manager first rest room e) in
    let d = does_item n v moment _ some (kept n w _ k) t.full in
    record {
      less = omega (arith, d.less, t.less);
      free = d.free;
    }

-- among some managers, the first one for which an item waits
record Next (w : World) (among : List Manager) : Type 0 where
  manager : Manager
  first : Queued
  rest : List Queued
  next : find (has_item w) among ≡ Some manager
  there : line_of w manager ≡ first ∷ rest

one_waits : (first : Queued) (rest : List Queued) → nat_lt 0 (length (first ∷ rest)) ≡ true
one_waits first rest = grind (arith, common_steps)

-- it is the first of them, or among the others
next_here : (w : World) (manager : Manager) (others : List Manager) (line : List Queued) → line_of w manager ≡ line
    → (length line ≡ 0 → Next w others) → Next w (manager ∷ others)
next_here w manager others (first ∷ rest) e later = record {
  manager = manager;
  first = first;
  rest = rest;
  next = ap (λ waits. cond waits (Some manager) (find (has_item w) others)) (ap (λ l. nat_lt 0 (length l)) e ∙ one_waits first rest);
  there = e;
}
next_here w manager others [] e later =
    let found = later refl in
    record {
      manager = found.manager;
      first = found.first;
      rest = found.rest;
      next = ap (λ l. cond (nat_lt 0 (length l)) (Some manager) (find (has_item w) others)) e ∙ found.next;
      there = found.there;
    }

next_among : (w : World) (among : List Manager) (items : ℕ) → sum_by length (map (line_of w) among) ≡ suc items → Next w among
next_among w [] items e = absurd (omega (arith, e))
next_among w (manager ∷ others) items e =
    next_here w manager others (line_of w manager) refl
    (λ none. next_among w others items (omega (arith, none, e, sum_by-cons length (line_of w manager) (map (line_of w) others))))

-- each manager's line stands under the manager's place among all
line_under : (w : World) (number : ℕ) (manager : Manager) → slice_get managers number ≡ Some manager → line_at w.lines number ≡ line_of w manager
line_under w number manager e = ap (line_at w.lines) (sym (number_at number manager e))

line_of_each_among : (w : World) (among : List Manager) (lines : List (List Queued)) → length lines ≡ length among
    → ((number : ℕ) (manager : Manager) → slice_get among number ≡ Some manager → line_at lines number ≡ line_of w manager) → map (line_of w) among ≡ lines
line_of_each_among w [] [] e each = refl
line_of_each_among w [] (line ∷ lines) e each = absurd (omega (arith, e))
line_of_each_among w (manager ∷ others) [] e each = absurd (omega (arith, e))
line_of_each_among w (manager ∷ others) (line ∷ lines) e each =
    let first : line ≡ line_of w manager = each zero manager refl in
    let rest = line_of_each_among w others lines (omega (arith, e)) (λ number other found. each (suc number) other found) in
    λ i. sym first i ∷ rest i

pub line_of_each : (w : World) → length w.lines ≡ manager_count → map (line_of w) managers ≡ w.lines
line_of_each w all = line_of_each_among w managers w.lines (all ∙ sym count_managers) (line_under w)

-- how many items wait at some managers
abbrev pub waits_among : World → List Manager → ℕ
waits_among w some = sum_by length (map (line_of w) some)

pub more_waits : (w : World) (manager : Manager) (some : List Manager) → waits_among w (manager ∷ some) ≡ length (line_of w manager) + waits_among w some
more_waits w manager some = sum_by-cons length (line_of w manager) (map (line_of w) some)

-- a manager whose line is empty adds none
pub empty_waits : (w : World) (manager : Manager) (some : List Manager) → has_item w manager ≡ false → waits_among w (manager ∷ some) ≡ waits_among w some
empty_waits w manager some none = more_waits w manager some ∙ ap (λ n. n + waits_among w some) (no_items (length (line_of w manager)) none) ∙ (omega arith)
  where
    no_items : (n : ℕ) → nat_lt 0 n ≡ false → n ≡ 0
    no_items zero is = refl
    no_items (suc n) is = let clash : true ≡ false = sym (lt-ltb 0 (suc n) (omega arith)) ∙ is in absurd (cc)

-- where items wait, one of them is next
some_next : (n : ℕ) (w : World) (items : ℕ) → Keeps w n → items_waiting w ≡ suc items → Next w managers
some_next n w items k e = next_among w managers items (ap (sum_by length) (line_of_each w k.lines) ∙ e)

-- where none waits, none is next
none_next : (w : World) (among : List Manager) → sum_by length (map (line_of w) among) ≡ 0 → find (has_item w) among ≡ None
none_next w [] e = refl
none_next w (manager ∷ others) e =
    let empty : length (line_of w manager) ≡ 0 = omega (arith, e, sum_by-cons length (line_of w manager) (map (line_of w) others)) in
    let rest = none_next w others (omega (arith, e, sum_by-cons length (line_of w manager) (map (line_of w) others))) in
    ap (λ count. cond (nat_lt 0 count) (Some manager) (find (has_item w) others)) empty ∙ rest

-- where none is next no round is taken
pub stays : (left moment : ℕ) (w : World) → next_manager w ≡ None → rounds (suc left) moment w ≡ []
stays left moment w none =
    ap (λ next. elim next as (λ _. List Step) [ None ↦ [] | Some manager ↦ followed w (round_steps moment manager) (rounds left moment) ]) none

pub turn : (left moment : ℕ) (w : World) (manager : Manager) → next_manager w ≡ Some manager → rounds (suc left) moment w ≡ followed w (round_steps moment manager) (rounds left moment)
turn left moment w manager next =
    ap (λ next. elim next as (λ _. List Step) [ None ↦ [] | Some manager ↦ followed w (round_steps moment manager) (rounds left moment) ]) next

some_or_none : (n : ℕ) → (n ≡ 0) ⊎ ((m : ℕ) × (n ≡ suc m))
some_or_none zero = inl refl
some_or_none (suc m) = inr (m, refl)

-- as many rounds as what waits weighs leave nothing
pub empties : (left n moment : ℕ) (w : World) → 1 ≤ n → Keeps w n → row_at w.hands 1 ≡ None → weight_waiting w ≤ left → items_waiting (world_after w (rounds left moment w)) ≡ 0
empties zero n moment w some k free few = omega (arith, few, waiting_weighs w)
empties (suc left) n moment w some k free few = elim (some_or_none (items_waiting w)) [
  | inl none ↦
      let next : next_manager w ≡ None = none_next w managers (ap (sum_by length) (line_of_each w k.lines) ∙ none) in
      ap (λ steps. items_waiting (world_after w steps)) (stays left moment w next) ∙ none
  | inr more ↦
      let f = some_next n w more.0 k more.1 in
      let round = round_steps moment f.manager in
      let r = one_round n w moment f.manager f.first f.rest some k free f.there in
      ap (λ steps. items_waiting (world_after w steps)) (turn left moment w f.manager f.next)
      ∙ ap items_waiting (after_append w round (rounds left moment (world_after w round)))
      ∙ empties left n moment (world_after w round) some (kept_after n w round k) r.free (omega (arith, few, r.less))
]
