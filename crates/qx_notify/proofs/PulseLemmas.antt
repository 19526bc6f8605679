-- Pulses are taken.
use Rattle.std.proofs.Common.{◌≡◌, ◌+◌, ◌-◌, ◌<◌, ◌≤◌, ℕ, suc, nat_eq, List, [], ◌∷◌, Contains, Option, Some, None, drop, is_some, length, map, get_or, option_map, set, slice_get, unwrap_or, refl, sym, ◌∙◌, ap, arith}
use Rattle.std.specs.List.{IsDistinct}
use Rattle.std.proofs.lemmas.List.{drop-map, length-map, set-get_or}
use Rattle.std.proofs.lemmas.Option.{slice_get-map, slice_get_within}
use Rattle.qx_types.specs.declared.limits.TheConstants.Limits.{PROCESSES}
use Rattle.qx_lists.specs.Table.{ContainsList, Table, nodes_of}
use Rattle.qx_lists.proofs.ListLemmas.{contains_slice_first, none_first, without-first}
use Rattle.qx_machine.specs.declared.rows.Event.{Event}
use Rattle.qx_machine.specs.Events.{Events, event_count, first_pulse, without_first_pulse}
use Rattle.qx_isolation.specs.Lines.{line_at}
use Rattle.qx_notify.specs.Events.{AllEvents, events_of, with_events}
use Rattle.qx_notify.specs.inner.Kept.{IsList, KeepsLists, EventLists, event_at, events_in, given, lists_at, pulses_in, pulse_taken, shown_events}
use Rattle.qx_notify.proofs.EventLemmas.{limited-queue, line_at-get, queue-count}
use Rattle.qx_notify.proofs.KeptLemmas.{alone-from, became, became-same, count-of, kept-changed, left-taken, queue-events, told-changed, told-of, touched-changed, touched-taken, with-told, within-told}

drop-one : {A : Type 0} (xs : List A) → 1 ≤ length xs → length (drop 1 xs) + 1 ≡ length xs
drop-one [] some = absurd (omega (arith, some))
drop-one (x ∷ xs) some = omega arith

-- the queue of a process is told by its list
pub queue-line : (t : Table Event) (lists : EventLists) (process list : ℕ) → slice_get lists.pulses process ≡ Some list → line_at (events_in t lists).pulses process ≡ pulses_in t list
queue-line t lists process list is = ap (λ o. unwrap_or o []) (slice_get-map (pulses_in t) lists.pulses process ∙ ap (option_map (pulses_in t)) is)

module _ (t : Table Event) (all : List EventLists) (counts : List ℕ) (kept : KeepsLists t all counts) (user : ℕ) (within : user < length all) (process list : ℕ) (is : slice_get (lists_at all user).pulses process ≡ Some list) where
  abbrev before : Events
  before = events_in t (lists_at all user)

  pub pulses-list : IsList all user (suc process) list
  pulses-list = record { within = within; is = is }

  line : line_at before.pulses process ≡ pulses_in t list
  line = queue-line t (lists_at all user) process list is

  -- the first pulse is that of the first node
  pub first-is : first_pulse process (events_of (shown_events t all) user) ≡ option_map (λ node. given (event_at t node)) (slice_get (nodes_of t list) 0)
  first-is = ap (first_pulse process) (told-of t all user within) ∙ ap (λ queue. slice_get queue 0) line ∙ slice_get-map (λ node. given (event_at t node)) (nodes_of t list) 0

  pub record Takes (new : Table Event) (count : ℕ) : Type 0 where
    pub told_is : shown_events new all ≡ with_events (shown_events t all) user (without_first_pulse process (events_of (shown_events t all) user))
    pub kept_is : KeepsLists new all (set counts user (count - 1))
    pub some : 1 ≤ count

  pub takes : (node count : ℕ) → ((list : ℕ) → IsDistinct nat_eq (nodes_of t list)) → ((one two node : ℕ) → Contains (nodes_of t one) node → Contains (nodes_of t two) node → one ≡ two) → slice_get (nodes_of t list) 0 ≡ Some node → count ≡ get_or counts user count → Takes (pulse_taken t list node) count
  takes node count distinct apart first count_is =
      let limits = kept.limited user within in
      let within_process = slice_get_within (lists_at all user).pulses process list is in
      let here : process < length before.pulses = omega (arith, within_process, length-map (lists_at all user).pulses (pulses_in t)) in
      let few : process ≤ PROCESSES = omega (arith, here, limits.places) in
      let new = pulse_taken t list node in
      let alone = alone-from t apart list node (contains_slice_first (nodes_of t list) node first) in
      let touched = touched-taken t list node alone in
      let changed = touched-changed t all kept.apart user within new (suc process) list node pulses-list touched in
      let queue : pulses_in new list ≡ drop 1 (line_at before.pulses process) =
      left-taken t list node alone given ∙ ap (map (λ n. given (event_at t n))) (without-first (nodes_of t list) node (distinct list) first) ∙ sym (drop-map (λ n. given (event_at t n)) 1 (nodes_of t list)) ∙ ap (drop 1) (sym line) in
      let own_is : events_in new (lists_at all user) ≡ without_first_pulse process before = queue-events t all kept.apart user within new process list node is touched (drop 1 (line_at before.pulses process)) queue in
      let some : 1 ≤ length (line_at before.pulses process) = rw line (let one : 1 ≤ length (nodes_of t list) = slice_get_within (nodes_of t list) 0 node first in omega (arith, length-map (nodes_of t list) (λ n. given (event_at t n)))) in
      let one_less : length (drop 1 (line_at before.pulses process)) + 1 ≡ length (line_at before.pulses process) = drop-one (line_at before.pulses process) some in
      let fewer : event_count (without_first_pulse process before) + 1 ≡ event_count before = omega (arith, queue-count before.pulses process (drop 1) here, one_less) in
      let counted = count-of t all counts kept user within count count_is in
      record {
        told_is = told-changed t all counts kept user within new changed (without_first_pulse process before) own_is (without_first_pulse process) refl (omega (arith, fewer));
        kept_is = rw (let less : count - 1 ≡ event_count (without_first_pulse process before) = omega (arith, fewer, counted) in less) (kept-changed t all counts kept user within new changed (without_first_pulse process before) own_is (limited-queue before process (drop 1) few limits (omega (arith, one_less))));
        some = omega (arith, fewer, counted);
      }

  -- there is none
  pub takes-none : slice_get (nodes_of t list) 0 ≡ None → shown_events t all ≡ with_events (shown_events t all) user (without_first_pulse process (events_of (shown_events t all) user))
  takes-none none =
      let empty : line_at before.pulses process ≡ [] = line ∙ ap (map (λ n. given (event_at t n))) (none_first (nodes_of t list) none) in
      let pulses : before.pulses ≡ (without_first_pulse process before).pulses = sym (set-get_or before.pulses process []) ∙ ap (set before.pulses process) (sym (line_at-get before.pulses process) ∙ empty ∙ ap (drop 1) (sym empty)) in
      let same : before ≡ without_first_pulse process before = λ i. record { armed = before.armed; pulses = pulses i } in
      became-same t all user within ∙ ap (became t all user) same ∙ sym (with-told t all user within (without_first_pulse process))

pub any-pulse : {A B : Type 0} (f : A → B) (first : Option A) → is_some first ≡ is_some (option_map f first)
any-pulse f None = refl
any-pulse f (Some first) = refl

-- the list of a process' pulses, as a call finds it
pub record QueueList (t : Table Event) (all : List EventLists) (user process list : ℕ) : Type 0 where
  pub within : user < length all
  pub is : slice_get (lists_at all user).pulses process ≡ Some list
  pub there : ContainsList t list

pub queue-list : (t : Table Event) (all : List EventLists) (counts : List ℕ) → KeepsLists t all counts → (user : ℕ) (now : AllEvents) → shown_events t all ≡ now → user < length now.events → (slice : List EventLists) → slice ≡ all → (process list : ℕ) → slice_get (lists_at slice user).pulses process ≡ Some list → QueueList t all user process list
queue-list t all counts kept user now told_is within slice slice_is process list list_is =
    let here = within-told t all user now told_is within in
    let is = ap (λ lists. slice_get (lists_at lists user).pulses process) (sym slice_is) ∙ list_is in
    record { within = here; is = is; there = kept.there user (suc process) list (record { within = here; is = is }) }
