-- The events of all users, as the lists of one user change.
use Rattle.std.proofs.Common.{◌≡◌, ◌≢◌, ◌+◌, ◌-◌, ◌<◌, ◌≤◌, inl, inr, ℕ, suc, nat_eq, not, List, [], Contains, Some, None, length, map, get_or, set, slice_get, unwrap_or, refl, sym, ◌∙◌, ap, arith}
use Rattle.std.specs.FinMap as maps
use Rattle.std.specs.List.{IsDistinct}
use Rattle.std.specs.Prelude.{filter}
use Rattle.std.proofs.lemmas.Bool.Decides.{eqb_tells}
use Rattle.std.proofs.lemmas.List.{get_or-map, length-map, set-get_or}
use Rattle.std.proofs.lemmas.Option.{get_or_from_slice_get, slice_get-get_or, slice_get_within}
use Rattle.qx_types.specs.declared.limits.TheConstants.Limits.{PROCESSES}
use Rattle.qx_lists.specs.Table.{ContainsList, Table, nodes_of, with_nodes, without}
use Rattle.qx_lists.proofs.ListLemmas.{absent_without}
use Rattle.qx_lists.proofs.MapLemmas.{get-insert_same, get-insert_other, get-remove_other}
use Rattle.qx_lists.proofs.TableFacts.{kept_there}
use Rattle.qx_machine.specs.declared.rows.Event.{Event}
use Rattle.qx_machine.specs.declared.rows.Pulse.{Pulse}
use Rattle.qx_machine.specs.Events.{Events, disarmed, event_count, is_on, no_events}
use Rattle.qx_notify.specs.Events.{AreLimited, AllEvents, events_of, with_events}
use Rattle.qx_notify.specs.inner.Kept.{AreApart, IsList, KeepsLists, EventLists, Touched, armed_in, event_at, events_in, given, lists_at, lists_of, no_event, no_lists, pulses_in, pulse_taken, shown_events, unlinked}
use Rattle.qx_notify.proofs.EventLemmas.{limited-disarmed}
use Rattle.qx_notify.proofs.NodeLemmas.{Found, found, map-agree, map-each, map-one, none-found}

-- a list and what stands in it are as they were
pub record Same (t new : Table Event) (list : ℕ) : Type 0 where
  pub nodes : nodes_of new list ≡ nodes_of t list
  pub values : (node : ℕ) → Contains (nodes_of t list) node → maps.get new.values node ≡ maps.get t.values node

module _ (t new : Table Event) where
  same-map : {B : Type 0} (f : Event → B) (list : ℕ) → Same t new list → map (λ node. f (event_at new node)) (nodes_of new list) ≡ map (λ node. f (event_at t node)) (nodes_of t list)
  same-map f list same = ap (map (λ node. f (event_at new node))) same.nodes ∙ map-agree (λ node. f (event_at new node)) (λ node. f (event_at t node)) (nodes_of t list) (λ node at. ap (λ o. f (unwrap_or o no_event)) (same.values node at))

  pub same-armed : (list : ℕ) → Same t new list → map (event_at new) (nodes_of new list) ≡ map (event_at t) (nodes_of t list)
  same-armed list same = same-map (λ event. event) list same

  pub same-pulses : (list : ℕ) → Same t new list → pulses_in new list ≡ pulses_in t list
  same-pulses list same = same-map given list same

  pub same-events : (lists : EventLists) → ((number list : ℕ) → slice_get (lists_of lists) number ≡ Some list → Same t new list) → events_in new lists ≡ events_in t lists
  same-events lists same =
      let armed = same-armed lists.armed (same 0 lists.armed refl) in
      let pulses = map-each (pulses_in t) (pulses_in new) 0 lists.pulses (λ k within. same-pulses (get_or lists.pulses k 0) (same (suc k) _ (slice_get-get_or lists.pulses k 0 within))) in
      λ i. record { armed = armed i; pulses = pulses i }

pub same-then : (t mid new : Table Event) (list : ℕ) → Same t mid list → Same mid new list → Same t new list
same-then t mid new list first next = record {
  nodes = next.nodes ∙ first.nodes;
  values = λ node at. next.values node (rw first.nodes at) ∙ first.values node at;
}

-- the lists of all other users are as they were
pub record Changed (t new : Table Event) (all : List EventLists) (user : ℕ) : Type 0 where
  pub there : (list : ℕ) → ContainsList t list → ContainsList new list
  pub others : (other number list : ℕ) → other ≢ user → IsList all other number list → Same t new list

pub told-of : (t : Table Event) (all : List EventLists) (user : ℕ) → user < length all → events_of (shown_events t all) user ≡ events_in t (lists_at all user)
told-of t all user within = get_or-map (events_in t) all user no_lists no_events within

-- a user's events became these
abbrev pub became : Table Event → List EventLists → ℕ → Events → AllEvents
became t all user events = record { events = set (map (events_in t) all) user events; room = t.room + event_count (events_in t (lists_at all user)) - event_count events }

pub with-told : (t : Table Event) (all : List EventLists) (user : ℕ) → user < length all → (change : Events → Events) → with_events (shown_events t all) user (change (events_of (shown_events t all) user)) ≡ became t all user (change (events_in t (lists_at all user)))
with-told t all user within change = ap (λ e. record { events = set (map (events_in t) all) user (change e); room = t.room + event_count e - event_count (change e) }) (told-of t all user within)

-- nothing became of them
pub became-same : (t : Table Event) (all : List EventLists) (user : ℕ) → user < length all → shown_events t all ≡ became t all user (events_in t (lists_at all user))
became-same t all user within =
    let before = events_in t (lists_at all user) in
    let same_room : t.room ≡ t.room + event_count before - event_count before = omega arith in
    let same : map (events_in t) all ≡ set (map (events_in t) all) user before = sym (set-get_or (map (events_in t) all) user no_events) ∙ ap (set (map (events_in t) all) user) (told-of t all user within) in
    λ i. record { events = same i; room = same_room i }

module _ (t : Table Event) (all : List EventLists) (counts : List ℕ) (kept : KeepsLists t all counts) (user : ℕ) (within : user < length all) (new : Table Event) (changed : Changed t new all user) (events : Events) (own : events_in new (lists_at all user) ≡ events) where
  others-same : (other : ℕ) → other < length all → other ≢ user → events_in new (lists_at all other) ≡ events_in t (lists_at all other)
  others-same other at differs = same-events t new (lists_at all other) (λ number list is. changed.others other number list differs (record { within = at; is = is }))

  events-changed : map (events_in new) all ≡ set (map (events_in t) all) user events
  events-changed = map-one (events_in t) (events_in new) no_lists all user within others-same ∙ ap (set (map (events_in t) all) user) own

  pub told-changed : (change : Events → Events) → events ≡ change (events_in t (lists_at all user)) → new.room ≡ t.room + event_count (events_in t (lists_at all user)) - event_count events → shown_events new all ≡ with_events (shown_events t all) user (change (events_of (shown_events t all) user))
  told-changed change is room = told_new ∙ sym (with-told t all user within change ∙ ap (became t all user) (sym is))
    where
      told_new : shown_events new all ≡ became t all user events
      told_new = λ i. record { events = events-changed i; room = room i }

  pub kept-changed : AreLimited events → KeepsLists new all (set counts user (event_count events))
  kept-changed limited = record {
    there = λ other number list is. changed.there list (kept.there other number list is);
    apart = kept.apart;
    limited = λ other at. elim (eqb_tells other user) [
      | inl same ↦ rw (same.1, own) limited
      | inr differs ↦ rw (others-same other at differs.1) (kept.limited other at)
    ];
    counted =
        ap (λ c. set c user (event_count events)) kept.counted
        ∙ ap (λ e. set (map (λ lists. event_count (events_in t lists)) all) user (event_count e)) (sym own)
        ∙ sym (map-one (λ lists. event_count (events_in t lists)) (λ lists. event_count (events_in new lists)) no_lists all user within (λ other at differs. ap event_count (others-same other at differs)));
  }

-- ---- what one call makes of the lists

pub touched-same : (t new : Table Event) (list node : ℕ) → Touched t new list node → (other : ℕ) → other ≢ list → Same t new other
touched-same t new list node touched other differs = record {
  nodes = touched.nodes other differs;
  values = λ n at. touched.values n (λ same. touched.alone other differs (rw same at at));
}

module _ (t : Table Event) (list node : ℕ) (alone : (other : ℕ) → other ≢ list → Contains (nodes_of t other) node → ⊥) where
  -- the list has other nodes
  pub touched-nodes : (nodes : List ℕ) → Touched t (with_nodes t list nodes) list node
  touched-nodes nodes = record {
    there = λ other there. (kept_there t.lists list nodes other there).1;
    nodes = λ other differs. ap (λ o. unwrap_or o []) (get-insert_other t.lists list nodes other differs);
    values = λ other differs. refl;
    alone = alone;
  }

pub touched-then : (t mid new : Table Event) (list node : ℕ) → Touched t mid list node → Touched mid new list node → Touched t new list node
touched-then t mid new list node first next = record {
  there = λ other at. next.there other (first.there other at);
  nodes = λ other differs. next.nodes other differs ∙ first.nodes other differs;
  values = λ other differs. next.values other differs ∙ first.values other differs;
  alone = first.alone;
}

module _ (t : Table Event) (all : List EventLists) (counts : List ℕ) (kept : KeepsLists t all counts) (user : ℕ) (within : user < length all) where
  pub count-at : (d : ℕ) → get_or counts user d ≡ event_count (events_in t (lists_at all user))
  count-at d = ap (λ c. get_or c user d) kept.counted ∙ get_or-map (λ lists. event_count (events_in t lists)) all user no_lists d within

  pub count-of : (count : ℕ) → count ≡ get_or counts user count → count ≡ event_count (events_in t (lists_at all user))
  count-of count is = is ∙ count-at count

module _ (t : Table Event) (all : List EventLists) (apart : AreApart all) (user : ℕ) (within : user < length all) where
  abbrev own : EventLists
  own = lists_at all user

  abbrev events : Events
  events = events_in t own

  -- a list of the user was touched
  module _ (new : Table Event) (number list node : ℕ) (is : IsList all user number list) (touched : Touched t new list node) where
    pub touched-changed : Changed t new all user
    touched-changed = record {
      there = touched.there;
      others = λ other also at differs is_at. touched-same t new list node touched at (λ same. differs (apart other also user number list (rw same at is_at) is).0);
    }

    own-same : (also other : ℕ) → also ≢ number → slice_get (lists_of own) also ≡ Some other → Same t new other
    own-same also other differs is_at = let at : IsList all user also other = record { within = within; is = is_at } in touched-same t new list node touched other (λ same. differs (apart user also user number list (rw same at at) is).1)

  -- the armed events are others
  pub armed-events : (new : Table Event) (list node : ℕ) → list ≡ own.armed → Touched t new list node → (armed : List Event) → armed_in new list ≡ armed → events_in new own ≡ record events { armed = armed }
  armed-events new list node is touched armed are =
      let at : IsList all user 0 list = record { within = within; is = ap Some (sym is) } in
      let pulses = map-each (pulses_in t) (pulses_in new) 0 own.pulses (λ k here. same-pulses t new (get_or own.pulses k 0) (own-same new 0 list node at touched (suc k) (get_or own.pulses k 0) (omega arith) (slice_get-get_or own.pulses k 0 here))) in
      λ i. record { armed = (ap (armed_in new) (sym is) ∙ are) i; pulses = pulses i }

  -- the pulses of a process are others
  pub queue-events : (new : Table Event) (process list node : ℕ) → slice_get own.pulses process ≡ Some list → Touched t new list node → (queue : List Pulse) → pulses_in new list ≡ queue → events_in new own ≡ record events { pulses = set events.pulses process queue }
  queue-events new process list node is touched queue are =
      let at : IsList all user (suc process) list = record { within = within; is = is } in
      let here = slice_get_within own.pulses process list is in
      let armed = same-armed t new own.armed (own-same new (suc process) list node at touched 0 own.armed (omega arith) refl) in
      let pulses = map-one (pulses_in t) (pulses_in new) 0 own.pulses process here (λ k other differs. same-pulses t new (get_or own.pulses k 0) (own-same new (suc process) list node at touched (suc k) (get_or own.pulses k 0) (omega (arith, differs)) (slice_get-get_or own.pulses k 0 other))) in
      λ i. record { armed = armed i; pulses = (pulses ∙ ap (set events.pulses process) (ap (pulses_in new) (get_or_from_slice_get own.pulses process list 0 is) ∙ are)) i }

-- ---- a block's event goes

pub nodes-unlinked : (t : Table Event) (list node : ℕ) → nodes_of (unlinked t list node) list ≡ without node (nodes_of t list)
nodes-unlinked t list node = ap (λ o. unwrap_or o []) (get-insert_same t.lists list (without node (nodes_of t list)))

module _ (t : Table Event) (list node : ℕ) (alone : (other : ℕ) → other ≢ list → Contains (nodes_of t other) node → ⊥) where
  pub touched-taken : Touched t (pulse_taken t list node) list node
  touched-taken = record {
    there = λ other there. (kept_there t.lists list (without node (nodes_of t list)) other there).1;
    nodes = λ other differs. ap (λ o. unwrap_or o []) (get-insert_other t.lists list (without node (nodes_of t list)) other differs);
    values = λ other differs. get-remove_other t.values node other differs;
    alone = alone;
  }

  pub left-taken : {B : Type 0} (f : Event → B) → map (λ n. f (event_at (pulse_taken t list node) n)) (nodes_of (pulse_taken t list node) list) ≡ map (λ n. f (event_at t n)) (without node (nodes_of t list))
  left-taken f = ap (map (λ n. f (event_at (pulse_taken t list node) n))) (nodes-unlinked t list node) ∙ map-agree (λ n. f (event_at (pulse_taken t list node) n)) (λ n. f (event_at t n)) (without node (nodes_of t list)) (λ n at. ap (λ o. f (unwrap_or o no_event)) (get-remove_other t.values node n (λ same. absent_without node (nodes_of t list) (rw same at at))))

pub alone-from : (t : Table Event) → ((one two node : ℕ) → Contains (nodes_of t one) node → Contains (nodes_of t two) node → one ≡ two) → (list node : ℕ) → Contains (nodes_of t list) node → (other : ℕ) → other ≢ list → Contains (nodes_of t other) node → ⊥
alone-from t apart list node here other differs there = differs (apart other list node there here)

module _ (t : Table Event) (all : List EventLists) (counts : List ℕ) (kept : KeepsLists t all counts) (user : ℕ) (within : user < length all) (list : ℕ) (is : list ≡ (lists_at all user).armed) (block : ℕ) where
  abbrev before : Events
  before = events_in t (lists_at all user)

  -- what a disarming comes to
  pub record Disarms (new : Table Event) (count : ℕ) : Type 0 where
    pub told_is : shown_events new all ≡ with_events (shown_events t all) user (disarmed block (events_of (shown_events t all) user))
    pub kept_is : KeepsLists new all (set counts user (count - 1))
    pub some : 1 ≤ count

  pub block-found : (node : ℕ) → ((list : ℕ) → IsDistinct nat_eq (nodes_of t list)) → slice_get (filter (λ n. is_on block (event_at t n)) (nodes_of t list)) 0 ≡ Some node → Found (event_at t) block (nodes_of t list) node
  block-found node distinct first = found (event_at t) block (nodes_of t list) node (distinct list) first (rw is ((kept.limited user within).once block))

  pub disarms : (node count : ℕ) → ((list : ℕ) → IsDistinct nat_eq (nodes_of t list)) → ((one two node : ℕ) → Contains (nodes_of t one) node → Contains (nodes_of t two) node → one ≡ two) → slice_get (filter (λ n. is_on block (event_at t n)) (nodes_of t list)) 0 ≡ Some node → count ≡ get_or counts user count → Disarms (pulse_taken t list node) count
  disarms node count distinct apart first count_is =
      let one = block-found node distinct first in
      let new = pulse_taken t list node in
      let alone = alone-from t apart list node one.there in
      let touched = touched-taken t list node alone in
      let at : IsList all user 0 list = record { within = within; is = ap Some (sym is) } in
      let changed = touched-changed t all kept.apart user within new 0 list node at touched in
      let armed : armed_in new list ≡ (disarmed block before).armed = left-taken t list node alone (λ event. event) ∙ one.rest ∙ ap (λ l. filter (λ event. not (is_on block event)) (armed_in t l)) is in
      let own_is : events_in new (lists_at all user) ≡ disarmed block before = armed-events t all kept.apart user within new list node is touched _ armed in
      let counted = count-of t all counts kept user within count count_is in
      let less : length (disarmed block before).armed + 1 ≡ length before.armed = ap (λ l. length (filter (λ event. not (is_on block event)) (armed_in t l)) + 1) (sym is) ∙ one.fewer ∙ ap (λ l. length (armed_in t l)) is in
      let fewer : event_count (disarmed block before) + 1 ≡ event_count before = omega (arith, less) in
      record {
        told_is = told-changed t all counts kept user within new changed (disarmed block before) own_is (disarmed block) refl (omega (arith, fewer));
        kept_is = rw (let less : count - 1 ≡ event_count (disarmed block before) = omega (arith, fewer, counted) in less) (kept-changed t all counts kept user within new changed (disarmed block before) own_is (limited-disarmed block before (kept.limited user within)));
        some = omega (arith, fewer, counted);
      }

  -- nothing to disarm
  pub nothing-disarmed : slice_get (filter (λ n. is_on block (event_at t n)) (nodes_of t list)) 0 ≡ None → shown_events t all ≡ with_events (shown_events t all) user (disarmed block (events_of (shown_events t all) user))
  nothing-disarmed none =
      let armed : before.armed ≡ (disarmed block before).armed = ap (armed_in t) (sym is) ∙ sym (none-found (event_at t) block (nodes_of t list) none) ∙ ap (λ l. filter (λ event. not (is_on block event)) (armed_in t l)) is in
      let same : before ≡ disarmed block before = λ i. record { armed = armed i; pulses = before.pulses } in
      became-same t all user within ∙ ap (became t all user) same ∙ sym (with-told t all user within (disarmed block))

-- more room
pub kept-reserved : (t new : Table Event) (all : List EventLists) (counts : List ℕ) (room : ℕ) → new ≡ record t { room = room } → KeepsLists t all counts → KeepsLists new all counts
kept-reserved t new all counts room is kept = rw is (record { there = kept.there; apart = kept.apart; limited = kept.limited; counted = kept.counted })

-- each process that may be has a list
pub process-within : (t : Table Event) (all : List EventLists) (counts : List ℕ) → KeepsLists t all counts → (user : ℕ) → user < length all → (process : ℕ) → process ≤ PROCESSES → process < length (lists_at all user).pulses
process-within t all counts kept user within process few = omega (arith, (kept.limited user within).places, length-map (lists_at all user).pulses (pulses_in t), few)

-- a user whose events are told has lists
pub within-told : (t : Table Event) (all : List EventLists) (user : ℕ) (now : AllEvents) → shown_events t all ≡ now → user < length now.events → user < length all
within-told t all user now is within = let same : length (map (events_in t) all) ≡ length now.events = ap (λ v. length v.events) is in omega (arith, same, length-map all (events_in t))

-- the list of a user's armed events, as a call finds it
pub record ArmedList (t : Table Event) (all : List EventLists) (user list : ℕ) : Type 0 where
  pub within : user < length all
  pub is : list ≡ (lists_at all user).armed
  pub there : ContainsList t list

pub armed-list : (t : Table Event) (all : List EventLists) (counts : List ℕ) → KeepsLists t all counts → (user : ℕ) (now : AllEvents) → shown_events t all ≡ now → user < length now.events → (slice : List EventLists) → slice ≡ all → (list : ℕ) → list ≡ (lists_at slice user).armed → ArmedList t all user list
armed-list t all counts kept user now told_is within slice slice_is list list_is =
    let here = within-told t all user now told_is within in
    let is = list_is ∙ ap (λ lists. (lists_at lists user).armed) slice_is in
    record { within = here; is = is; there = kept.there user 0 list (record { within = here; is = ap Some (sym is) }) }
