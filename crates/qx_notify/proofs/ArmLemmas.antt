-- An event is armed.
use Rattle.std.proofs.Common.{◌≡◌, ◌+◌, ◌-◌, ◌<◌, ◌≤◌, ◌++◌, inl, inr, ℕ, true, false, nat_eq, not, List, [], ◌∷◌, Contains, Ok, Err, Some, None, length, length-append, map, get_or, set, slice_get, refl, sym, ◌∙◌, ap, arith}
use Rattle.std.specs.Prelude.{filter, nat_lt}
use Rattle.std.specs.List.{IsDistinct, list_any}
use Rattle.std.proofs.lemmas.Bool.{cases_Bool}
use Rattle.std.proofs.lemmas.Bool.Decides.{nat_tests}
use Rattle.std.proofs.lemmas.List.{set-get_or}
use Rattle.qx_base.specs.declared.errno.Errno.TheVariants.{EAGAIN}
use Rattle.qx_types.specs.declared.limits.TheConstants.Limits.{EVENTS, PROCESSES}
use Rattle.qx_lists.specs.Table.{Table, nodes_of}
use Rattle.qx_machine.specs.declared.rows.Event.{Event}
use Rattle.qx_machine.specs.Events.{Events, arm_event, armed_anew, disarmed, event_count, is_on}
use Rattle.qx_notify.specs.Events.{AllEvents, armed_outcome, events_after, events_of, wants_node}
use Rattle.qx_notify.specs.inner.Kept.{IsList, KeepsLists, EventLists, Put, Touched, armed_in, event_at, events_in, lists_at, shown_events, unlinked}
use Rattle.qx_notify.proofs.EventLemmas.{limited-armed}
use Rattle.qx_notify.proofs.KeptLemmas.{alone-from, armed-events, count-at, count-of, kept-changed, nodes-unlinked, told-changed, told-of, touched-changed, touched-nodes, touched-then}
use Rattle.qx_notify.proofs.NodeLemmas.{found, none-found}
use Rattle.qx_notify.proofs.PutLemmas.{put-events}

module _ (most : ℕ) (event : Event) (events : Events) where
  pub arm-few : event_count (disarmed event.block events) < most → arm_event most event events ≡ Ok (armed_anew event events)
  arm-few few = let test : nat_lt (event_count (disarmed event.block events)) most ≡ true = grind (arith, nat_tests) in rw test refl

  pub arm-full : most ≤ event_count (disarmed event.block events) → arm_event most event events ≡ Err EAGAIN
  arm-full full = let test : nat_lt (event_count (disarmed event.block events)) most ≡ false = grind (arith, nat_tests) in rw test refl

none-any : (f : ℕ → Event) (block : ℕ) (nodes : List ℕ) → slice_get (filter (λ n. is_on block (f n)) nodes) 0 ≡ None → list_any (is_on block) (map f nodes) ≡ false
none-any f block [] none = refl
none-any f block (x ∷ xs) none = elim (cases_Bool (is_on block (f x))) [
  | inl is ↦ let clash : Some x ≡ None = rw is at none in absurd (cc)
  | inr not ↦ rw not (none-any f block xs (rw not at none))
]

module _ (t : Table Event) (all : List EventLists) (counts : List ℕ) (kept : KeepsLists t all counts) (user : ℕ) (within : user < length all) (list : ℕ) (is : list ≡ (lists_at all user).armed) (most : ℕ) (few_of : most ≤ EVENTS) (event : Event) where
  abbrev before : Events
  before = events_in t (lists_at all user)

  abbrev judged : AllEvents → AllEvents
  judged now = events_after now user (arm_event most event (events_of now user))

  -- what an arming comes to
  pub record Arms (new : Table Event) (all_counts : List ℕ) : Type 0 where
    pub told_is : shown_events new all ≡ events_after (shown_events t all) user (arm_event most event (events_of (shown_events t all) user))
    pub kept_is : KeepsLists new all all_counts
    pub done_is : Ok tt ≡ armed_outcome (arm_event most event (events_of (shown_events t all) user))

  few-told : event_count (disarmed event.block before) < most → arm_event most event (events_of (shown_events t all) user) ≡ Ok (armed_anew event (events_of (shown_events t all) user))
  few-told few = arm-few most event (events_of (shown_events t all) user) (rw (ap (λ e. event_count (disarmed event.block e)) (told-of t all user within)) few)

  arms : (new : Table Event) (node : ℕ) (all_counts : List ℕ) → event.process ≤ PROCESSES → event_count (disarmed event.block before) < most → Touched t new list node → armed_in new list ≡ (armed_anew event before).armed → new.room ≡ t.room + event_count before - event_count (armed_anew event before) → all_counts ≡ set counts user (event_count (armed_anew event before)) → Arms new all_counts
  arms new node all_counts process few touched armed room counted =
      let at : IsList all user 0 list = record { within = within; is = ap Some (sym is) } in
      let changed = touched-changed t all kept.apart user within new 0 list node at touched in
      let own_is : events_in new (lists_at all user) ≡ armed_anew event before = armed-events t all kept.apart user within new list node is touched (armed_anew event before).armed armed in
      let few_is = few-told few in
      record {
        told_is = told-changed t all counts kept user within new changed (armed_anew event before) own_is (armed_anew event) refl room ∙ ap (events_after (shown_events t all) user) (sym few_is);
        kept_is = rw counted (kept-changed t all counts kept user within new changed (armed_anew event before) own_is (limited-armed event before (kept.limited user within) process (omega (arith, few, few_of))));
        done_is = ap armed_outcome (sym few_is);
      }

  -- the event of the block gives its node
  pub rearms : (node : ℕ) (new : Table Event) → ((list : ℕ) → IsDistinct nat_eq (nodes_of t list)) → ((one two node : ℕ) → Contains (nodes_of t one) node → Contains (nodes_of t two) node → one ≡ two) → slice_get (filter (λ n. is_on event.block (event_at t n)) (nodes_of t list)) 0 ≡ Some node → event.process ≤ PROCESSES → Put (unlinked t list node) new list node event → new.room ≡ t.room → (count : ℕ) → count ≡ get_or counts user count → count ≤ most → Arms new counts
  rearms node new distinct apart first process put room count count_is few =
      let limits = kept.limited user within in
      let one = found (event_at t) event.block (nodes_of t list) node (distinct list) first (rw is (limits.once event.block)) in
      let touched = touched-then t (unlinked t list node) new list node (touched-nodes t list node (alone-from t apart list node one.there) _) put.touched in
      let left : (disarmed event.block before).armed ≡ filter (λ other. not (is_on event.block other)) (armed_in t list) = ap (λ l. filter (λ other. not (is_on event.block other)) (armed_in t l)) (sym is) in
      let armed : armed_in new list ≡ (armed_anew event before).armed = put-events (λ e. e) (unlinked t list node) new list node event put ∙ ap (λ es. es ++ event ∷ []) (ap (map (event_at t)) (nodes-unlinked t list node) ∙ one.rest ∙ sym left) in
      let less : length (disarmed event.block before).armed + 1 ≡ length before.armed = ap (λ es. length es + 1) left ∙ one.fewer ∙ ap (λ l. length (armed_in t l)) is in
      let same : event_count (armed_anew event before) ≡ event_count before = omega (arith, length-append (disarmed event.block before).armed (event ∷ []), less) in
      arms new node counts process (let counted = count-of t all counts kept user within count count_is in omega (arith, counted, few, less)) touched armed (omega (arith, same, room)) (sym (ap (set counts user) (same ∙ sym (count-at t all counts kept user within 0)) ∙ set-get_or counts user 0))

  -- a new node is made
  pub arms-new : (node count : ℕ) (new : Table Event) → slice_get (filter (λ n. is_on event.block (event_at t n)) (nodes_of t list)) 0 ≡ None → event.process ≤ PROCESSES → Put t new list node event → new.room ≡ t.room - 1 → count ≡ get_or counts user count → count < most → Arms new (set counts user (count + 1))
  arms-new node count new none process put room count_is few =
      let counted = count-of t all counts kept user within count count_is in
      let left : (disarmed event.block before).armed ≡ armed_in t list = ap (λ l. filter (λ other. not (is_on event.block other)) (armed_in t l)) (sym is) ∙ none-found (event_at t) event.block (nodes_of t list) none in
      let same : length (disarmed event.block before).armed ≡ length before.armed = ap length left ∙ ap (λ l. length (armed_in t l)) is in
      let armed : armed_in new list ≡ (armed_anew event before).armed = put-events (λ e. e) t new list node event put ∙ ap (λ es. es ++ event ∷ []) (sym left) in
      let more : event_count (armed_anew event before) ≡ count + 1 = omega (arith, length-append (disarmed event.block before).armed (event ∷ []), same, counted) in
      arms new node (set counts user (count + 1)) process (omega (arith, same, counted, few)) put.touched armed (omega (arith, more, room, counted)) (ap (set counts user) (sym more))

  -- there are too many
  pub record Full : Type 0 where
    pub told_is : shown_events t all ≡ events_after (shown_events t all) user (arm_event most event (events_of (shown_events t all) user))
    pub done_is : Err EAGAIN ≡ armed_outcome (arm_event most event (events_of (shown_events t all) user))

  pub arms-none : (count : ℕ) → slice_get (filter (λ n. is_on event.block (event_at t n)) (nodes_of t list)) 0 ≡ None → count ≡ get_or counts user count → most ≤ count → Full
  arms-none count none count_is full =
      let counted = count-of t all counts kept user within count count_is in
      let left : (disarmed event.block before).armed ≡ armed_in t list = ap (λ l. filter (λ other. not (is_on event.block other)) (armed_in t l)) (sym is) ∙ none-found (event_at t) event.block (nodes_of t list) none in
      let same : length (disarmed event.block before).armed ≡ length before.armed = ap length left ∙ ap (λ l. length (armed_in t l)) is in
      let full_is = arm-full most event (events_of (shown_events t all) user) (rw (ap (λ e. event_count (disarmed event.block e)) (told-of t all user within)) (omega (arith, full, counted, same))) in
      record { told_is = ap (events_after (shown_events t all) user) (sym full_is); done_is = ap armed_outcome (sym full_is) }

  -- there are too many beside the one of the block
  pub rearms-none : (node count : ℕ) → ((list : ℕ) → IsDistinct nat_eq (nodes_of t list)) → slice_get (filter (λ n. is_on event.block (event_at t n)) (nodes_of t list)) 0 ≡ Some node → count ≡ get_or counts user count → most < count → Full
  rearms-none node count distinct first count_is full =
      let counted = count-of t all counts kept user within count count_is in
      let one = found (event_at t) event.block (nodes_of t list) node (distinct list) first (rw is ((kept.limited user within).once event.block)) in
      let left : (disarmed event.block before).armed ≡ filter (λ other. not (is_on event.block other)) (armed_in t list) = ap (λ l. filter (λ other. not (is_on event.block other)) (armed_in t l)) (sym is) in
      let less : length (disarmed event.block before).armed + 1 ≡ length before.armed = ap (λ es. length es + 1) left ∙ one.fewer ∙ ap (λ l. length (armed_in t l)) is in
      let full_is = arm-full most event (events_of (shown_events t all) user) (rw (ap (λ e. event_count (disarmed event.block e)) (told-of t all user within)) (omega (arith, full, counted, less))) in
      record { told_is = ap (events_after (shown_events t all) user) (sym full_is); done_is = ap armed_outcome (sym full_is) }

  -- it was to be a node more
  pub wanted-node : (count : ℕ) → slice_get (filter (λ n. is_on event.block (event_at t n)) (nodes_of t list)) 0 ≡ None → count ≡ get_or counts user count → count < most → wants_node most event (events_of (shown_events t all) user) ≡ true
  wanted-node count none count_is few =
      let counted = count-of t all counts kept user within count count_is in
      let nobody : list_any (is_on event.block) before.armed ≡ false = ap (λ l. list_any (is_on event.block) (armed_in t l)) (sym is) ∙ none-any (event_at t) event.block (nodes_of t list) none in
      let test : nat_lt (event_count before) most ≡ true = grind (arith, nat_tests) in
      ap (wants_node most event) (told-of t all user within) ∙ rw (nobody, test) refl
