-- Armed events that are due give their pulses, or go where their processes do not live.
use Rattle.std.proofs.Common.{◌≡◌, ◌≢◌, ◌+◌, ◌-◌, ◌<◌, ◌≤◌, ◌++◌, ℕ, suc, nat_eq, Bool, true, false, not, List, [], ◌∷◌, append_assoc, Contains, Option, Some, None, length, length-append, map, get_or, get_or-set_same, set, slice_get, subst, unwrap_or, refl, sym, ◌∙◌, ap, ap₂, arith}
use Rattle.std.specs.List.{AllByRecursion, IsDistinct}
use Rattle.std.specs.Prelude.{◌&&◌, filter, sum_by}
use Rattle.std.proofs.lemmas.Bool.Decides.{nat_tests}
use Rattle.std.proofs.lemmas.List.{append-nil, length-map, map-append, set-get_or, set-set}
use Rattle.std.proofs.lemmas.Option.{slice_get_within}
use Rattle.std.proofs.lemmas.List.Elements.{Contains-append_left, Contains-append_right}
use Rattle.qx_types.specs.declared.fields.PulseValue.TheVariants.{Bits64}
use Rattle.qx_types.specs.declared.limits.TheConstants.Limits.{PROCESSES}
use Rattle.qx_lists.specs.Table.{Table, next_after, nodes_of, without}
use Rattle.qx_lists.proofs.ListLemmas.{absent_without, contains_first, contains_later, none_first}
use Rattle.qx_lists.proofs.MapLemmas.{get-remove_other}
use Rattle.qx_lists.proofs.WalkLemmas.{nodes_from, without-absent}
use Rattle.qx_machine.specs.declared.rows.Conditions.{Conditions}
use Rattle.qx_machine.specs.declared.rows.Event.{Event}
use Rattle.qx_machine.specs.declared.rows.Pulse.{Pulse}
use Rattle.qx_machine.specs.Events.{event_count, is_due, pulse_of, triggered, with_pulse, with_pulses}
use Rattle.qx_isolation.specs.Lines.{line_at}
use Rattle.qx_notify.specs.Events.{events_of, with_events}
use Rattle.qx_notify.specs.inner.Kept.{AreApart, IsList, KeepsLists, EventLists, Put, Touched, armed_in, event_at, events_in, given, lists_at, no_event, pulse_taken, pulses_in, shown_events, unlinked}
use Rattle.qx_notify.proofs.EventLemmas.{limited-triggered, pulse-count}
use Rattle.qx_notify.proofs.KeptLemmas.{Changed, armed-events, alone-from, count-at, kept-changed, nodes-unlinked, queue-events, same-then, told-changed, touched-changed, touched-nodes, touched-taken, ArmedList}
use Rattle.qx_notify.proofs.NodeLemmas.{map-agree}
use Rattle.qx_notify.proofs.PulseLemmas.{queue-line}
use Rattle.qx_notify.proofs.PutLemmas.{put-events}

-- ---- lists of nodes that differ

module _ (x : ℕ) where
  absent-middle : (y : ℕ) (front back : List ℕ) → AllByRecursion (λ z. nat_eq y z ≡ false) (front ++ x ∷ back) → nat_eq y x ≡ false
  absent-middle y [] back all = all.0
  absent-middle y (z ∷ zs) back all = absent-middle y zs back all.1

  -- a node in the middle is at no other place
  pub record Middle (front back : List ℕ) : Type 0 where
    pub next : next_after x (front ++ x ∷ back) ≡ slice_get back 0
    pub gone : without x (front ++ x ∷ back) ≡ front ++ back
    pub rest : nodes_from (Some x) (front ++ x ∷ back) ≡ x ∷ back

  pub middle : (front back : List ℕ) → IsDistinct nat_eq (front ++ x ∷ back) → Middle front back
  unfolding IsDistinct
  middle [] back distinct = let itself : nat_eq x x ≡ true = grind (arith, nat_tests) in record { next = rw itself refl; gone = rw itself (without-absent x back distinct.0); rest = rw itself refl }
  middle (y ∷ ys) back distinct =
      let other = absent-middle y ys back distinct.0 in
      let later = middle ys back distinct.1 in
      record { next = rw other later.next; gone = rw other (ap (λ zs. y ∷ zs) later.gone); rest = rw other later.rest }

pub contains-middle : (front : List ℕ) (x : ℕ) (back : List ℕ) → Contains (front ++ x ∷ back) x
contains-middle [] x back = contains_first x back
contains-middle (y ∷ ys) x back = contains_later y x (ys ++ x ∷ back) (contains-middle ys x back)

-- the nodes from the next one on are the rest
pub rest-from : (front rest : List ℕ) → IsDistinct nat_eq (front ++ rest) → nodes_from (slice_get rest 0) (front ++ rest) ≡ rest
rest-from front [] distinct = refl
rest-from front (x ∷ back) distinct = (middle x front back distinct).rest

all-without : (P : ℕ → Type 0) (front : List ℕ) (x : ℕ) (back : List ℕ) → AllByRecursion P (front ++ x ∷ back) → AllByRecursion P (front ++ back)
all-without P [] x back all = all.1
all-without P (y ∷ ys) x back all = (all.0, all-without P ys x back all.1)

distinct-without : (front : List ℕ) (x : ℕ) (back : List ℕ) → IsDistinct nat_eq (front ++ x ∷ back) → IsDistinct nat_eq (front ++ back)
unfolding IsDistinct
distinct-without [] x back distinct = distinct.1
distinct-without (y ∷ ys) x back distinct = (all-without (λ z. nat_eq y z ≡ false) ys x back distinct.0, distinct-without ys x back distinct.1)

-- fewer nodes are left behind a node, whether it stays or goes
pub record Shorter (front : List ℕ) (x : ℕ) (back : List ℕ) : Type 0 where
  pub stays : length (nodes_from (slice_get back 0) (front ++ x ∷ back)) < length (nodes_from (Some x) (front ++ x ∷ back))
  pub goes : length (nodes_from (slice_get back 0) (front ++ back)) < length (nodes_from (Some x) (front ++ x ∷ back))

pub shorter : (front : List ℕ) (x : ℕ) (back : List ℕ) → IsDistinct nat_eq (front ++ x ∷ back) → Shorter front x back
shorter front x back distinct =
    let whole = ap length (middle x front back distinct).rest in
    let behind : length (nodes_from (slice_get back 0) (front ++ x ∷ back)) ≡ length back = ap (λ xs. length (nodes_from (slice_get back 0) xs)) (sym (append_assoc front (x ∷ []) back)) ∙ ap length (rest-from (front ++ x ∷ []) back (rw append_assoc distinct)) in
    let after = ap length (rest-from front back (distinct-without front x back distinct)) in
    record { stays = omega (arith, whole, behind); goes = omega (arith, whole, after) }

module _ (gives : Event → Bool) (after : ℕ → Conditions) (event : Event) (events : List Event) (pulses : List (List Pulse)) where
  with-given : gives event ≡ true → with_pulses gives after (event ∷ events) pulses ≡ with_pulses gives after events (with_pulse event.process (pulse_of event (after event.block)) pulses)
  with-given is = rw is refl

  with-other : gives event ≡ false → with_pulses gives after (event ∷ events) pulses ≡ with_pulses gives after events pulses
  with-other is = rw is refl

-- the pulse of an event, by what its node carries then
pub pulse-told : (after : ℕ → Conditions) (own event : Event) (holding : Conditions) (value : ℕ) → own ≡ event → value ≡ (pulse_of event holding).value → holding ≡ after event.block → given (record event { value = Bits64 value }) ≡ pulse_of own (after own.block)
pulse-told after own event holding value same value_is holding_is =
    let all : value ≡ (pulse_of event (after event.block)).value = value_is ∙ ap (λ h. (pulse_of event h).value) holding_is in
    let told_is : given (record event { value = Bits64 value }) ≡ pulse_of event (after event.block) = λ i. record { code = event.code; value = all i } in
    rw same told_is

-- the first of the rest, and those behind it
pub record Headed (rest : List ℕ) (node : ℕ) : Type 0 where
  pub back : List ℕ
  pub is : rest ≡ node ∷ back

pub headed : (rest : List ℕ) (node : ℕ) → slice_get rest 0 ≡ Some node → Headed rest node
headed [] node is = let clash : None ≡ Some node = is in absurd (cc)
headed (x ∷ back) node is = let same : x ≡ node = cc in record { back = back; is = ap (λ y. y ∷ back) same }

changed-none : (t : Table Event) (all : List EventLists) (user : ℕ) → Changed t t all user
changed-none t all user = record { there = λ list there. there; others = λ other number list differs is. record { nodes = refl; values = λ node at. refl } }

changed-then : (t mid new : Table Event) (all : List EventLists) (user : ℕ) → Changed t mid all user → Changed mid new all user → Changed t new all user
changed-then t mid new all user first next = record {
  there = λ list there. next.there list (first.there list there);
  others = λ other number list differs is. same-then t mid new list (first.others other number list differs is) (next.others other number list differs is);
}

-- ---- what is left to do

module _ (lives : ℕ → Bool) (before after : ℕ → Conditions) where
  -- an event gives its pulse
  abbrev gives : Event → Bool
  gives event = is_due before after event && lives event.process

  -- from these nodes on, what is left leads to these events, the walk has passed the nodes before them, and the counts of all users' events
  -- are these
  pub record Left (old t : Table Event) (counts now : List ℕ) (all : List EventLists) (user : ℕ) (list : ℕ) (next : Option ℕ) : Type 0 where
    pub front : List ℕ
    pub rest : List ℕ
    pub nodes : nodes_of t list ≡ front ++ rest
    pub next_is : slice_get rest 0 ≡ next
    pub armed : map (event_at t) front ++ filter (λ event. not (is_due before after event)) (map (event_at t) rest) ≡ (triggered lives before after (events_in old (lists_at all user))).armed
    pub pulses : with_pulses gives after (map (event_at t) rest) (map (pulses_in t) (lists_at all user).pulses) ≡ (triggered lives before after (events_in old (lists_at all user))).pulses
    pub changed : Changed old t all user
    pub room : t.room + event_count (events_in t (lists_at all user)) ≡ old.room + event_count (events_in old (lists_at all user))
    pub counted : now ≡ set counts user (event_count (events_in t (lists_at all user)))
    pub processes : AllByRecursion (λ event. event.process ≤ PROCESSES) (map (event_at t) rest)

-- the walk begins
pub left-all : (lives : ℕ → Bool) (before after : ℕ → Conditions) {t : Table Event} {all : List EventLists} {counts : List ℕ} {user list : ℕ} (next : Option ℕ) → KeepsLists t all counts → ArmedList t all user list → next ≡ slice_get (nodes_of t list) 0
    → Left lives before after t t counts counts all user list next
left-all lives before after {t} {all} {counts} {user} {list} next kept own next_is = record {
  front = [];
  rest = nodes_of t list;
  nodes = refl;
  next_is = sym next_is;
  armed = ap (λ l. filter (λ event. not (is_due before after event)) (armed_in t l)) own.is;
  pulses = ap (λ l. with_pulses (gives lives before after) after (armed_in t l) (map (pulses_in t) (lists_at all user).pulses)) own.is;
  changed = changed-none t all user;
  room = refl;
  counted = sym (set-get_or counts user 0) ∙ ap (set counts user) (count-at t all counts kept user own.within 0);
  processes = rw own.is (kept.limited user own.within).processes;
}

-- what holds of the lists at a node, whatever the walk has left
pub record Stands (t : Table Event) (all : List EventLists) (user list : ℕ) : Type 0 where
  pub within : user < length all
  pub is : list ≡ (lists_at all user).armed
  pub apart : AreApart all
  pub distinct : (one : ℕ) → IsDistinct nat_eq (nodes_of t one)
  pub alone : (one two node : ℕ) → Contains (nodes_of t one) node → Contains (nodes_of t two) node → one ≡ two

module _ {lives : ℕ → Bool} {before after : ℕ → Conditions} {old t : Table Event} {counts now : List ℕ} {all : List EventLists} {user list node : ℕ} (left : Left lives before after old t counts now all user list (Some node)) (stand : Stands t all user list) where
  abbrev stays : Event → Bool
  stays event = not (is_due before after event)

  abbrev pulsed : Event → Bool
  pulsed = gives lives before after

  abbrev count : Table Event → ℕ
  count table = event_count (events_in table (lists_at all user))

  abbrev queues : Table Event → List (List Pulse)
  queues table = map (pulses_in table) (lists_at all user).pulses

  abbrev walk : Table Event → Option ℕ → ℕ
  walk table next = length (nodes_from next (nodes_of table list))

  abbrev head : Headed left.rest node
  head = headed left.rest node left.next_is

  abbrev back : List ℕ
  back = head.back

  nodes_is : nodes_of t list ≡ left.front ++ node ∷ back
  nodes_is = left.nodes ∙ ap (λ xs. left.front ++ xs) head.is

  pub node-there : Contains (nodes_of t list) node
  node-there = rw nodes_is (contains-middle left.front node back)

  at-node : Middle node left.front back
  at-node = middle node left.front back (rw nodes_is at (stand.distinct list))

  pub next-back : next_after node (nodes_of t list) ≡ slice_get back 0
  next-back = rw nodes_is at-node.next

  pub node-process : (event_at t node).process ≤ PROCESSES
  node-process = (rw head.is at left.processes).0

  armed_is : map (event_at t) left.front ++ filter stays (event_at t node ∷ map (event_at t) back) ≡ (triggered lives before after (events_in old (lists_at all user))).armed
  armed_is = rw head.is at left.armed

  pulses_is : with_pulses pulsed after (event_at t node ∷ map (event_at t) back) (queues t) ≡ (triggered lives before after (events_in old (lists_at all user))).pulses
  pulses_is = rw head.is at left.pulses

  shorter-here : Shorter left.front node back
  shorter-here = shorter left.front node back (rw nodes_is at (stand.distinct list))

  pub walk-passed : (next : Option ℕ) → next ≡ next_after node (nodes_of t list) → walk t next < walk t (Some node)
  walk-passed next next_is = rw (next_is ∙ next-back, nodes_is) shorter-here.stays

  -- the user's events are counted
  pub counted-here : KeepsLists old all counts → (n : ℕ) → n ≡ get_or now user n → n ≡ count t
  counted-here kept n is =
      let lengths : length counts ≡ length all = ap length kept.counted ∙ length-map all (λ lists. event_count (events_in old lists)) in
      let here : user < length counts = let within = stand.within in omega (arith, lengths, within) in
      is ∙ ap (λ c. get_or c user n) left.counted ∙ get_or-set_same counts user (count t) n here

  -- it is not due
  pub left-passed : (next : Option ℕ) → is_due before after (event_at t node) ≡ false → next ≡ next_after node (nodes_of t list) → Left lives before after old t counts now all user list next
  left-passed next not_due next_is = record {
    front = left.front ++ node ∷ [];
    rest = back;
    nodes = nodes_is ∙ sym (append_assoc left.front (node ∷ []) back);
    next_is = sym (next_is ∙ next-back);
    armed = ap (λ xs. xs ++ filter stays (map (event_at t) back)) (map-append (event_at t) left.front (node ∷ [])) ∙ append_assoc (map (event_at t) left.front) (event_at t node ∷ []) (filter stays (map (event_at t) back)) ∙ rw not_due at armed_is;
    pulses = sym (with-other pulsed after (event_at t node) (map (event_at t) back) (queues t) (ap (λ b. b && lives (event_at t node).process) not_due)) ∙ pulses_is;
    changed = left.changed;
    room = left.room;
    counted = left.counted;
    processes = (rw head.is at left.processes).1;
  }

  -- it is due, and leaves the list
  pub record Gone (new : Table Event) : Type 0 where
    pub nodes : nodes_of new list ≡ left.front ++ back
    pub others : (n : ℕ) → Contains (left.front ++ back) n → event_at new n ≡ event_at t n
    pub changed : Changed t new all user

  gone-from : without node (nodes_of t list) ≡ left.front ++ back
  gone-from = ap (without node) nodes_is ∙ at-node.gone

  differs-gone : (n : ℕ) → Contains (left.front ++ back) n → n ≢ node
  differs-gone n at same =
      let still : Contains (left.front ++ back) node = rw same at at in
      absent_without node (nodes_of t list) (subst (λ (xs : List ℕ). Contains xs node) (sym gone-from) still)

  module _ (new : Table Event) (gone : Gone new) where
    pub walk-gone : (next : Option ℕ) → next ≡ next_after node (nodes_of t list) → walk new next < walk t (Some node)
    walk-gone next next_is = rw (next_is ∙ next-back, gone.nodes, nodes_is) shorter-here.goes

    front-same : map (event_at new) left.front ≡ map (event_at t) left.front
    front-same = map-agree (event_at new) (event_at t) left.front (λ n at. gone.others n (Contains-append_left left.front back n at))

    back-same : map (event_at new) back ≡ map (event_at t) back
    back-same = map-agree (event_at new) (event_at t) back (λ n at. gone.others n (Contains-append_right left.front back n at))

    -- one fewer is armed
    armed-fewer : length (armed_in new (lists_at all user).armed) + 1 ≡ length (armed_in t (lists_at all user).armed)
    armed-fewer =
        let whole : length (armed_in t (lists_at all user).armed) ≡ length (left.front ++ node ∷ back) = ap (λ l. length (armed_in t l)) (sym stand.is) ∙ length-map (nodes_of t list) (event_at t) ∙ ap length nodes_is in
        let fewer : length (armed_in new (lists_at all user).armed) ≡ length (left.front ++ back) = ap (λ l. length (armed_in new l)) (sym stand.is) ∙ length-map (nodes_of new list) (event_at new) ∙ ap length gone.nodes in
        omega (arith, whole, fewer, length-append left.front (node ∷ back), length-append left.front back)

    left-gone : (next : Option ℕ) (then_now : List ℕ) → is_due before after (event_at t node) ≡ true → next ≡ next_after node (nodes_of t list)
        → with_pulses pulsed after (map (event_at t) back) (queues new) ≡ with_pulses pulsed after (event_at t node ∷ map (event_at t) back) (queues t)
        → new.room + count new ≡ t.room + count t → then_now ≡ set counts user (count new) → Left lives before after old new counts then_now all user list next
    left-gone next then_now is_due_now next_is pulses room counted = record {
      front = left.front;
      rest = back;
      nodes = gone.nodes;
      next_is = sym (next_is ∙ next-back);
      armed = ap₂ (λ xs ys. xs ++ filter stays ys) front-same back-same ∙ rw is_due_now at armed_is;
      pulses = ap (λ es. with_pulses pulsed after es (queues new)) back-same ∙ pulses ∙ pulses_is;
      changed = changed-then old t new all user left.changed gone.changed;
      room = room ∙ left.room;
      counted = counted;
      processes = rw back-same (rw head.is at left.processes).1;
    }

  armed-at : IsList all user 0 list
  armed-at = record { within = stand.within; is = ap Some (sym stand.is) }

  -- its process lives, and it gives its pulse
  module _ (queue : ℕ) (queue_is : slice_get (lists_at all user).pulses (event_at t node).process ≡ Some queue) (event : Event) (new : Table Event) (put : Put (unlinked t list node) new queue node event) where
    abbrev mid : Table Event
    mid = unlinked t list node

    abbrev process : ℕ
    process = (event_at t node).process

    queue-at : IsList all user (suc process) queue
    queue-at = record { within = stand.within; is = queue_is }

    other-list : list ≢ queue
    other-list same = let clash : 0 ≡ suc process = (stand.apart user 0 user (suc process) list armed-at (rw (← same) at queue-at)).1 in absurd (omega (arith, clash))

    touched : Touched t mid list node
    touched = touched-nodes t list node (alone-from t stand.alone list node node-there) (without node (nodes_of t list))

    pub given-gone : Gone new
    given-gone = record {
      nodes = put.touched.nodes list other-list ∙ nodes-unlinked t list node ∙ gone-from;
      others = λ n at. ap (λ o. unwrap_or o no_event) (put.touched.values n (differs-gone n at));
      changed = changed-then t mid new all user (touched-changed t all stand.apart user stand.within mid 0 list node armed-at touched) (touched-changed mid all stand.apart user stand.within new (suc process) queue node queue-at put.touched);
    }

    queues-mid : queues mid ≡ queues t
    queues-mid = ap (λ e. e.pulses) (armed-events t all stand.apart user stand.within mid list node stand.is touched (armed_in mid list) refl)

    queues-new : queues new ≡ with_pulse process (given event) (queues t)
    queues-new =
        ap (λ e. e.pulses) (queue-events mid all stand.apart user stand.within new process queue node queue_is put.touched (pulses_in mid queue ++ given event ∷ []) (put-events given mid new queue node event put))
        ∙ ap (λ line. set (queues mid) process (line ++ given event ∷ [])) (sym (queue-line mid (lists_at all user) process queue queue_is))
        ∙ ap (λ qs. set qs process (line_at qs process ++ given event ∷ [])) queues-mid

    -- as many events are armed or have given their pulses
    same-count : count new ≡ count t
    same-count =
        let process_within : process < length (queues t) = let here = slice_get_within (lists_at all user).pulses process queue queue_is in omega (arith, here, length-map (lists_at all user).pulses (pulses_in t)) in
        let one_more = ap (sum_by length) queues-new ∙ pulse-count (queues t) process (given event) process_within in
        omega (arith, one_more, armed-fewer new given-gone)

    pub left-given : (next : Option ℕ) → is_due before after (event_at t node) ≡ true → lives (event_at t node).process ≡ true → given event ≡ pulse_of (event_at t node) (after (event_at t node).block)
        → next ≡ next_after node (nodes_of t list) → new.room ≡ t.room → Left lives before after old new counts now all user list next
    left-given next is_due_now lives_now pulse_is next_is room =
        left-gone new given-gone next now is_due_now next_is
        (ap (with_pulses pulsed after (map (event_at t) back)) (queues-new ∙ ap (λ p. with_pulse process p (queues t)) pulse_is)
        ∙ sym (with-given pulsed after (event_at t node) (map (event_at t) back) (queues t) (ap₂ (λ a b. a && b) is_due_now lives_now)))
        (ap₂ (λ a b. a + b) room same-count)
        (left.counted ∙ ap (set counts user) (sym same-count))

  -- its process does not live, and it goes
  abbrev taken : Table Event
  taken = pulse_taken t list node

  touched-gone : Touched t taken list node
  touched-gone = touched-taken t list node (alone-from t stand.alone list node node-there)

  pub taken-gone : Gone taken
  taken-gone = record {
    nodes = nodes-unlinked t list node ∙ gone-from;
    others = λ n at. ap (λ o. unwrap_or o no_event) (get-remove_other t.values node n (differs-gone n at));
    changed = touched-changed t all stand.apart user stand.within taken 0 list node armed-at touched-gone;
  }

  queues-taken : queues taken ≡ queues t
  queues-taken = ap (λ e. e.pulses) (armed-events t all stand.apart user stand.within taken list node stand.is touched-gone (armed_in taken list) refl)

  pub count-taken : count taken + 1 ≡ count t
  count-taken = let same = ap (sum_by length) queues-taken in omega (arith, same, armed-fewer taken taken-gone)

  pub left-taken-out : (next : Option ℕ) (then_now : List ℕ) → is_due before after (event_at t node) ≡ true → lives (event_at t node).process ≡ false → next ≡ next_after node (nodes_of t list)
      → then_now ≡ set now user (count t - 1) → Left lives before after old taken counts then_now all user list next
  left-taken-out next then_now is_due_now not_lives next_is now_is =
      let fewer : count t - 1 ≡ count taken = omega (arith, count-taken) in
      left-gone taken taken-gone next then_now is_due_now next_is
      (ap (with_pulses pulsed after (map (event_at t) back)) queues-taken
      ∙ sym (with-other pulsed after (event_at t node) (map (event_at t) back) (queues t) (ap₂ (λ a b. a && b) is_due_now not_lives)))
      (omega (arith, count-taken))
      (now_is ∙ ap₂ (λ xs n. set xs user n) left.counted fewer ∙ set-set counts user (count t) (count taken))

-- nothing is left
pub record Triggers (lives : ℕ → Bool) (before after : ℕ → Conditions) (old t : Table Event) (now : List ℕ) (all : List EventLists) (user : ℕ) : Type 0 where
  pub told_is : shown_events t all ≡ with_events (shown_events old all) user (triggered lives before after (events_of (shown_events old all) user))
  pub kept_is : KeepsLists t all now

pub triggers : {lives : ℕ → Bool} {before after : ℕ → Conditions} {old t : Table Event} {counts now : List ℕ} {all : List EventLists} {user list : ℕ} → KeepsLists old all counts → ArmedList old all user list → Left lives before after old t counts now all user list None
    → Triggers lives before after old t now all user
triggers {lives} {before} {after} {old} {t} {counts} {now} {all} {user} {list} kept own_list left =
    let none = none_first left.rest left.next_is in
    let nodes : nodes_of t list ≡ left.front = left.nodes ∙ ap (λ xs. left.front ++ xs) none ∙ append-nil left.front in
    let armed : armed_in t (lists_at all user).armed ≡ (triggered lives before after (events_in old (lists_at all user))).armed = ap (armed_in t) (sym own_list.is) ∙ ap (map (event_at t)) nodes ∙ sym (append-nil (map (event_at t) left.front)) ∙ rw none at left.armed in
    let pulses = rw none at left.pulses in
    let own : events_in t (lists_at all user) ≡ triggered lives before after (events_in old (lists_at all user)) = λ i. record { armed = armed i; pulses = pulses i } in
    let same = ap event_count own in
    record {
      told_is = told-changed old all counts kept user own_list.within t left.changed (triggered lives before after (events_in old (lists_at all user))) own (triggered lives before after) refl (omega (arith, left.room, same));
      kept_is = rw (left.counted ∙ ap (set counts user) same) (kept-changed old all counts kept user own_list.within t left.changed (triggered lives before after (events_in old (lists_at all user))) own (limited-triggered lives before after (events_in old (lists_at all user)) (kept.limited user own_list.within)));
    }
