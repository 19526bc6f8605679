-- How the events of all users stand in lists of the table. No public clause cites this module.
use Rattle.std.specs.Prelude.{◌≡◌, ◌≢◌, ◌+◌, ◌<◌, ◌++◌, ℕ, List, [], ◌∷◌, None, Some, Contains, get_or, length, map, refl, slice_get, unwrap_or}
use Rattle.std.specs.FinMap as maps
use Rattle.std.specs.Coded.{Coded, code_by, coded×, coded_ℕ, coded_list}
use Rattle.qx_types.specs.declared.fields.PulseValue.TheVariants.{Bits32}
use Rattle.qx_lists.specs.Table.{ContainsList, Table, nodes_of, with_nodes, without}
use Rattle.qx_machine.specs.declared.rows.Event.{Event}
use Rattle.qx_machine.specs.declared.rows.Pulse.{Pulse}
use Rattle.qx_machine.specs.Events.{Events, event_count, number_of}
use Rattle.qx_notify.specs.Events.{AllEvents, AreLimited}

-- the numbers of a user's lists: that of armed events, and under each process' number that of its pulses
pub record EventLists : Type 0 where
  pub armed : ℕ
  pub pulses : List ℕ

abbrev pub lists_code : Coded EventLists
lists_code = code_by (ℕ × List ℕ) (coded× coded_ℕ (coded_list coded_ℕ)) (λ l. (l.armed, l.pulses)) (λ p. record { armed = p.0; pulses = p.1 }) (λ _. refl)

abbrev pub no_lists : EventLists
no_lists = record { armed = 0; pulses = [] }

abbrev pub lists_at : List EventLists → ℕ → EventLists
lists_at all user = get_or all user no_lists

-- the list of armed events is the first
abbrev pub lists_of : EventLists → List ℕ
lists_of lists = lists.armed ∷ lists.pulses

-- ---- what the lists tell

abbrev pub no_event : Event
no_event = record { process = 0; block = 0; conditions = record { 0 = 0 }; code = 0; value = Bits32 0 }

abbrev pub event_at : Table Event → ℕ → Event
event_at t node = unwrap_or (maps.get t.values node) no_event

-- the value of an event that has given its pulse is the pulse's
abbrev pub given : Event → Pulse
given event = record { code = event.code; value = number_of event.value }

abbrev pub armed_in : Table Event → ℕ → List Event
armed_in t list = map (event_at t) (nodes_of t list)

abbrev pub pulses_in : Table Event → ℕ → List Pulse
pulses_in t list = map (λ node. given (event_at t node)) (nodes_of t list)

abbrev pub events_in : Table Event → EventLists → Events
events_in t lists = record { armed = armed_in t lists.armed; pulses = map (pulses_in t) lists.pulses }

abbrev pub shown_events : Table Event → List EventLists → AllEvents
shown_events t all = record { events = map (events_in t) all; room = t.room }

-- ---- what holds of them

-- a user's list of a number: 0 is that of armed events
pub record IsList (all : List EventLists) (user number list : ℕ) : Type 0 where
  pub within : user < length all
  pub is : slice_get (lists_of (lists_at all user)) number ≡ Some list

-- no two have one list
abbrev pub AreApart : List EventLists → Type 0
AreApart all = (user number other also list : ℕ) → IsList all user number list → IsList all other also list → (user ≡ other) × (number ≡ also)

-- each list of a user is there and is of nobody else, and these are the counts of all users' events
pub record KeepsLists (t : Table Event) (all : List EventLists) (counts : List ℕ) : Type 0 where
  pub there : (user number list : ℕ) → IsList all user number list → ContainsList t list
  pub apart : AreApart all
  pub limited : (user : ℕ) → user < length all → AreLimited (events_in t (lists_at all user))
  pub counted : counts ≡ map (λ lists. event_count (events_in t lists)) all

-- ---- lists, as they are made

-- these lists were made, are empty and differ, and nothing else changed
pub record AreNew (t new : Table Event) (lists : List ℕ) : Type 0 where
  pub empty : (k list : ℕ) → slice_get lists k ≡ Some list → maps.get new.lists list ≡ Some []
  pub was_new : (k list : ℕ) → slice_get lists k ≡ Some list → maps.get t.lists list ≡ None
  pub apart : (k other list : ℕ) → slice_get lists k ≡ Some list → slice_get lists other ≡ Some list → k ≡ other
  pub others : (list : ℕ) (nodes : List ℕ) → maps.get t.lists list ≡ Some nodes → maps.get new.lists list ≡ Some nodes
  pub values : new.values ≡ t.values
  pub room : new.room ≡ t.room

-- ---- what a call makes of the lists

-- one list has other nodes, and one node, which stands in no other list, may have another value
pub record Touched (t new : Table Event) (list node : ℕ) : Type 0 where
  pub there : (other : ℕ) → ContainsList t other → ContainsList new other
  pub nodes : (other : ℕ) → other ≢ list → nodes_of new other ≡ nodes_of t other
  pub values : (other : ℕ) → other ≢ node → maps.get new.values other ≡ maps.get t.values other
  pub alone : (other : ℕ) → other ≢ list → ¬ (Contains (nodes_of t other) node)

-- a node that stood nowhere stands last in a list, with this event
pub record Put (t new : Table Event) (list node : ℕ) (event : Event) : Type 0 where
  pub touched : Touched t new list node
  pub nowhere : ¬ (Contains (nodes_of t list) node)
  pub last : nodes_of new list ≡ nodes_of t list ++ node ∷ []
  pub value : maps.get new.values node ≡ Some event

-- a node stands in its list no more
abbrev pub unlinked : Table Event → ℕ → ℕ → Table Event
unlinked t list node = with_nodes t list (without node (nodes_of t list))

-- and is given back
abbrev pub pulse_taken : Table Event → ℕ → ℕ → Table Event
pulse_taken t list node = record (unlinked t list node) { values = maps.remove t.values node; room = t.room + 1 }
