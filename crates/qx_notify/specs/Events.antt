-- What contracts see of the events of all users, and what the calls make of it.
use Rattle.std.specs.Prelude.{ℕ, ◌≡◌, ◌≤◌, ◌+◌, ◌-◌, ◌&&◌, not, Bool, false, true, List, Result, Ok, Err, filter, get_or, length, nat_lt, refl, replicate, slice_set, ⊤}
use Rattle.std.specs.Coded.{Coded, code_by, coded×, coded_ℕ, coded_list}
use Rattle.std.specs.List.{AllByRecursion, list_any}
use Rattle.qx_types.specs.declared.limits.TheConstants.Limits.{EVENTS, PROCESSES}
use Rattle.qx_base.specs.declared.errno.Errno.{Errno}
use Rattle.qx_types.specs.declared.fields.NotifyAction.{NotifyAction}
use Rattle.qx_types.specs.declared.fields.NotifyAction.TheVariants.{Poll, PollArm, TranArm}
use Rattle.qx_machine.specs.contracts.rows.Event as event_row
use Rattle.qx_machine.specs.contracts.rows.Pulse as pulse_row
use Rattle.qx_machine.specs.declared.rows.Conditions.{Conditions}
use Rattle.qx_machine.specs.declared.rows.Event.{Event}
use Rattle.qx_machine.specs.declared.rows.Pulse.{Pulse}
use Rattle.qx_machine.specs.Events as machine
use Rattle.qx_machine.specs.Events.{Events, Notified, event_count, is_any, is_on, wanted_of}

-- the events of each user, and for how many more room is kept
pub record AllEvents : Type 0 where
  pub events : List Events
  pub room : ℕ

abbrev pub events_code : Coded Events
events_code =
    code_by
    (List Event × List (List Pulse))
    (coded× (coded_list (event_row.the_row).coded) (coded_list (coded_list (pulse_row.the_row).coded)))
    (λ e. (e.armed, e.pulses))
    (λ p. record { armed = p.0; pulses = p.1 })
    (λ _. refl)

abbrev pub all_events_code : Coded AllEvents
all_events_code = code_by (List Events × ℕ) (coded× (coded_list events_code) coded_ℕ) (λ a. (a.events, a.room)) (λ p. record { events = p.0; room = p.1 }) (λ _. refl)

-- the users from 1 to this many have no events
abbrev pub nothing_armed : ℕ → AllEvents
nothing_armed users = record { events = replicate (users + 1) machine.no_events; room = 0 }

-- a user's events
abbrev pub events_of : AllEvents → ℕ → Events
events_of all user = get_or all.events user machine.no_events

-- a user's events are within the limit, each is of a process that may be, and a block has one at most
pub record AreLimited (events : Events) : Type 0 where
  pub few : event_count events ≤ EVENTS
  pub places : length events.pulses ≡ PROCESSES + 1
  pub processes : AllByRecursion (λ event. event.process ≤ PROCESSES) events.armed
  pub once : (block : ℕ) → length (filter (is_on block) events.armed) ≤ 1

-- a user's events are these. What is there more takes of the room, and room is kept for what goes
abbrev pub with_events : AllEvents → ℕ → Events → AllEvents
with_events all user events = record { events = slice_set all.events user events; room = all.room + event_count (events_of all user) - event_count events }

-- ---- arming

abbrev pub armed_outcome : {A : Type 0} → Result A Errno → Result ⊤ Errno
armed_outcome (Ok events) = Ok tt
armed_outcome (Err error) = Err error

-- once a user's events were to become what a judgement says
abbrev pub events_after : AllEvents → ℕ → Result Events Errno → AllEvents
events_after all user (Ok events) = with_events all user events
events_after all user (Err error) = all

abbrev pub status_given : Result Notified Errno → Result ℕ Errno
status_given (Ok notified) = Ok notified.status
status_given (Err error) = Err error

abbrev pub notified_after : AllEvents → ℕ → Result Notified Errno → AllEvents
notified_after all user (Ok notified) = with_events all user notified.events
notified_after all user (Err error) = all

-- an event may be armed for a block that has none, so that there is one more
abbrev pub wants_node : ℕ → Event → Events → Bool
wants_node most event events = not (list_any (is_on event.block) events.armed) && nat_lt (event_count events) most

-- a notification arms
abbrev pub arms_event : NotifyAction → Event → Conditions → Bool
arms_event Poll event holding = false
arms_event TranArm event holding = true
arms_event PollArm event holding = not (is_any (wanted_of event.conditions holding))
