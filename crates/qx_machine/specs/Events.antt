-- Notification: the armed events and the untaken pulses of one user (C Library Reference: ionotify, iofunc_notify, iofunc_notify_trigger,
-- MsgReceivePulse; limits, codes, values and their bits are this profile). Whatever tells which conditions hold of a block's pipe, file or
-- directory is an argument.
use Rattle.std.specs.Prelude.{ℕ, ◌+◌, ◌==◌, ◌&&◌, ◌||◌, not, Bool, List, [], ◌∷◌, ◌++◌, Option, Result, Ok, drop, filter, if◌then◌else◌, length, nat_lt, replicate, slice_get, sum_by}
use Rattle.std.specs.Int.Bits.{bit_and, bit_or}
use Rattle.qx_base.specs.declared.errno.Errno.{Errno}
use Rattle.qx_base.specs.declared.errno.Errno.TheVariants.{EAGAIN}
use Rattle.qx_types.specs.declared.fields.NotifyAction.{NotifyAction}
use Rattle.qx_types.specs.declared.fields.NotifyAction.TheVariants.{Poll, PollArm, TranArm}
use Rattle.qx_types.specs.declared.fields.PulseValue.{PulseValue}
use Rattle.qx_types.specs.declared.fields.PulseValue.TheVariants.{Bits32, Bits64}
use Rattle.qx_types.specs.declared.flags.Conds.{Conds}
use Rattle.qx_types.specs.declared.flags.TheConstants.Conds as conds
use Rattle.qx_types.specs.declared.limits.TheConstants.Limits.{PROCESSES}
use Rattle.qx_machine.specs.declared.rows.Conditions.{Conditions}
use Rattle.qx_machine.specs.declared.rows.Event.{Event}
use Rattle.qx_machine.specs.declared.rows.Pulse.{Pulse}
use Rattle.qx_machine.specs.declared.rows.TheConstants.Pulse as pulse
use Rattle.qx_isolation.specs.Judgements.{◌>>=◌, need}
use Rattle.qx_isolation.specs.Lines.{line_at, with_line}

-- a user's armed events in order of arming, and the untaken pulses of each process under its number, in order of coming
pub record Events : Type 0 where
  pub armed : List Event
  pub pulses : List (List Pulse)

abbrev pub no_events : Events
no_events = record { armed = []; pulses = replicate (PROCESSES + 1) [] }

-- armed events and untaken pulses together
abbrev pub event_count : Events → ℕ
event_count events = length events.armed + sum_by length events.pulses

-- ---- conditions

-- one of the conditions is wanted
abbrev pub is_wanted : Conds → Conds → Bool
is_wanted wanted one = bit_and wanted.0 one.0 == one.0

-- the wanted among some conditions
abbrev pub wanted_of : Conds → Conditions → Conditions
wanted_of wanted holding = record { input = is_wanted wanted conds.INPUT && holding.input; output = is_wanted wanted conds.OUTPUT && holding.output }

-- the conditions that hold and did not before
abbrev pub come_to_hold : Conditions → Conditions → Conditions
come_to_hold before after = record { input = after.input && not before.input; output = after.output && not before.output }

abbrev pub is_any : Conditions → Bool
is_any conditions = conditions.input || conditions.output

abbrev pub bit_of : Bool → ℕ → ℕ
bit_of is_set bit = if is_set then bit else 0

-- the status that tells of these conditions
abbrev pub wanted_status : Conditions → ℕ
wanted_status conditions = bit_of conditions.input conds.INPUT.0 + bit_of conditions.output conds.OUTPUT.0

-- ---- arming (C Library Reference: iofunc_notify)

-- what the block has armed
abbrev pub is_on : ℕ → Event → Bool
is_on block event = event.block == block

-- what a block had armed goes
abbrev pub disarmed : ℕ → Events → Events
disarmed block events = record events { armed = filter (λ event. not (is_on block event)) events.armed }

-- an event is armed as the newest, in place of what its block had armed
abbrev pub armed_anew : Event → Events → Events
armed_anew event events = record events { armed = (disarmed event.block events).armed ++ event ∷ [] }

-- unless there were more then than may be
abbrev pub arm_event : ℕ → Event → Events → Result Events Errno
arm_event most event events = do
  few ← need (nat_lt (event_count (disarmed event.block events)) most) EAGAIN
  Ok (armed_anew event events)

-- the status of a notification, and the events then
pub record Notified : Type 0 where
  pub status : ℕ
  pub events : Events

-- a poll tells which of the wanted conditions hold, and takes away what the block had armed
abbrev pub polled : Event → Conditions → Events → Notified
polled event holding events = record { status = wanted_status (wanted_of event.conditions holding); events = disarmed event.block events }

-- an event is armed, and the status is 0
abbrev pub arming : ℕ → Event → Events → Result Notified Errno
arming most event events = do
  armed ← arm_event most event events
  Ok (record { status = 0; events = armed })

-- POLL polls, TRANARM arms, and POLLARM polls where a wanted condition holds and else arms
abbrev pub notified : ℕ → NotifyAction → Event → Conditions → Events → Result Notified Errno
notified most Poll event holding events = Ok (polled event holding events)
notified most TranArm event holding events = arming most event events
notified most PollArm event holding events = if is_any (wanted_of event.conditions holding) then Ok (polled event holding events) else arming most event events

-- ---- pulses (C Library Reference: iofunc_notify_trigger)

abbrev pub number_of : PulseValue → ℕ
number_of (Bits32 n) = n
number_of (Bits64 n) = n

-- what tells of conditions beside a value, in two bits above it
abbrev pub bits_beside : PulseValue → Conditions → ℕ
bits_beside (Bits32 n) told = bit_of told.input pulse.INPUT + bit_of told.output pulse.OUTPUT
bits_beside (Bits64 n) told = bit_of told.input pulse.INPUT_64 + bit_of told.output pulse.OUTPUT_64

-- the pulse of an event where these conditions hold, which tells of those that are wanted
abbrev pub pulse_of : Event → Conditions → Pulse
pulse_of event holding = record {
  code = event.code;
  value = bit_or (number_of event.value) (bits_beside event.value (wanted_of event.conditions holding));
}

-- a wanted condition of an event's block has come to hold
abbrev pub is_due : (ℕ → Conditions) → (ℕ → Conditions) → Event → Bool
is_due before after event = is_any (wanted_of event.conditions (come_to_hold (before event.block) (after event.block)))

-- a pulse goes last into the queue of a process
abbrev pub with_pulse : ℕ → Pulse → List (List Pulse) → List (List Pulse)
with_pulse process new pulses = with_line pulses process (λ queue. queue ++ new ∷ [])

-- those of some events that give pulses give them, in order
abbrev pub with_pulses : (Event → Bool) → (ℕ → Conditions) → List Event → List (List Pulse) → List (List Pulse)
with_pulses gives after [] pulses = pulses
with_pulses gives after (event ∷ events) pulses = with_pulses gives after events (if gives event then with_pulse event.process (pulse_of event (after event.block)) pulses else pulses)

-- after a step, each due event is armed no more, and gives one pulse where its process has not ended
abbrev pub triggered : (ℕ → Bool) → (ℕ → Conditions) → (ℕ → Conditions) → Events → Events
triggered lives before after events = record {
  armed = filter (λ event. not (is_due before after event)) events.armed;
  pulses = with_pulses (λ event. is_due before after event && lives event.process) after events.armed events.pulses;
}

-- the first pulse of a process (C Library Reference: MsgReceivePulse)
abbrev pub first_pulse : ℕ → Events → Option Pulse
first_pulse process events = slice_get (line_at events.pulses process) 0

-- and the events without it
abbrev pub without_first_pulse : ℕ → Events → Events
without_first_pulse process events = record events { pulses = with_line events.pulses process (drop 1) }

-- a process' pulses go
abbrev pub without_pulses : ℕ → Events → Events
without_pulses process events = record events { pulses = with_line events.pulses process (λ queue. []) }
