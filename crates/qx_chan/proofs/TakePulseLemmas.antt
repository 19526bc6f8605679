-- A process takes its first pulse.
use Rattle.std.proofs.Common.{◌≡◌, ◌<◌, inl, inr, ℕ, List, [], ◌∷◌, Option, Some, None, drop, is_some, not, length, refl, set, slice_get, ◌∙◌, ap}
use Rattle.std.proofs.lemmas.List.{set-get_or}
use Rattle.std.proofs.lemmas.Option.{unwrap_or-slice_get}
use Rattle.qx_types.specs.declared.names.Proc.{Proc}
use Rattle.qx_machine.specs.declared.rows.Pulse.{Pulse}
use Rattle.qx_machine.specs.Events.{first_pulse, no_events, without_first_pulse}
use Rattle.qx_isolation.specs.Lines.{line_at}
use Rattle.qx_machine.specs.Processes.{Process, living}
use Rattle.qx_isolation.specs.Rows.{row_at}
use Rattle.qx_notify.specs.Events.{AllEvents, events_of, with_events}
use Rattle.qx_resources.specs.declared.tables.Tables.{Tables}
use Rattle.qx_chan.specs.Channel.{after_pulse, is_no_pulse, pulse_outcome, with_pulse_taken}
use Rattle.qx_chan.specs.inner.Kept.{AllStandTogether}
use Rattle.qx_chan.specs.Users.{Users, process_of}
use Rattle.qx_chan.proofs.RowReads.{option_cases, row_within}
use Rattle.qx_chan.proofs.ServeLemmas.{shown}

-- a user who has a process has a place for events
pub has-events : {spare : Option (List ℕ)} (users : Users) (w : Tables) (proc : Proc) (process : Process) → Some process ≡ living (process_of users proc) → AllStandTogether users w spare → proc.user.0 < length w.events.events
has-events users w proc process is kept = elim (option_cases (row_at users proc.user.0)) [
  | inl none ↦ let clash : Some process ≡ None = rw none at is in absurd (cc)
  | inr rows ↦ rw (kept.events, kept.shared.users) (row_within users proc.user.0 rows.0 rows.1)
]

-- a process that is there is told that it has no pulse just where none is the first
pub no-pulse : (process : Process) (first : Option Pulse) → not (is_some first) ≡ is_no_pulse (pulse_outcome (Some process) first)
no-pulse process None = refl
no-pulse process (Some first) = refl

-- where there is none, nothing goes
none_goes : (queue : List Pulse) → slice_get queue 0 ≡ None → drop 1 queue ≡ queue
none_goes [] is = refl
none_goes (first ∷ rest) is = let clash : Some first ≡ None = is in absurd (cc)

same_pulses : (pulses : List (List Pulse)) (process : ℕ) → slice_get (line_at pulses process) 0 ≡ None → set pulses process (drop 1 (line_at pulses process)) ≡ pulses
same_pulses pulses process is =
    ap (set pulses process) (none_goes (line_at pulses process) is ∙ unwrap_or-slice_get pulses process []) ∙ set-get_or pulses process []

none_taken : (all : AllEvents) (proc : Proc) → first_pulse proc.num (events_of all proc.user.0) ≡ None → set all.events proc.user.0 (without_first_pulse proc.num (events_of all proc.user.0)) ≡ all.events
none_taken all proc is =
    ap (λ pulses. set all.events proc.user.0 (record (events_of all proc.user.0) { pulses = pulses })) (same_pulses (events_of all proc.user.0).pulses proc.num is) ∙ set-get_or all.events proc.user.0 no_events

-- once the first is taken, or there was none
pub pulse_taken : (users : Users) (w : Tables) (proc : Proc) (process : Process) (now : AllEvents) → Some process ≡ living (process_of users proc) → now ≡ with_events w.events proc.user.0 (without_first_pulse proc.num (events_of w.events proc.user.0))
    → shown users w.shared w.mounts now.events ≡ after_pulse (shown users w.shared w.mounts w.events.events) proc
pulse_taken users w proc process now there is =
    ap (λ (all : AllEvents). shown users w.shared w.mounts all.events) is ∙ by_first (first_pulse proc.num (events_of w.events proc.user.0)) refl
    ∙ ap (λ place. with_pulse_taken (shown users w.shared w.mounts w.events.events) proc place (first_pulse proc.num (events_of w.events proc.user.0))) there
  where
    by_first : (first : Option Pulse) → first_pulse proc.num (events_of w.events proc.user.0) ≡ first
        → shown users w.shared w.mounts (set w.events.events proc.user.0 (without_first_pulse proc.num (events_of w.events proc.user.0))) ≡ with_pulse_taken (shown users w.shared w.mounts w.events.events) proc (Some process) first
    by_first None none = ap (shown users w.shared w.mounts) (none_taken w.events proc none)
    by_first (Some first) some = refl
