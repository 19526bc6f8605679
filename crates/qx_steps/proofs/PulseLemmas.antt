-- A process takes its first pulse: the user's events change, and the other users' are told as before.
use Rattle.std.proofs.Common.{◌≡◌, inl, inr, ℕ, zero, suc, ◌+◌, get_or, List, [], ◌∷◌, Option, Some, None, drop, refl, sym, ap, ◌∙◌}
use Rattle.std.specs.Prelude.{replicate, slice_set}
use Rattle.std.proofs.lemmas.List.{get_or-set_other}
use Rattle.qx_types.specs.Configuration.{Configuration}
use Rattle.qx_types.specs.declared.limits.TheConstants.Limits.{PROCESSES}
use Rattle.qx_types.specs.declared.names.Proc.{Proc}
use Rattle.qx_types.specs.declared.outcome.Outcome.TheVariants.{Pulse as PulseGiven}
use Rattle.qx_types.specs.declared.step.Step.TheVariants.{TakePulse}
use Rattle.qx_isolation.specs.declared.rows.Held.{Held}
use Rattle.qx_isolation.specs.declared.rows.OwnItem.{OwnItem}
use Rattle.qx_machine.specs.declared.rows.Pulse.{Pulse}
use Rattle.qx_machine.specs.Events.{Events, first_pulse, no_events, without_first_pulse}
use Rattle.qx_isolation.specs.Lines.{with_line}
use Rattle.qx_machine.specs.Machine.{After, World, own_held, step}
use Rattle.qx_machine.specs.Parts.{Part}
use Rattle.qx_machine.specs.Processes.{Process, living}
use Rattle.qx_machine.specs.Resources.{Resources}
use Rattle.qx_isolation.specs.Rows.{row_at}
use Rattle.qx_machine.specs.Users.{client}
use Rattle.qx_rows.proofs.RowLemmas.{set-row}
use Rattle.qx_resources.specs.State.{told, Kept}
use Rattle.qx_chan.specs.Channel.{Channel, after_pulse, channel_events, lists, pulse_outcome, with_pulse_taken}
use Rattle.qx_chan.specs.Users.{process_of, process_of_user}
use Rattle.qx_chan.proofs.RowReads.{option_cases}
use Rattle.qx_steps.specs.inner.Parts.{parts_of, told_all, world_of, IsSound}
use Rattle.qx_steps.proofs.OwnerLemmas.{Owner, get-set, nobody, owner, sound-step, told_otherwise}
use Rattle.qx_steps.proofs.SettledLemmas.{settled-processes, settled-same}
use Rattle.qx_steps.proofs.StillLemmas.{still-pulse}

-- where there is no pulse, none is taken
undropped : (count process : ℕ) → with_line (replicate {A = List Pulse} count []) process (drop 1) ≡ replicate count []
undropped zero process = refl
undropped (suc count) zero = refl
undropped (suc count) (suc process) = ap (λ rows. [] ∷ rows) (undropped count process)

module _ (config : Configuration) (c : Channel) (ks : List (Option Kept)) (hands : List (Option Held)) (sound : IsSound config c ks hands) (proc : Proc) where
  abbrev w : World
  w = world_of config c ks hands

  abbrev held : List OwnItem
  held = own_held proc.user.0 hands

  -- what the step is to come to, by the process and its first pulse
  abbrev came : Option Process → Option Pulse → After
  came process first = record { world = world_of config (with_pulse_taken c proc process first) ks hands; outcome = pulse_outcome process first }

  abbrev first : Option Pulse
  first = first_pulse proc.num (channel_events c proc.user.0)

  nobody-takes : row_at c.users proc.user.0 ≡ None → step w (TakePulse proc) ≡ came (living (process_of c.users proc)) first
  unfolding step
  nobody-takes none = rw (nobody config c ks hands sound proc.user.0 none, none) refl

  module _ (ps : List (Option Process)) (o : Owner config c ks hands sound proc.user.0 ps) where
    abbrev r : Resources
    r = told o.k (lists c)

    abbrev part : Part
    part = record { processes = ps; resources = r }

    row : (process : Option Process) → living (row_at ps proc.num) ≡ process → came (living (process_of c.users proc)) first ≡ came process first
    row process is = ap (λ process. came process first) (ap living (ap (process_of_user proc.num) o.users) ∙ is)

    none-takes : living (row_at ps proc.num) ≡ None → step w (TakePulse proc) ≡ came None first
    unfolding step client
    none-takes none = rw (o.part, none, settled-processes ps ps r held o.left, set-row w.parts proc.user.0 part o.part) refl

    -- the events, as the channel has them
    own : first_pulse proc.num r.events ≡ first
    own = ap (λ user. first_pulse proc.num (channel_events c user)) o.own

    unpulsed : (process : Process) → living (row_at ps proc.num) ≡ Some process → first ≡ None → step w (TakePulse proc) ≡ came (Some process) None
    unfolding step client
    unpulsed process there is = rw (o.part, there, own ∙ is, settled-processes ps ps r held o.left, set-row w.parts proc.user.0 part o.part) refl

    module _ (process : Process) (there : living (row_at ps proc.num) ≡ Some process) (pulse : Pulse) (is : first ≡ Some pulse) where
      abbrev q : Resources
      q = record r { events = without_first_pulse proc.num r.events }

      abbrev d : Channel
      d = record c { events = slice_set c.events proc.user.0 (without_first_pulse proc.num (channel_events c proc.user.0)) }

      takes : step w (TakePulse proc) ≡ record { world = record w { parts = slice_set w.parts proc.user.0 (Some (record { processes = ps; resources = q })) }; outcome = PulseGiven pulse.code pulse.value }
      unfolding step client
      takes = rw (o.part, there, own ∙ is, settled-same part (record { processes = ps; resources = q }) held o.left refl refl) refl

      events-own : get_or d.events o.k.user no_events ≡ q.events
      events-own =
          ap (λ user. get_or d.events user no_events) o.own
          ∙ (get-set (without_first_pulse proc.num) no_events (ap (λ pulses. record no_events { pulses = pulses }) (undropped (PROCESSES + 1) proc.num)) c.events proc.user.0
          ∙ ap (λ user. without_first_pulse proc.num (channel_events c user)) (sym o.own))

      others : (other : ℕ) (m : Kept) → row_at ks other ≡ Some m → ¬ (other ≡ proc.user.0) → told m (lists d) ≡ told m (lists c)
      others other m here differs =
          ap (λ (events : Events). record (told m (lists c)) { events = events })
          (get_or-set_other c.events proc.user.0 m.user (without_first_pulse proc.num (channel_events c proc.user.0)) no_events (λ same. differs (sym (sound.users.own other m here) ∙ same)))

      parts-then : parts_of d.users (told_all d ks) ≡ slice_set w.parts proc.user.0 (Some (record { processes = ps; resources = q }))
      parts-then =
          told_otherwise config c ks hands sound proc.user.0 ps o d ps q (sym (set-row c.users proc.user.0 ps o.users)) (ap (λ (events : Events). record r { events = events }) events-own) others

      taken : step w (TakePulse proc) ≡ came (Some process) (Some pulse)
      taken = takes ∙ sym (ap (λ parts. record { world = record w { parts = parts }; outcome = PulseGiven pulse.code pulse.value }) parts-then)

    -- a process that lives
    one-takes : (process : Process) → living (row_at ps proc.num) ≡ Some process → step w (TakePulse proc) ≡ came (Some process) first
    one-takes process there = elim (option_cases first) [
      | inl none ↦ unpulsed process there none ∙ sym (ap (came (Some process)) none)
      | inr pulse ↦ taken process there pulse.0 pulse.1 ∙ sym (ap (came (Some process)) pulse.1)
    ]

  pub take_pulse-step : step w (TakePulse proc) ≡ record { world = world_of config (after_pulse c proc) ks hands; outcome = pulse_outcome (living (process_of c.users proc)) (first_pulse proc.num (channel_events c proc.user.0)) }
  take_pulse-step = elim (option_cases (row_at c.users proc.user.0)) [
    | inl none ↦ nobody-takes none
    | inr ps ↦
        let o = owner config c ks hands sound proc.user.0 ps.0 ps.1 in
        elim (option_cases (living (row_at ps.0 proc.num))) [
          | inl none ↦ none-takes ps.0 o none ∙ sym (row ps.0 o None none)
          | inr process ↦ one-takes ps.0 o process.0 process.1 ∙ sym (row ps.0 o (Some process.0) process.1)
        ]
  ]

  pub pulse-sound : IsSound config (after_pulse c proc) ks hands
  pulse-sound = sound-step config c ks hands sound (after_pulse c proc) ks hands (TakePulse proc) (still-pulse c ks sound.users proc) (sym (ap (λ after. after.world) take_pulse-step))
