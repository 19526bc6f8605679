-- A process ends, and is freed if nothing is left of it.
use Rattle.std.proofs.Common.{◌≡◌, ◌≢◌, inl, inr, ℕ, zero, suc, ◌+◌, get_or, List, [], ◌∷◌, Option, Some, None, map, replicate, refl, sym, ap, subst, ◌∙◌, arith}
use Rattle.std.specs.Prelude.{option_map, slice_set}
use Rattle.std.proofs.lemmas.List.{get_or-set_other, set-set}
use Rattle.qx_types.specs.Configuration.{Configuration, limits_of}
use Rattle.qx_types.specs.declared.limits.TheConstants.Limits.{INODES, PROCESSES}
use Rattle.qx_types.specs.declared.names.Proc.{Proc}
use Rattle.qx_types.specs.declared.outcome.Outcome.{Outcome}
use Rattle.qx_types.specs.declared.outcome.Outcome.TheVariants.{Done, WrongState}
use Rattle.qx_types.specs.declared.step.Step.TheVariants.{Exit}
use Rattle.qx_isolation.specs.declared.rows.Held.{Held}
use Rattle.qx_isolation.specs.declared.rows.OwnItem.{OwnItem}
use Rattle.qx_machine.specs.declared.rows.Pulse.{Pulse}
use Rattle.qx_machine.specs.Clients.{with_abandoned, without_process}
use Rattle.qx_machine.specs.Events.{Events, no_events, without_pulses}
use Rattle.qx_isolation.specs.Lines.{with_line}
use Rattle.qx_machine.specs.Machine.{After, World, own_held, step}
use Rattle.qx_machine.specs.Parts.{Part, with_process}
use Rattle.qx_machine.specs.Processes.{Process, ended, living}
use Rattle.qx_machine.specs.Resources.{Resources}
use Rattle.qx_isolation.specs.Rows.{row_at, with_row}
use Rattle.qx_machine.specs.Settling.{has_waiting, is_living, processes_left, row_left}
use Rattle.qx_machine.specs.Users.{client, settle_part}
use Rattle.qx_machine.specs.Waiting.{no_pipes}
use Rattle.qx_machine.proofs.NotifyLemmas.{settled-ended}
use Rattle.qx_isolation.proofs.Places.{set-row_at}
use Rattle.qx_rows.proofs.RowLemmas.{set-row, with_row-none}
use Rattle.qx_resources.specs.State.{told, Kept}
use Rattle.qx_chan.specs.Channel.{Channel, after_exit, channel_events, channel_pipes, ended_in, exit_outcome, lists}
use Rattle.qx_chan.specs.Users.{process_of, process_of_user}
use Rattle.qx_chan.proofs.RowReads.{option_cases, row_at-with_same}
use Rattle.qx_steps.specs.inner.Parts.{parts_of, told_all, world_of, IsSound}
use Rattle.qx_steps.specs.inner.Performing.{with_left, with_one_left}
use Rattle.qx_steps.proofs.FreeLemmas.{nobody-left, nobody_left, those_left}
use Rattle.qx_steps.proofs.LeftLemmas.{left-row, left-waits, one-alone, waiting-marked}
use Rattle.qx_steps.proofs.OwnerLemmas.{Owner, get-set, nobody, owner, sound-step, told_otherwise}
use Rattle.qx_steps.proofs.SettledLemmas.{settled-processes}
use Rattle.qx_steps.proofs.StillLemmas.{still-exit, still-left}

-- ---- where nothing waits, nothing goes

unmapped : {A : Type 0} (change : A → A) (count : ℕ) → map (option_map change) (replicate count None) ≡ replicate count None
unmapped change zero = refl
unmapped change (suc count) = ap (λ rows. None ∷ rows) (unmapped change count)

unpulsed : (count process : ℕ) → with_line (replicate {A = List Pulse} count []) process (λ queue. []) ≡ replicate count []
unpulsed zero process = refl
unpulsed (suc count) zero = refl
unpulsed (suc count) (suc process) = ap (λ rows. [] ∷ rows) (unpulsed count process)

-- ---- the end of the step

-- nothing is due, so the rows are as the process left them, without processes that are freed
settled-exit : (part : Part) (held : List OwnItem) (process : ℕ)
    → settle_part part held (with_process process ended (record part { resources = without_process process part.resources }))
    ≡ record {
      processes = processes_left held (without_process process part.resources).pipes 0 (with_row part.processes process ended);
      resources = without_process process part.resources;
    }
unfolding settle_part
settled-exit part held process =
    ap (λ (events : Events). record {
      processes = processes_left held (without_process process part.resources).pipes 0 (with_row part.processes process ended);
      resources = record (without_process process part.resources) { events = events };
    }) (settled-ended (is_living (with_row part.processes process ended)) part.resources process)

module _ (config : Configuration) (c : Channel) (ks : List (Option Kept)) (hands : List (Option Held)) (sound : IsSound config c ks hands) (proc : Proc) where
  abbrev w : World
  w = world_of config c ks hands

  abbrev held : List OwnItem
  held = own_held proc.user.0 hands

  -- the priority of the disconnect pulses
  abbrev prio : ℕ
  prio = (limits_of config proc.user.0).disconnect

  -- the channel once the user's processes are freed
  abbrev freed : Channel → Channel
  freed d = with_left d held proc.user.0

  -- what the step is to come to, by the channel and the outcome
  abbrev came : Channel → Outcome → After
  came d outcome = record { world = world_of config d ks hands; outcome = outcome }

  nobody-ends : row_at c.users proc.user.0 ≡ None → step w (Exit proc) ≡ came (freed (after_exit prio c proc)) (exit_outcome (living (process_of c.users proc)))
  unfolding step client
  nobody-ends none = rw (nobody config c ks hands sound proc.user.0 none, none, with_row-none c.users proc.user.0 (processes_left held (channel_pipes c proc.user.0) 0) none) refl

  module _ (ps : List (Option Process)) (o : Owner config c ks hands sound proc.user.0 ps) where
    abbrev r : Resources
    r = told o.k (lists c)

    its : process_of c.users proc ≡ row_at ps proc.num
    its = ap (process_of_user proc.num) o.users

    -- ---- a process that is not there, or has ended

    module _ (none : living (row_at ps proc.num) ≡ None) where
      refused : step w (Exit proc) ≡ record { world = w; outcome = WrongState }
      unfolding step client
      refused = rw (o.part, none, settled-processes ps ps r held o.left, set-row w.parts proc.user.0 (record { processes = ps; resources = r }) o.part) refl

      left : processes_left held (channel_pipes c proc.user.0) 0 ps ≡ ps
      left = subst (λ user. processes_left held (channel_pipes c user) 0 ps ≡ ps) o.own o.left

      unfreed : freed c ≡ c
      unfreed =
          those_left c held proc.user.0 ps o.users
          ∙ ap (λ users. record c { users = users }) (ap (λ rows. slice_set c.users proc.user.0 (Some rows)) left ∙ set-row c.users proc.user.0 ps o.users)

      row : living (process_of c.users proc) ≡ None
      row = ap living its ∙ none

      none-ends : step w (Exit proc) ≡ came (freed (after_exit prio c proc)) (exit_outcome (living (process_of c.users proc)))
      none-ends = refused ∙ sym (ap (λ row. came (freed (ended_in prio c proc row)) (exit_outcome row)) row ∙ ap (λ d. came d WrongState) unfreed)

    -- ---- a process that lives

    module _ (process : Process) (there : living (row_at ps proc.num) ≡ Some process) where
      -- the channel once it has ended, and the user's rows
      abbrev d : Channel
      d = ended_in prio c proc (Some process)

      abbrev qs : List (Option Process)
      qs = with_row ps proc.num ended

      abbrev q : Resources
      q = without_process proc.num r

      done : step w (Exit proc) ≡ record {
        world = record w { parts = slice_set w.parts proc.user.0 (Some (record { processes = processes_left held q.pipes 0 qs; resources = q })); lines = d.lines };
        outcome = Done;
      }
      unfolding step client
      done = rw (o.part, there, settled-exit (record { processes = ps; resources = r }) held proc.num) refl

      -- the channel once processes are freed
      row-left : row_at d.users proc.user.0 ≡ Some qs
      row-left = row_at-with_same c.users proc.user.0 (λ processes. with_row processes proc.num ended) ∙ ap (option_map (λ processes. with_row processes proc.num ended)) o.users

      abbrev e : Channel
      e = record d { users = slice_set d.users proc.user.0 (Some (processes_left held (channel_pipes d proc.user.0) 0 qs)) }

      freed-is : freed d ≡ e
      freed-is = those_left d held proc.user.0 qs row-left

      pipes-own : get_or d.pipes o.k.user no_pipes ≡ q.pipes
      pipes-own =
          ap (λ user. get_or d.pipes user no_pipes) o.own
          ∙ (get-set (map (option_map (with_abandoned proc.num))) no_pipes (unmapped (with_abandoned proc.num) (INODES + 1)) c.pipes proc.user.0
          ∙ ap (λ user. map (option_map (with_abandoned proc.num)) (channel_pipes c user)) (sym o.own))

      events-own : get_or d.events o.k.user no_events ≡ q.events
      events-own =
          ap (λ user. get_or d.events user no_events) o.own
          ∙ (get-set (without_pulses proc.num) no_events (ap (λ pulses. record no_events { pulses = pulses }) (unpulsed (PROCESSES + 1) proc.num)) c.events proc.user.0
          ∙ ap (λ user. without_pulses proc.num (channel_events c user)) (sym o.own))

      users-then : e.users ≡ slice_set c.users proc.user.0 (Some (processes_left held q.pipes 0 qs))
      users-then =
          set-set c.users proc.user.0 (option_map (λ processes. with_row processes proc.num ended) (row_at c.users proc.user.0)) (Some (processes_left held (channel_pipes d proc.user.0) 0 qs))
          ∙ ap (λ pipes. slice_set c.users proc.user.0 (Some (processes_left held pipes 0 qs))) (ap (λ user. get_or d.pipes user no_pipes) (sym o.own) ∙ pipes-own)

      others : (other : ℕ) (m : Kept) → row_at ks other ≡ Some m → ¬ (other ≡ proc.user.0) → told m (lists e) ≡ told m (lists c)
      others other m here differs =
          let apart : m.user ≢ proc.user.0 = λ same. differs (sym (sound.users.own other m here) ∙ same) in
          let pipes = get_or-set_other c.pipes proc.user.0 m.user (map (option_map (with_abandoned proc.num)) (channel_pipes c proc.user.0)) no_pipes apart in
          let events = get_or-set_other c.events proc.user.0 m.user (without_pulses proc.num (channel_events c proc.user.0)) no_events apart in
          λ i. record (told m (lists c)) { pipes = pipes i; events = events i }

      parts-then : parts_of e.users (told_all e ks) ≡ slice_set w.parts proc.user.0 (Some (record { processes = processes_left held q.pipes 0 qs; resources = q }))
      parts-then =
          told_otherwise config c ks hands sound proc.user.0 ps o e (processes_left held q.pipes 0 qs) q users-then (λ i. record r { pipes = pipes-own i; events = events-own i }) others

      row-there : living (process_of c.users proc) ≡ Some process
      row-there = ap living its ∙ there

      one-ends : step w (Exit proc) ≡ came (freed (after_exit prio c proc)) (exit_outcome (living (process_of c.users proc)))
      one-ends =
          done
          ∙ sym (ap (λ row. came (freed (ended_in prio c proc row)) (exit_outcome row)) row-there
          ∙ (ap (λ d. came d Done) freed-is ∙ ap (λ parts. record { world = record { config = config; parts = parts; lines = d.lines; hands = hands }; outcome = Done }) parts-then))

  -- no other process is freed

  module _ (ps : List (Option Process)) (o : Owner config c ks hands sound proc.user.0 ps) where
    before_left : processes_left held (channel_pipes c proc.user.0) 0 ps ≡ ps
    before_left = subst (λ user. processes_left held (channel_pipes c user) 0 ps ≡ ps) o.own o.left

    none-else : living (row_at ps proc.num) ≡ None → with_one_left (after_exit prio c proc) held proc ≡ freed (after_exit prio c proc)
    none-else none =
        let row : living (process_of c.users proc) ≡ None = ap living (ap (process_of_user proc.num) o.users) ∙ none in
        let same : row_left held (channel_pipes c proc.user.0) proc.num (row_at ps proc.num) ≡ row_at ps proc.num = left-row held (channel_pipes c proc.user.0) ps proc.num before_left in
        subst (λ row. with_one_left (ended_in prio c proc row) held proc ≡ freed (ended_in prio c proc row)) (sym row) (
        ap (λ users. record c { users = users }) (rw o.users (ap (λ rows. slice_set c.users proc.user.0 (Some rows)) (ap (slice_set ps proc.num) same ∙ set-row_at ps proc.num ∙ sym before_left)))
        )

    one-else : (process : Process) → living (row_at ps proc.num) ≡ Some process → with_one_left (after_exit prio c proc) held proc ≡ freed (after_exit prio c proc)
    one-else process there =
        let row : living (process_of c.users proc) ≡ Some process = ap living (ap (process_of_user proc.num) o.users) ∙ there in
        let d : Channel = ended_in prio c proc (Some process) in
        let x : Option Process = option_map ended (row_at ps proc.num) in
        let rows : row_at d.users proc.user.0 ≡ Some (slice_set ps proc.num x) = row_at-with_same c.users proc.user.0 (λ processes. with_row processes proc.num ended) ∙ ap (option_map (λ processes. with_row processes proc.num ended)) o.users in
        let pipes : channel_pipes d proc.user.0 ≡ map (option_map (with_abandoned proc.num)) (channel_pipes c proc.user.0) =
        get-set (map (option_map (with_abandoned proc.num))) no_pipes (unmapped (with_abandoned proc.num) (INODES + 1)) c.pipes proc.user.0 in
        let left : processes_left held (channel_pipes d proc.user.0) 0 ps ≡ ps =
        left-waits held (channel_pipes c proc.user.0) (channel_pipes d proc.user.0) (λ number. sym (ap (λ pipes. has_waiting pipes number) pipes ∙ waiting-marked proc.num number (channel_pipes c proc.user.0))) 0 ps before_left in
        let zeroth : 0 + proc.num ≡ proc.num = omega arith in
        let all : processes_left held (channel_pipes d proc.user.0) 0 (slice_set ps proc.num x) ≡ slice_set ps proc.num (row_left held (channel_pipes d proc.user.0) proc.num x) =
        one-alone held (channel_pipes d proc.user.0) 0 proc.num ps x left ∙ ap (λ n. slice_set ps proc.num (row_left held (channel_pipes d proc.user.0) n x)) zeroth in
        let its : row_at (slice_set ps proc.num x) proc.num ≡ x = row_at-with_same ps proc.num ended in
        let one : slice_set (slice_set ps proc.num x) proc.num (row_left held (channel_pipes d proc.user.0) proc.num (row_at (slice_set ps proc.num x) proc.num)) ≡ slice_set ps proc.num (row_left held (channel_pipes d proc.user.0) proc.num x) =
        set-set ps proc.num x (row_left held (channel_pipes d proc.user.0) proc.num (row_at (slice_set ps proc.num x) proc.num)) ∙ ap (λ y. slice_set ps proc.num (row_left held (channel_pipes d proc.user.0) proc.num y)) its in
        subst (λ row. with_one_left (ended_in prio c proc row) held proc ≡ freed (ended_in prio c proc row)) (sym row) (
        ap (λ users. record d { users = users }) (rw rows (ap (λ rows. slice_set d.users proc.user.0 (Some rows)) (one ∙ sym all)))
        )

  one-freed_alone : with_one_left (after_exit prio c proc) held proc ≡ freed (after_exit prio c proc)
  one-freed_alone = elim (option_cases (row_at c.users proc.user.0)) [
    | inl none ↦
        let row : living (process_of c.users proc) ≡ None = ap (λ processes. living (process_of_user proc.num processes)) none in
        subst (λ row. with_one_left (ended_in prio c proc row) held proc ≡ freed (ended_in prio c proc row)) (sym row) (nobody-left c held proc none ∙ sym (nobody_left c held proc.user.0 none))
    | inr ps ↦
        let o = owner config c ks hands sound proc.user.0 ps.0 ps.1 in
        elim (option_cases (living (row_at ps.0 proc.num))) [
          | inl none ↦ none-else ps.0 o none
          | inr process ↦ one-else ps.0 o process.0 process.1
        ]
  ]

  -- once the process is freed that ended, if nothing is left of it, all are that can be
  pub exit-freed : (old now : Channel) → old ≡ after_exit prio c proc → now ≡ record (with_one_left old held proc) { room = now.room } → now ≡ record (freed (after_exit prio c proc)) { room = now.room }
  exit-freed old now comes is =
      is ∙ ap {A = Channel} (λ d. record (with_one_left d held proc) { room = now.room }) comes ∙ ap {A = Channel} (λ d. record d { room = now.room }) one-freed_alone

  pub exit-step : step w (Exit proc) ≡ came (freed (after_exit prio c proc)) (exit_outcome (living (process_of c.users proc)))
  exit-step = elim (option_cases (row_at c.users proc.user.0)) [
    | inl none ↦ nobody-ends none
    | inr ps ↦
        let o = owner config c ks hands sound proc.user.0 ps.0 ps.1 in
        elim (option_cases (living (row_at ps.0 proc.num))) [
          | inl none ↦ none-ends ps.0 o none
          | inr process ↦ one-ends ps.0 o process.0 process.1
        ]
  ]

  pub exit-sound : (room : ℕ) → IsSound config (record (freed (after_exit prio c proc)) { room = room }) ks hands
  exit-sound room =
      sound-step config c ks hands sound (record (freed (after_exit prio c proc)) { room = room }) ks hands (Exit proc) (still-left (after_exit prio c proc) ks (still-exit c ks sound.users prio proc) held proc.user.0 room)
      (sym (ap (λ after. after.world) exit-step))
