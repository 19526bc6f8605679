-- A client's step, by what the channel makes of it.
use Rattle.std.proofs.Common.{◌≡◌, ◌≢◌, inl, inr, ℕ, List, Option, Some, None, Result, Ok, Err, slice_set, refl, sym, ap, ◌∙◌, false, true}
use Rattle.std.specs.Prelude.{⊤, IfOk, IsErr, IsTrue, is_some}
use Rattle.std.proofs.Math.Nat.{le-max_left, le_trans}
use Rattle.std.proofs.lemmas.Bool.{cases_Bool}
use Rattle.std.proofs.lemmas.Result.{IfOk-weaker}
use Rattle.qx_types.specs.UserLimits.{UserLimits}
use Rattle.qx_types.specs.Configuration.{Configuration, limits_of}
use Rattle.qx_base.specs.declared.errno.Errno.TheVariants.{EINTR}
use Rattle.qx_types.specs.declared.names.Prio.{Prio}
use Rattle.qx_types.specs.declared.names.Thread.{Thread}
use Rattle.qx_types.specs.declared.names.User.{User}
use Rattle.qx_types.specs.declared.outcome.Answer.{Answer}
use Rattle.qx_types.specs.declared.outcome.Outcome.{Outcome}
use Rattle.qx_types.specs.declared.outcome.Outcome.TheVariants.{Done, Sent, WrongState}
use Rattle.qx_types.specs.declared.request.Request.{Request}
use Rattle.qx_types.specs.declared.step.Step.{Step}
use Rattle.qx_types.specs.declared.step.Step.TheVariants.{Spawn, Call, TakeReply, SetPrio, Interrupt}
use Rattle.qx_paths.specs.Prefixes.{MountPoint}
use Rattle.qx_paths.specs.Mounts.{mounts_of}
use Rattle.qx_machine.specs.declared.rows.Addressed.{Addressed}
use Rattle.qx_isolation.specs.declared.rows.Held.{Held}
use Rattle.qx_isolation.specs.declared.rows.OwnItem.{OwnItem}
use Rattle.qx_machine.specs.declared.rows.Sent.{Sent as Message}
use Rattle.qx_machine.specs.declared.rows.State.{State}
use Rattle.qx_machine.specs.declared.rows.State.TheVariants as state
use Rattle.qx_machine.specs.declared.rows.ThreadRow.{ThreadRow}
use Rattle.qx_machine.specs.Clients.{answer_in, may_give, outcome_of, spawn_number, target_by}
use Rattle.qx_machine.specs.Laws.{is_refusal}
use Rattle.qx_machine.specs.Machine.{World, own_held, step}
use Rattle.qx_machine.specs.Parts.{thread_of}
use Rattle.qx_machine.specs.Resources.{Resources}
use Rattle.qx_machine.specs.Processes.{Process, asked_thread, new_process, ranked_thread, ready_thread, with_queued, with_thread}
use Rattle.qx_isolation.specs.Rows.{row_at, with_row}
use Rattle.qx_machine.specs.Users.{client, settle_part}
use Rattle.qx_machine.proofs.Living.{message-keeps}
use Rattle.qx_rows.proofs.RowLemmas.{set-row, with_row-none}
use Rattle.qx_resources.specs.State.{told, Kept}
use Rattle.qx_clients.specs.Calls.{after_or, spawn_outcome, spawned, with_prio}
use Rattle.qx_chan.specs.Calls.{queued_call}
use Rattle.qx_process.specs.Reads.{queued_in}
use Rattle.qx_chan.specs.Channel.{Channel, after_asking, after_interrupt, after_ranking, after_send, after_spawn, after_taking, after_withdrawing, failed, interrupt_outcome, lists}
use Rattle.qx_chan.specs.Sending.{HasMemory, after_call, call_target, sent_to, told_of}
use Rattle.qx_chan.specs.Users.{prio_outcome_in, spawn_number_in, thread_row}
use Rattle.qx_machine.specs.Reads.{answer_of, row_among_parts}
use Rattle.qx_steps.specs.inner.Parts.{parts_of, told_all, told_world, world_of, AreResourcesOf, IsSound}
use Rattle.qx_steps.specs.Steps.{target_in}
use Rattle.qx_chan.proofs.CallLemmas.{queued_is}
use Rattle.qx_chan.proofs.RowReads.{option_cases, result_cases}
use Rattle.qx_steps.proofs.LeftLemmas.{AreLeft, left-kept, left-put, left-thread, queued-keeps, starts}
use Rattle.qx_steps.proofs.OwnerLemmas.{Owner, nobody, others_kept, owner, sound-step}
use Rattle.qx_steps.proofs.SettledLemmas.{settled-processes}
use Rattle.qx_steps.proofs.StillLemmas.{still-asking, still-interrupting, still-ranking, still-send, still-spawn, still-taking, still-withdrawing, world-told}
use Rattle.qx_steps.proofs.PartsLemmas.{thread_row-told}

-- what a thread is told that takes its answer, if it has one
abbrev pub taken_outcome : Option Answer → Outcome
taken_outcome None = WrongState
taken_outcome (Some answer) = outcome_of answer

-- what a client is told of a call, by where it goes
abbrev pub call_outcome : Result Addressed Outcome → Outcome
call_outcome (Ok addressed) = Sent
call_outcome (Err outcome) = outcome

-- a thread's row among a user's processes
row_in : (c : Channel) (thread : Thread) (ps : List (Option Process)) (row : ThreadRow) → row_at c.users thread.proc.user.0 ≡ Some ps → thread_row c.users thread ≡ Some row → thread_of thread.tid (row_at ps thread.proc.num) ≡ Some row
row_in c thread ps row user is = rw user at is

module _ (config : Configuration) (c : Channel) (ks : List (Option Kept)) (hands : List (Option Held)) (sound : IsSound config c ks hands) where
  abbrev w : World
  w = world_of config c ks hands

  abbrev rs : List (Option Resources)
  rs = told_all c ks

  -- who is there, and a change of the processes
  abbrev TheOwner : ℕ → List (Option Process) → Type 0
  TheOwner = Owner config c ks hands sound

  abbrev the_owner : (user : ℕ) (ps : List (Option Process)) → row_at c.users user ≡ Some ps → TheOwner user ps
  the_owner = owner config c ks hands sound

  abbrev none_there : (user : ℕ) → row_at c.users user ≡ None → row_at w.parts user ≡ None
  none_there = nobody config c ks hands sound

  abbrev changed : (user : ℕ) (ps : List (Option Process)) (o : TheOwner user ps) (after : List (Option Process)) → parts_of (slice_set c.users user (Some after)) rs ≡ slice_set w.parts user (Some (record { processes = after; resources = told o.k (lists c) }))
  changed = others_kept config c ks hands sound

  -- the end of a step, by the user's processes then
  module _ (user : ℕ) (ps : List (Option Process)) (o : TheOwner user ps) where
    abbrev held : List OwnItem
    held = own_held user hands

    abbrev r : Resources
    r = told o.k (lists c)

    -- nothing is to be freed, and nothing is due
    ended_with : (after : List (Option Process)) → AreLeft held r.pipes 0 after → settle_part (record { processes = ps; resources = r }) held (record { processes = after; resources = r }) ≡ record { processes = after; resources = r }
    ended_with after left = settled-processes ps after r held left

    ended_same : settle_part (record { processes = ps; resources = r }) held (record { processes = ps; resources = r }) ≡ record { processes = ps; resources = r }
    ended_same = ended_with ps o.left

    put_back : slice_set w.parts user (Some (record { processes = ps; resources = r })) ≡ w.parts
    put_back = set-row w.parts user (record { processes = ps; resources = r }) o.part

  -- the channel alone tells the world after a step that leaves pipes and events
  by_channel : (e : Step) (d : Channel) (outcome : Outcome) → lists d ≡ lists c → step w e ≡ record { world = told_world config d rs hands; outcome = outcome } → step w e ≡ record { world = world_of config d ks hands; outcome = outcome }
  by_channel e d outcome waits is = is ∙ sym (ap (λ world. record { world = world; outcome = outcome }) (world-told config c d ks hands waits))

  -- ---- spawn

  under_limits : (user : User) (threads : ℕ) (prio : Prio) → let limits = limits_of config user.0 in step w (Spawn user threads prio)
      ≡ record { world = world_of config (after_spawn limits c user.0 threads prio.0) ks hands; outcome = spawn_outcome (spawn_number_in limits threads prio.0 (row_at c.users user.0)) }
  unfolding step client
  under_limits user threads prio =
      let limits = limits_of config user.0 in
      elim (option_cases (row_at c.users user.0)) [
        | inl none ↦ rw (none_there user.0 none, with_row-none c.users user.0 (λ processes. spawned processes threads prio.0 (spawn_number limits processes threads prio.0)) none, none) refl
        | inr ps ↦
            let o = the_owner user.0 ps.0 ps.1 in
            elim (result_cases (spawn_number limits ps.0 threads prio.0)) [
              | inl number ↦
                  let after = spawned ps.0 threads prio.0 (Ok number.0) in
                  let left = left-put (held user.0 ps.0 o) (r user.0 ps.0 o).pipes ps.0 number.0 (new_process threads prio.0) o.left (starts threads prio.0) in
                  rw (o.part, ps.1, number.1, ended_with user.0 ps.0 o after left, changed user.0 ps.0 o after) refl
              | inr refused ↦ rw (o.part, ps.1, refused.1, ended_same user.0 ps.0 o, changed user.0 ps.0 o ps.0) refl
            ]
      ]

  pub spawn-step : (limits : UserLimits) (user : User) (threads : ℕ) (prio : Prio) → limits ≡ limits_of config user.0 → step w (Spawn user threads prio)
      ≡ record { world = world_of config (after_spawn limits c user.0 threads prio.0) ks hands; outcome = spawn_outcome (spawn_number_in limits threads prio.0 (row_at c.users user.0)) }
  spawn-step limits user threads prio is = rw is (under_limits user threads prio)

  -- ---- take_reply and set_prio

  reply_taken : (thread : Thread) → step w (TakeReply thread) ≡ record { world = told_world config (after_taking c thread) rs hands; outcome = taken_outcome (answer_of (thread_row c.users thread)) }
  unfolding step client
  reply_taken thread = elim (option_cases (row_at c.users thread.proc.user.0)) [
    | inl none ↦ rw (none_there thread.proc.user.0 none, none) refl
    | inr ps ↦
        let o = the_owner thread.proc.user.0 ps.0 ps.1 in
        elim (option_cases (thread_of thread.tid (row_at ps.0 thread.proc.num))) [
          | inl none ↦ rw (o.part, ps.1, none, ended_same thread.proc.user.0 ps.0 o, put_back thread.proc.user.0 ps.0 o) refl
          | inr row ↦ elim (option_cases (answer_in row.0.state)) [
            | inl none ↦ rw (o.part, ps.1, row.1, none, ended_same thread.proc.user.0 ps.0 o, put_back thread.proc.user.0 ps.0 o) refl
            | inr given ↦
                let after = with_row ps.0 thread.proc.num (with_thread thread.tid ready_thread) in
                let left = left-thread (held thread.proc.user.0 ps.0 o) (r thread.proc.user.0 ps.0 o).pipes ps.0 thread.proc.num thread.tid ready_thread o.left in
                rw (o.part, ps.1, row.1, given.1, ps.1, ended_with thread.proc.user.0 ps.0 o after left, changed thread.proc.user.0 ps.0 o after) refl
          ]
        ]
  ]

  pub take_reply-step : (thread : Thread) → step w (TakeReply thread)
      ≡ record { world = world_of config (after_taking c thread) ks hands; outcome = taken_outcome (answer_of (thread_row c.users thread)) }
  take_reply-step thread = by_channel (TakeReply thread) (after_taking c thread) (taken_outcome (answer_of (thread_row c.users thread))) (still-taking c ks sound.users thread).waits (reply_taken thread)

  ranked_under : (thread : Thread) (prio : Prio) → let ceiling = (limits_of config thread.proc.user.0).ceiling in step w (SetPrio thread prio)
      ≡ record { world = world_of config (after_ranking ceiling c thread prio.0) ks hands; outcome = prio_outcome_in ceiling thread.proc.num thread.tid prio.0 (row_at c.users thread.proc.user.0) }
  unfolding step client
  ranked_under thread prio =
      let ceiling = (limits_of config thread.proc.user.0).ceiling in
      elim (option_cases (row_at c.users thread.proc.user.0)) [
        | inl none ↦ rw (none_there thread.proc.user.0 none, with_row-none c.users thread.proc.user.0 (λ processes. after_or processes (with_prio ceiling processes thread.proc.num thread.tid prio.0)) none, none) refl
        | inr ps ↦
            let o = the_owner thread.proc.user.0 ps.0 ps.1 in
            elim (option_cases (row_at ps.0 thread.proc.num)) [
              | inl none ↦ rw (o.part, ps.1, none, ended_same thread.proc.user.0 ps.0 o, changed thread.proc.user.0 ps.0 o ps.0) refl
              | inr x ↦ elim (option_cases (row_at x.0.threads thread.tid)) [
                | inl none ↦ rw (o.part, ps.1, x.1, none, ended_same thread.proc.user.0 ps.0 o, changed thread.proc.user.0 ps.0 o ps.0) refl
                | inr row ↦ elim (result_cases (may_give ceiling prio.0)) [
                  | inl allowed ↦
                      let after = with_row ps.0 thread.proc.num (with_thread thread.tid (ranked_thread prio.0)) in
                      let left = left-thread (held thread.proc.user.0 ps.0 o) (r thread.proc.user.0 ps.0 o).pipes ps.0 thread.proc.num thread.tid (ranked_thread prio.0) o.left in
                      rw (o.part, ps.1, x.1, row.1, allowed.1, rw (x.1, row.1) at (ended_with thread.proc.user.0 ps.0 o after left), rw (x.1, row.1) at (changed thread.proc.user.0 ps.0 o after)) refl
                  | inr refused ↦ rw (o.part, ps.1, x.1, row.1, refused.1, ended_same thread.proc.user.0 ps.0 o, changed thread.proc.user.0 ps.0 o ps.0) refl
                ]
              ]
            ]
      ]

  pub set_prio-step : (ceiling : ℕ) (thread : Thread) (prio : Prio) → ceiling ≡ (limits_of config thread.proc.user.0).ceiling → step w (SetPrio thread prio)
      ≡ record { world = world_of config (after_ranking ceiling c thread prio.0) ks hands; outcome = prio_outcome_in ceiling thread.proc.num thread.tid prio.0 (row_at c.users thread.proc.user.0) }
  set_prio-step ceiling thread prio is = rw is (ranked_under thread prio)

  -- ---- call

  -- where a call goes in the channel, it goes in the world
  call_target-told : (thread : Thread) (request : Request) → call_target config c thread request ≡ target_in w thread request
  call_target-told thread request = elim (option_cases (row_at c.users thread.proc.user.0)) [
    | inl none ↦ rw (none, none_there thread.proc.user.0 none) refl
    | inr ps ↦
        let o = the_owner thread.proc.user.0 ps.0 ps.1 in
        rw (ps.1, o.part) (ap (λ number. target_by config thread.proc.user.0 (mounts_of c.mounts number) ps.0 thread request) (sym o.own))
  ]

  call-refused : (thread : Thread) (request : Request) (outcome : Outcome) → target_in w thread request ≡ Err outcome → step w (Call thread request) ≡ record { world = w; outcome = outcome }
  unfolding step client
  call-refused thread request outcome is = elim (option_cases (row_at c.users thread.proc.user.0)) [
    | inl none ↦
        let nobody = none_there thread.proc.user.0 none in
        let its : Err WrongState ≡ Err outcome = rw nobody at is in
        rw nobody (ap (λ o. record { world = w; outcome = o }) (cc))
    | inr ps ↦
        let o = the_owner thread.proc.user.0 ps.0 ps.1 in
        let its : target_by config thread.proc.user.0 (mounts_of c.mounts o.k.user) ps.0 thread request ≡ Err outcome = rw o.part at is in
        rw (o.part, its, ended_same thread.proc.user.0 ps.0 o, put_back thread.proc.user.0 ps.0 o) refl
  ]

  -- who calls has a row
  caller : (user : ℕ) (mounts : List MountPoint) (ps : List (Option Process)) (thread : Thread) (request : Request) (addressed : Addressed) → target_by config user mounts ps thread request ≡ Ok addressed
      → (row : ThreadRow) × (thread_of thread.tid (row_at ps thread.proc.num) ≡ Some row)
  caller user mounts ps thread request addressed is = elim (option_cases (row_at ps thread.proc.num)) [
    | inl none ↦ let clash : Err WrongState ≡ Ok addressed = rw none at is in absurd (cc)
    | inr process ↦ elim (option_cases (row_at process.0.threads thread.tid)) [
      | inl none ↦ let clash : Err WrongState ≡ Ok addressed = rw (process.1, none) at is in absurd (cc)
      | inr row ↦ (row.0, rw process.1 row.1)
    ]
  ]

  call-sent : (thread : Thread) (request : Request) (addressed : Addressed) → target_in w thread request ≡ Ok addressed
      → step w (Call thread request) ≡ record { world = world_of config (after_send c thread (sent_to addressed request)) ks hands; outcome = Sent }
  unfolding step client
  call-sent thread request addressed is = elim (option_cases (row_at c.users thread.proc.user.0)) [
    | inl none ↦ let clash : Err WrongState ≡ Ok addressed = rw (none_there thread.proc.user.0 none) at is in absurd (cc)
    | inr ps ↦
        let o = the_owner thread.proc.user.0 ps.0 ps.1 in
        let its : target_by config thread.proc.user.0 (mounts_of c.mounts o.k.user) ps.0 thread request ≡ Ok addressed = rw o.part at is in
        let row = caller thread.proc.user.0 (mounts_of c.mounts o.k.user) ps.0 thread request addressed its in
        let sent = sent_to addressed request in
        let after = with_row ps.0 thread.proc.num (with_queued thread.tid sent) in
        let left = left-kept (held thread.proc.user.0 ps.0 o) (r thread.proc.user.0 ps.0 o).pipes ps.0 thread.proc.num thread.tid row.0 (with_queued thread.tid sent) o.left row.1 (queued-keeps thread.tid sent) in
        rw (o.part, its, ps.1, ended_with thread.proc.user.0 ps.0 o after left, changed thread.proc.user.0 ps.0 o after) refl
  ]

  pub call-step : (thread : Thread) (request : Request) → step w (Call thread request)
      ≡ record { world = world_of config (after_call c thread request (call_target config c thread request)) ks hands; outcome = call_outcome (call_target config c thread request) }
  call-step thread request = elim (result_cases (call_target config c thread request)) [
    | inl goes ↦ rw goes.1 (call-sent thread request goes.0 (sym (call_target-told thread request) ∙ goes.1))
    | inr refused ↦ rw refused.1 (call-refused thread request refused.0 (sym (call_target-told thread request) ∙ refused.1))
  ]

  -- a call that has its memory in the world, with none kept, has it in the channel
  pub has-memory : (kept : ℕ) (thread : Thread) (request : Request) → IfOk (target_in w thread request) (HasMemory 0 (row_among_parts w.parts thread) request) → IfOk (call_target config c thread request) (HasMemory kept (thread_row c.users thread) request)
  has-memory kept thread request has =
      rw (call_target-told thread request, ← thread_row-told c ks thread sound.users)
      (IfOk-weaker (target_in w thread request) _ _ (λ addressed it. record { over = it.over; message = le_trans it.message (le-max_left _ kept); room = it.room }) has)

  -- ---- interrupt

  -- the priority of its disconnect pulse
  abbrev pulse_prio : Thread → ℕ
  pulse_prio thread = (limits_of config thread.proc.user.0).disconnect

  interrupt-nobody : (thread : Thread) → thread_row c.users thread ≡ None → step w (Interrupt thread) ≡ record { world = w; outcome = WrongState }
  unfolding step client
  interrupt-nobody thread none = elim (option_cases (row_at c.users thread.proc.user.0)) [
    | inl nobody ↦ rw (none_there thread.proc.user.0 nobody) refl
    | inr ps ↦
        let o = the_owner thread.proc.user.0 ps.0 ps.1 in
        let its : thread_of thread.tid (row_at ps.0 thread.proc.num) ≡ None = rw ps.1 at none in
        rw (o.part, its, ended_same thread.proc.user.0 ps.0 o, put_back thread.proc.user.0 ps.0 o) refl
  ]

  module _ (thread : Thread) (row : ThreadRow) (ps : List (Option Process)) (o : TheOwner thread.proc.user.0 ps) (its : thread_of thread.tid (row_at ps thread.proc.num) ≡ Some row) where
    -- a thread that waits for nothing is not asked
    unasked-ready : row.state ≡ state.Ready → step w (Interrupt thread) ≡ record { world = told_world config (after_asking c thread) rs hands; outcome = Done }
    unfolding step client
    unasked-ready is = rw (o.part, o.users, its, is, ended_same thread.proc.user.0 ps o, put_back thread.proc.user.0 ps o) refl

    unasked-answered : (answer : Answer) → row.state ≡ state.Answered answer → step w (Interrupt thread) ≡ record { world = told_world config (after_asking c thread) rs hands; outcome = Done }
    unfolding step client
    unasked-answered answer is = rw (o.part, o.users, its, is, ended_same thread.proc.user.0 ps o, put_back thread.proc.user.0 ps o) refl

    module _ (sent : Message) where
      -- the thread is answered EINTR, or asked
      abbrev failing : Process → Process
      failing = failed thread.tid EINTR sent.target.over

      failed_left : AreLeft (held thread.proc.user.0 ps o) (r thread.proc.user.0 ps o).pipes 0 (with_row ps thread.proc.num failing)
      failed_left =
          left-kept (held thread.proc.user.0 ps o) (r thread.proc.user.0 ps o).pipes ps thread.proc.num thread.tid row failing o.left its (message-keeps thread.tid sent.target.over (Err EINTR))

      asked_left : AreLeft (held thread.proc.user.0 ps o) (r thread.proc.user.0 ps o).pipes 0 (with_row ps thread.proc.num (with_thread thread.tid asked_thread))
      asked_left = left-thread (held thread.proc.user.0 ps o) (r thread.proc.user.0 ps o).pipes ps thread.proc.num thread.tid asked_thread o.left

      dismisses : row.state ≡ state.Queued sent → step w (Interrupt thread) ≡ record { world = told_world config (after_withdrawing (pulse_prio thread) c thread) rs hands; outcome = Done }
      unfolding step client
      dismisses is =
          rw (o.part, o.users, its, is, o.users, ended_with thread.proc.user.0 ps o (with_row ps thread.proc.num failing) failed_left, changed thread.proc.user.0 ps o (with_row ps thread.proc.num failing)) refl

      asks : row.state ≡ state.Taken sent → step w (Interrupt thread) ≡ record { world = told_world config (after_asking c thread) rs hands; outcome = Done }
      unfolding step client
      asks is = elim (cases_Bool sent.is_asked) [
        | inl asked ↦ rw (o.part, o.users, its, is, asked, ended_same thread.proc.user.0 ps o, put_back thread.proc.user.0 ps o) refl
        | inr unasked ↦
            rw (o.part, o.users, its, is, unasked, o.users, ended_with thread.proc.user.0 ps o (with_row ps thread.proc.num (with_thread thread.tid asked_thread)) asked_left, changed thread.proc.user.0 ps o (with_row ps thread.proc.num (with_thread thread.tid asked_thread))) refl
      ]

      asks_waiting : row.state ≡ state.Waiting sent → step w (Interrupt thread) ≡ record { world = told_world config (after_asking c thread) rs hands; outcome = Done }
      unfolding step client
      asks_waiting is = elim (cases_Bool sent.is_asked) [
        | inl asked ↦ rw (o.part, o.users, its, is, asked, ended_same thread.proc.user.0 ps o, put_back thread.proc.user.0 ps o) refl
        | inr unasked ↦
            rw (o.part, o.users, its, is, unasked, o.users, ended_with thread.proc.user.0 ps o (with_row ps thread.proc.num (with_thread thread.tid asked_thread)) asked_left, changed thread.proc.user.0 ps o (with_row ps thread.proc.num (with_thread thread.tid asked_thread))) refl
      ]

  -- a thread that is there, among the processes and the rows of its user
  record There (thread : Thread) (row : ThreadRow) : Type 0 where
    ps : List (Option Process)
    o : TheOwner thread.proc.user.0 ps
    its : thread_of thread.tid (row_at ps thread.proc.num) ≡ Some row

  there_by : (thread : Thread) (row : ThreadRow) → thread_row c.users thread ≡ Some row → There thread row
  there_by thread row is = elim (option_cases (row_at c.users thread.proc.user.0)) [
    | inl none ↦ let clash : None ≡ Some row = rw none at is in absurd (cc)
    | inr ps ↦ record { ps = ps.0; o = the_owner thread.proc.user.0 ps.0 ps.1; its = row_in c thread ps.0 row ps.1 is }
  ]

  interrupt-queued : (thread : Thread) (row : ThreadRow) (sent : Message) → thread_row c.users thread ≡ Some row → row.state ≡ state.Queued sent
      → step w (Interrupt thread) ≡ record { world = world_of config (after_withdrawing (pulse_prio thread) c thread) ks hands; outcome = Done }
  interrupt-queued thread row sent there is =
      let it = there_by thread row there in
      by_channel (Interrupt thread) (after_withdrawing (pulse_prio thread) c thread) Done (still-withdrawing c ks sound.users (pulse_prio thread) thread).waits (dismisses thread row it.ps it.o it.its sent is)

  interrupt-unqueued : (thread : Thread) (row : ThreadRow) → thread_row c.users thread ≡ Some row → queued_in row.state ≡ None
      → step w (Interrupt thread) ≡ record { world = world_of config (after_asking c thread) ks hands; outcome = Done }
  interrupt-unqueued thread row there unqueued = by_channel (Interrupt thread) (after_asking c thread) Done (still-asking c ks sound.users thread).waits (by_state row.state refl unqueued)
    where
      it : There thread row
      it = there_by thread row there

      by_state : (given : State) → row.state ≡ given → queued_in given ≡ None → step w (Interrupt thread) ≡ record { world = told_world config (after_asking c thread) rs hands; outcome = Done }
      by_state state.Ready same is = unasked-ready thread row it.ps it.o it.its same
      by_state (state.Queued sent) same is = absurd (cc)
      by_state (state.Taken sent) same is = asks thread row it.ps it.o it.its sent same
      by_state (state.Waiting sent) same is = asks_waiting thread row it.ps it.o it.its sent same
      by_state (state.Answered answer) same is = unasked-answered thread row it.ps it.o it.its answer same

  pub interrupt-step : (thread : Thread) → step w (Interrupt thread) ≡ record { world = world_of config (after_interrupt (pulse_prio thread) c thread) ks hands; outcome = interrupt_outcome (thread_row c.users thread) }
  interrupt-step thread = elim (option_cases (thread_row c.users thread)) [
    | inl none ↦ rw none (interrupt-nobody thread none)
    | inr row ↦
        let told : interrupt_outcome (thread_row c.users thread) ≡ Done = rw row.1 refl in
        elim (option_cases (queued_in row.0.state)) [
          | inl none ↦
              let unqueued : is_some (queued_call (thread_row c.users thread)) ≡ false = rw (row.1, none) refl in
              rw (unqueued, told) (interrupt-unqueued thread row.0 row.1 none)
          | inr sent ↦
              let queued : is_some (queued_call (thread_row c.users thread)) ≡ true = rw (row.1, sent.1) refl in
              rw (queued, told) (interrupt-queued thread row.0 sent.0 row.1 (queued_is row.0.state sent.0 sent.1))
        ]
  ]

  -- ---- what is sound still

  after_sound : (e : Step) (d : Channel) (outcome : Outcome) → AreResourcesOf d ks → step w e ≡ record { world = world_of config d ks hands; outcome = outcome } → IsSound config d ks hands
  after_sound e d outcome users is = sound-step config c ks hands sound d ks hands e users (sym (ap (λ after. after.world) is))

  pub spawn-sound : (limits : UserLimits) (user : User) (threads : ℕ) (prio : Prio) → limits ≡ limits_of config user.0 → IsSound config (after_spawn limits c user.0 threads prio.0) ks hands
  spawn-sound limits user threads prio is = after_sound _ _ _ (still-spawn c ks sound.users limits user.0 threads prio.0) (spawn-step limits user threads prio is)

  pub take_reply-sound : (thread : Thread) → IsSound config (after_taking c thread) ks hands
  take_reply-sound thread = after_sound _ _ _ (still-taking c ks sound.users thread).of (take_reply-step thread)

  pub set_prio-sound : (ceiling : ℕ) (thread : Thread) (prio : Prio) → ceiling ≡ (limits_of config thread.proc.user.0).ceiling → IsSound config (after_ranking ceiling c thread prio.0) ks hands
  set_prio-sound ceiling thread prio is = after_sound _ _ _ (still-ranking c ks sound.users ceiling thread prio.0) (set_prio-step ceiling thread prio is)

  still_called : (thread : Thread) (request : Request) (given : Result Addressed Outcome) → AreResourcesOf (after_call c thread request given) ks
  still_called thread request (Ok addressed) = still-send c ks sound.users thread (sent_to addressed request)
  still_called thread request (Err outcome) = sound.users

  pub call-sound : (thread : Thread) (request : Request) → IsSound config (after_call c thread request (call_target config c thread request)) ks hands
  call-sound thread request = after_sound _ _ _ (still_called thread request (call_target config c thread request)) (call-step thread request)

  pub interrupt-sound : (thread : Thread) → IsSound config (after_interrupt (pulse_prio thread) c thread) ks hands
  interrupt-sound thread = after_sound _ _ _ (still-interrupting c ks sound.users (pulse_prio thread) thread).of (interrupt-step thread)

-- a spawn that is refused
pub spawn-refused : (number : Result ℕ Outcome) → IsTrue (is_refusal (spawn_outcome number)) → IsErr number
spawn-refused (Ok number) refusal = refusal
spawn-refused (Err outcome) refusal = refl

-- a call that is refused
pub call-refusal : (given : Result Addressed Outcome) → IsTrue (is_refusal (call_outcome given)) → IsErr given
call-refusal (Ok addressed) refusal = refusal
call-refusal (Err outcome) refusal = refl

-- what the channel tells of a call, as the client is told of it
pub told-sent : (given : Result Addressed Outcome) (told : Result ⊤ Outcome) → told ≡ told_of given → ((outcome : Outcome) → told ≢ Err outcome) → call_outcome given ≡ Sent
told-sent (Ok addressed) told is sent = refl
told-sent (Err outcome) told is sent = absurd (sent outcome is)

pub told-refused : (given : Result Addressed Outcome) (outcome : Outcome) → Err outcome ≡ told_of given → call_outcome given ≡ outcome
told-refused (Ok addressed) outcome is = absurd (cc)
told-refused (Err refused) outcome is = cc
