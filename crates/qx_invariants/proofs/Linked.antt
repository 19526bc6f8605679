-- What a client does: connections, open control blocks and disconnect pulses stand together still, and so they do whatever steps are taken.
use Rattle.std.proofs.Common.{◌≡◌, inl, inr, ℕ, ◌+◌, false, true, List, [], ◌∷◌, ◌++◌, map, refl, sym, ap, ◌∙◌, arith}
use Rattle.std.specs.Prelude.{Option, Some, None, Result, Ok, Err, is_none}
use Rattle.std.proofs.lemmas.Bool.{cond_both}
use Rattle.std.proofs.lemmas.List.Sums.{sum_by-append}
use Rattle.std.proofs.lemmas.Option.{same_Some}
use Rattle.qx_types.specs.Configuration.{Configuration, limits_of}
use Rattle.qx_types.specs.UserLimits.{UserLimits}
use Rattle.qx_base.specs.declared.errno.Errno.TheVariants.{EINTR}
use Rattle.qx_types.specs.declared.limits.TheConstants.Limits.{FIRST_CONNECTION, INODES}
use Rattle.qx_types.specs.declared.names.Thread.{Thread}
use Rattle.qx_types.specs.declared.outcome.Answer.TheVariants as answer
use Rattle.qx_types.specs.declared.outcome.Outcome.{Outcome}
use Rattle.qx_types.specs.declared.outcome.Outcome.TheVariants.{WrongState}
use Rattle.qx_types.specs.declared.request.Request.{Request}
use Rattle.qx_types.specs.declared.step.Step.{Step}
use Rattle.qx_types.specs.declared.step.Step.TheVariants.{Spawn, Exit, Call, TakeReply, TakePulse, SetPrio, Interrupt, Mount}
use Rattle.qx_paths.specs.Prefixes.{MountPoint}
use Rattle.qx_machine.specs.declared.rows.Addressed.{Addressed}
use Rattle.qx_machine.specs.declared.rows.Client.{Client}
use Rattle.qx_machine.specs.declared.rows.Connection.{Connection}
use Rattle.qx_machine.specs.declared.rows.Over.{Over}
use Rattle.qx_machine.specs.declared.rows.Over.TheVariants.{Existing, New, Side}
use Rattle.qx_isolation.specs.declared.rows.OwnItem.{OwnItem}
use Rattle.qx_isolation.specs.declared.rows.OwnItem.TheVariants as item
use Rattle.qx_machine.specs.declared.rows.Pulse.{Pulse}
use Rattle.qx_machine.specs.declared.rows.Sent.{Sent}
use Rattle.qx_machine.specs.declared.rows.State.{State}
use Rattle.qx_machine.specs.declared.rows.State.TheVariants as state
use Rattle.qx_machine.specs.declared.rows.ThreadRow.{ThreadRow}
use Rattle.qx_machine.specs.Calls.{bytes_of, content_of}
use Rattle.qx_machine.specs.Clients.{ClientStep, answer_in, call, client_given, dropped, dropped_by, dropped_in, interrupt_in, may_give, mount_by, or_unchanged, pulse_taken, set_prio, spawn, spawn_number, take_reply, target_by, without_process}
use Rattle.qx_machine.specs.Events.{first_pulse}
use Rattle.qx_machine.specs.Functions.{new_coid}
use Rattle.qx_isolation.specs.Judgements.{found}
use Rattle.qx_machine.specs.Mounting.{with_mount}
use Rattle.qx_machine.specs.Parts.{Change, Part, Put, Remove, disconnect, disconnects, thread_at, with_process}
use Rattle.qx_machine.specs.Processes.{Process, after_error, answered_thread, asked_thread, ended, has_ended, living, lost_servers, new_process, queued_thread, ranked_thread, ready_thread, with_over, with_queued, with_thread}
use Rattle.qx_isolation.specs.Rows.{put_row, row_at, with_row}
use Rattle.qx_machine.specs.Users.{boot_part, client}
use Rattle.qx_machine.proofs.Gives.{Gives, found-row, gives_by, gives_done, gives_error, gives_on, gives-value}
use Rattle.qx_isolation.proofs.Places.{lowest_from_free}
use Rattle.qx_attr.specs.inner.Counts.{one}
use Rattle.qx_attr.proofs.CountLemmas.{count-put}
use Rattle.qx_attr.proofs.TableLemmas.{row-put}
use Rattle.qx_iofunc.proofs.StoreLemmas.{row_at-none}
use Rattle.qx_invariants.specs.Holds.{has_open}
use Rattle.qx_invariants.specs.Waits.{is_foreign}
use Rattle.qx_invariants.proofs.Calls.{abandoned_part}
use Rattle.qx_invariants.proofs.Clients.{CanSend, StandsWell, row_lives, settle_well, take_well, target-sends, thread_there, well_boot, well_kept}
use Rattle.qx_invariants.proofs.Connected.{Connected, alike_connected, alike_with, fewer_connected, thread_alike}
use Rattle.qx_invariants.proofs.Counts.{abandoned_count, count-cons}
use Rattle.qx_invariants.proofs.Effects.{error_connected}
use Rattle.qx_invariants.proofs.Holdings.{holding}
use Rattle.qx_invariants.proofs.Items.{IsKeptWith, is_put_pulse, puts}
use Rattle.qx_invariants.proofs.Lost.{is_left_at, left_of}
use Rattle.qx_invariants.proofs.Moving.{Moved, kept_moved, loses_all, loses_none, moved_connected, same_moved}
use Rattle.qx_invariants.proofs.Once.{living-there, none_wait, spawn_free}
use Rattle.qx_invariants.proofs.Parted.{serve_connected, settle_connected, take_connected}
use Rattle.qx_invariants.proofs.Sending.{target_in, unopened_at}
use Rattle.qx_invariants.proofs.Served.{IsResettled, ended_resettled, over_resettled}
use Rattle.qx_invariants.proofs.Sound.{IsSound}
use Rattle.qx_invariants.proofs.Together.{none_there}

-- ---- what goes from lines

-- of a process that ends no disconnect pulse is put by what it had in lines
dropped_none : (own : Client) (process thread : ℕ) (rows : List (Option ThreadRow)) → puts own (dropped process thread rows) ≡ 0
dropped_none own process thread [] = refl
dropped_none own process thread (row ∷ rows) =
    let both = sum_by-append (λ change. one (is_put_pulse own change)) (dropped_by process thread row) (dropped process (thread + 1) rows) in
    let first = of_row row in
    let rest = dropped_none own process (thread + 1) rows in
    omega (arith, both, first, rest)
  where
    of_state : (calls : ℕ) (s : State) → puts own (dropped_in process thread calls s) ≡ 0
    of_state calls (state.Queued sent) = refl
    of_state calls (state.Taken sent) = refl
    of_state calls (state.Waiting sent) = refl
    of_state calls _ = refl

    of_row : (place : Option ThreadRow) → puts own (dropped_by process thread place) ≡ 0
    of_row None = refl
    of_row (Some there) = of_state there.calls there.state

-- ---- what a client does

module _ (part : Part) (named : Client → ℕ) (well : StandsWell part) (h : Connected part named) where
  abbrev Gave : ClientStep → Type 0
  Gave given = Connected given.part (λ own. named own + puts own given.changes)

  -- no disconnect pulse is put
  quiet : (now : Part) → Connected now named → (changes : List Change) → ((own : Client) → puts own changes ≡ 0) → Connected now (λ own. named own + puts own changes)
  quiet now is changes none = fewer_connected now named (λ own. named own + puts own changes) (λ own. let no = none own in omega (arith, no)) is

  -- one thread changes
  thread_connected : (number thread : ℕ) (change : ThreadRow → ThreadRow) → Connected (with_process number (with_thread thread change) part) named
  thread_connected number thread change = alike_connected part named (with_row part.processes number (with_thread thread change)) (alike_with part.processes number (with_thread thread change) (λ process there. thread_alike process thread change)) h

  -- ---- a process comes

  spawned : (number threads prio : ℕ) → row_at part.processes number ≡ None → Connected (record part { processes = put_row part.processes number (new_process threads prio) }) named
  spawned number threads prio free = record {
    pulses = λ own. let few = h.pulses own in elim (row-put part.processes number (new_process threads prio) free own.process) [
      | inl same ↦ let alike : one (is_left_at (put_row part.processes number (new_process threads prio)) own) ≡ one (is_left_at part.processes own) = ap (λ row. one (left_of own.server row)) same in omega (arith, few, alike)
      | inr new ↦ let none : one (is_left_at part.processes own) ≡ 0 = ap (λ row. one (left_of own.server row)) new.1 in omega (arith, few, none)
    ];
    has = record {
      opened = λ n process there coid connection which at has. elim (row-put part.processes number (new_process threads prio) free n) [
        | inl same ↦ h.has.opened n process (sym same ∙ there) coid connection which at has
        | inr new ↦ let clash : None ≡ Some connection = sym (row_at-none FIRST_CONNECTION coid) ∙ (ap (λ (p : Process). row_at p.connections coid) (same_Some _ _ (sym new.0 ∙ there)) ∙ at) in absurd (cc)
      ];
      uses = λ which block at process there lives. elim (row-put part.processes number (new_process threads prio) free block.client.process) [
        | inl same ↦ h.has.uses which block at process (sym same ∙ there) lives
        | inr new ↦ let own = well.clientele.has.clients which block at in let clash : None ≡ Some own.process = sym new.1 ∙ own.there in absurd (cc)
      ];
    };
    waiters = h.waiters;
  }

  spawn_connected : (limits : UserLimits) (threads prio : ℕ) → Gives Gave (spawn limits part threads prio)
  spawn_connected limits threads prio =
      gives_by (λ number. row_at part.processes number ≡ None) _ (spawn_number limits part.processes threads prio) _ (spawn_free limits part threads prio) (λ number free.
      gives_done _ _ (quiet (record part { processes = put_row part.processes number (new_process threads prio) }) (spawned number threads prio free) [] (λ own. refl)))

  -- ---- a process ends

  exit_connected : (prio number : ℕ) (process : Process) → row_at part.processes number ≡ Some process → Connected (with_process number ended (record part { resources = without_process number part.resources })) (λ own. named own + puts own (dropped number 0 process.threads ++ map (disconnect prio number) (lost_servers process (ended process))))
  exit_connected prio number process there =
      let lost : List Change = map (disconnect prio number) (lost_servers process (ended process)) in
      fewer_connected (with_process number ended (record part { resources = without_process number part.resources })) (λ own. named own + puts own lost) (λ own. named own + puts own (dropped number 0 process.threads ++ lost))
      (λ own. let both = sum_by-append (λ change. one (is_put_pulse own change)) (dropped number 0 process.threads) lost in let none = dropped_none own number 0 process.threads in omega (arith, both, none))
      (moved_connected part named h number process there ended (without_process number part.resources) lost (loses_all number process (ended process) (ended_resettled process) (well.clientele.sound number process there).served prio) (record {
        opened = λ coid connection which at has. let clash : None ≡ Some connection = at in absurd (cc);
        uses = λ which block at its lives. let clash : true ≡ false = lives in absurd (cc);
        stay = λ which block at apart. ap holding at;
        were = λ which block at apart. ap holding at;
        waiters = record {
          none_foreign =
              abandoned_count number (is_foreign part.resources.inodes.blocks) (is_foreign part.resources.inodes.blocks) (λ call. abandoned_part number call (is_foreign part.resources.inodes.blocks) refl) part.resources.pipes ∙ h.waiters.none_foreign;
        };
      }))

  -- ---- a message is sent

  module _ (number thread : ℕ) (sent : Sent) (can : CanSend part number thread sent.target) where
    its_sound : IsSound part.resources.mounts can.process
    its_sound = well.clientele.sound number can.process can.process_there

    lives : has_ended can.process ≡ false
    lives = row_lives can.process thread can.row can.row_there

    abbrev sending : Over → Process
    sending over = with_over thread sent.target.manager over (with_thread thread (queued_thread sent) can.process)

    again : (over : Over) → IsResettled can.process (sending over)
    again over = over_resettled can.process its_sound.served thread (queued_thread sent) over sent.target.manager

    -- its new connection has nothing open
    sent_moved : (over : Over) → sent.target.over ≡ over → Moved part.resources number (sending over) part.resources
    sent_moved (New coid) is =
        let free : row_at can.process.connections coid.0 ≡ None = ap (row_at can.process.connections) (can.addressed.free coid (ap new_coid is)) ∙ lowest_from_free FIRST_CONNECTION can.process.connections in
        kept_moved part named h number can.process can.process_there lives its_sound.served (sending (New coid)) (again (New coid)) part.resources h.waiters (λ which. refl)
        (λ c connection which at has. elim (row-put can.process.connections coid.0 (unopened_at sent.target) free c) [
          | inl same ↦ sym same ∙ at
          | inr new ↦ let clash : None ≡ Some which = ap (λ (own : Connection). own.block) (same_Some _ _ (sym new.0 ∙ at)) ∙ has in absurd (cc)
        ])
        (λ which. let put = count-put (has_open which) refl can.process.connections coid.0 (unopened_at sent.target) free in omega (arith, put))
    sent_moved (Existing coid) is = same_moved part named h number can.process can.process_there lives its_sound.served (sending (Existing coid)) (again (Existing coid)) part.resources h.waiters (λ which. refl) refl
    sent_moved Side is =
        same_moved part named h number can.process can.process_there lives its_sound.served (sending Side) (again Side) part.resources h.waiters (λ which. refl)
        (cond_both {A = Process} (is_none (row_at can.process.sides thread)) _ _ (λ now. now.connections ≡ can.process.connections) (λ none. refl) (λ some. refl))

    sent_connected : Connected (with_process number (with_queued thread sent) part) named
    sent_connected =
        fewer_connected (with_process number (with_queued thread sent) part) (λ own. named own + 0) named (λ own. omega arith)
        (moved_connected part named h number can.process can.process_there (with_queued thread sent) part.resources [] (loses_none number can.process (sending sent.target.over) (again sent.target.over) its_sound.served) (sent_moved sent.target.over refl))

  call_connected : (config : Configuration) (user : ℕ) (thread : Thread) (asked : Request) → Gives Gave (call config user part thread asked)
  call_connected config user thread asked =
      gives_by (λ (addressed : Addressed). CanSend part thread.proc.num thread.tid addressed.target) _ (target_by config user part.resources.mounts part.processes thread asked) _ (target-sends config user part thread asked) (λ addressed can.
      let sent : Sent = record { target = addressed.target; is_asked = false; bytes = bytes_of (content_of asked addressed.rest addressed.to) } in
      gives_done _ _ (quiet (with_process thread.proc.num (with_queued thread.tid sent) part) (sent_connected thread.proc.num thread.tid sent can) (Put addressed.target.manager (item.Message thread.proc.num thread.tid) addressed.target.prio.0 ∷ []) (λ own. refl)))

  -- ---- what threads do

  reply_connected : (thread : Thread) → Gives Gave (take_reply part thread)
  reply_connected thread =
      gives_on _ (found (thread_at part thread.proc.num thread.tid) WrongState) _ (λ row is.
      gives_on _ (found (answer_in row.state) WrongState) _ (λ given answered.
      gives_done _ _ (quiet (with_process thread.proc.num (with_thread thread.tid ready_thread) part) (thread_connected thread.proc.num thread.tid ready_thread) [] (λ own. refl))))

  prio_connected : (ceiling : ℕ) (thread : Thread) (prio : ℕ) → Gives Gave (set_prio ceiling part thread prio)
  prio_connected ceiling thread prio =
      gives_on _ (found (thread_at part thread.proc.num thread.tid) WrongState) _ (λ row is.
      gives_on _ (may_give ceiling prio) _ (λ allowed is_allowed.
      gives_done _ _ (quiet (with_process thread.proc.num (with_thread thread.tid (ranked_thread prio)) part) (thread_connected thread.proc.num thread.tid (ranked_thread prio)) [] (λ own. refl))))

  asked_connected : (thread : Thread) (number : ℕ) (sent : Sent) → Connected (with_process thread.proc.num (with_thread thread.tid asked_thread) part) (λ own. named own + puts own (Put sent.target.manager (item.Unblock thread.proc.num thread.tid number) sent.target.prio.0 ∷ []))
  asked_connected thread number sent =
      quiet (with_process thread.proc.num (with_thread thread.tid asked_thread) part) (thread_connected thread.proc.num thread.tid asked_thread) (Put sent.target.manager (item.Unblock thread.proc.num thread.tid number) sent.target.prio.0 ∷ []) (λ own. refl)

  interrupt_connected : (prio : ℕ) (thread : Thread) (number : ℕ) (row : ThreadRow) → thread_at part thread.proc.num thread.tid ≡ Some row → (doing : State) → row.state ≡ doing → Gave (interrupt_in prio part thread number doing)
  interrupt_connected prio thread number row there (state.Queued sent) is =
      let its = thread_there part well.stands well.clientele thread.proc.num thread.tid row there in
      let change : ThreadRow → ThreadRow = answered_thread (answer.Failed EINTR) in
      let f : Process → Process = λ p. after_error thread.tid sent.target.over (with_thread thread.tid change p) in
      let lost : List Change = disconnects prio thread.proc.num f (row_at part.processes thread.proc.num) in
      let removed : Change = Remove sent.target.manager (item.Message thread.proc.num thread.tid) in
      fewer_connected (with_process thread.proc.num f part) (λ own. named own + puts own lost) (λ own. named own + puts own (removed ∷ lost))
      (λ own. let all : puts own (removed ∷ lost) ≡ 0 + puts own lost = count-cons (is_put_pulse own) removed lost in omega (arith, all))
      (error_connected part named well h thread.proc.num thread.tid its.0 its.1 row its.2 sent.target (ap target_in is) change prio)
  interrupt_connected prio thread number row there (state.Taken sent) is = cond_both sent.is_asked _ _ Gave (λ asked. quiet part h [] (λ own. refl)) (λ first. asked_connected thread number sent)
  interrupt_connected prio thread number row there (state.Waiting sent) is = cond_both sent.is_asked _ _ Gave (λ asked. quiet part h [] (λ own. refl)) (λ first. asked_connected thread number sent)
  interrupt_connected prio thread number row there _ is = quiet part h [] (λ own. refl)

  -- ---- events and mounts

  pulse_connected : (process : ℕ) (first : Option Pulse) → Gave (pulse_taken part process first)
  pulse_connected process None = quiet part h [] (λ own. refl)
  pulse_connected process (Some first) =
      quiet (pulse_taken part process (Some first)).part (record { pulses = h.pulses; has = record { opened = h.has.opened; uses = h.has.uses }; waiters = record { none_foreign = h.waiters.none_foreign } }) [] (λ own. refl)

  mounted_connected : (mount : MountPoint) → Connected (record part { resources = with_mount mount part.resources }) named
  mounted_connected mount = record { pulses = h.pulses; has = record { opened = h.has.opened; uses = h.has.uses }; waiters = record { none_foreign = h.waiters.none_foreign } }

  given_connected : (config : Configuration) (user : ℕ) (held : List OwnItem) (e : Step) → Gives Gave (client_given config user held part e)
  given_connected config user held (Spawn of_user threads prio) = spawn_connected (limits_of config user) threads prio.0
  given_connected config user held (Exit proc) =
      gives_on _ (found (living (row_at part.processes proc.num)) WrongState) _ (λ process is. gives_done _ _ (exit_connected (limits_of config user).disconnect proc.num process (living-there (row_at part.processes proc.num) process (found-row _ _ process is))))
  given_connected config user held (Call thread asked) = call_connected config user thread asked
  given_connected config user held (TakeReply thread) = reply_connected thread
  given_connected config user held (TakePulse proc) = gives_on _ (found (living (row_at part.processes proc.num)) WrongState) _ (λ process is. gives_done _ _ (pulse_connected proc.num (first_pulse proc.num part.resources.events)))
  given_connected config user held (SetPrio thread prio) = prio_connected (limits_of config user).ceiling thread prio.0
  given_connected config user held (Interrupt thread) = gives_on _ (found (thread_at part thread.proc.num thread.tid) WrongState) _ (λ row is. gives_done _ _ (interrupt_connected (limits_of config user).disconnect thread row.calls row (found-row _ _ row is) row.state refl))
  given_connected config user held (Mount thread path manager) =
      gives_on _ (mount_by config user part thread path manager) _ (λ mount is. gives_done _ _ (quiet (record part { resources = with_mount mount part.resources }) (mounted_connected mount) [] (λ own. refl)))
  given_connected config user held _ = gives_error _ _

  unchanged_connected : (given : Result ClientStep Outcome) → Gives Gave given → Gave (or_unchanged part given)
  unchanged_connected (Ok given) kept = gives-value Gave (Ok given) given refl kept
  unchanged_connected (Err outcome) kept = quiet part h [] (λ own. refl)

  client_connected : (config : Configuration) (user : ℕ) (held : List OwnItem) (e : Step) → Gave (client config user held part e)
  unfolding client
  client_connected config user held e = unchanged_connected _ (given_connected config user held e)

-- ---- whatever steps are taken

-- how a user's part stands, where so many disconnect pulses name each client
pub record WellConnected (part : Part) (named : Client → ℕ) : Type 0 where
  pub well : StandsWell part
  pub connected : Connected part named

pub connected_kept : IsKeptWith (λ user. WellConnected)
connected_kept = record {
  fewer = λ user part named less few h. record { well = h.well; connected = fewer_connected part named less few h.connected };
  client_step = λ config user held part e named h. record { well = (well_kept config).client_step user held part e h.well; connected = client_connected part named h.well h.connected config user held e };
  taking = λ user part done named h. record { well = take_well part done h.well; connected = take_connected part done named h.connected };
  serving = λ config user held part done moment named h. record { well = (well_kept config).serving user held part done moment h.well; connected = serve_connected config user held part done moment named h.well h.connected };
  settling = λ user before held after named h. record { well = settle_well before held after h.well; connected = settle_connected before held after named h.connected };
}

pub connected_boot : (config : Configuration) (user : ℕ) → WellConnected (boot_part config user) (λ own. 0)
unfolding boot_part
connected_boot config user = record {
  well = well_boot config user;
  connected = record {
    pulses = λ own. omega arith;
    has = record {
      opened = λ number process there. let none : None ≡ Some process = sym (none_there number) ∙ there in absurd (cc);
      uses = λ which block there. let none : None ≡ Some block = sym (none_there which) ∙ there in absurd (cc);
    };
    waiters = record { none_foreign = none_wait (is_foreign (None ∷ [])) (INODES + 1) };
  };
}
