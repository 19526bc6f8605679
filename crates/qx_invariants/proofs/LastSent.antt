-- With which error a thread is answered in a run: with one that is named for what it sent last.
use Rattle.std.proofs.Common.{◌≡◌, inl, inr, ℕ, zero, suc, ◌+◌, ◌≤◌, ◌==◌, true, false, List, [], ◌∷◌, ◌++◌, length, map, refl, sym, ap, ◌∙◌, subst, arith}
use Rattle.std.specs.Prelude.{◌&&◌, ◌||◌, not, Option, Some, None, Result, Ok, Err, if◌then◌else◌, option_map, replicate}
use Rattle.std.specs.List.{AllByRecursion, count_by}
use Rattle.std.proofs.lemmas.Bool.{cases_eq, eq-eqb, eqb-true, ne_eqb}
use Rattle.std.proofs.lemmas.Option.{same_Some}
use Rattle.qx_base.specs.declared.errno.Errno.{Errno}
use Rattle.qx_base.specs.declared.errno.Errno.TheVariants.{EAGAIN, EINVAL}
use Rattle.qx_devices.specs.declared.Device.{Device}
use Rattle.qx_types.specs.Configuration.{Configuration}
use Rattle.qx_types.specs.Step.{actor_of, user_of}
use Rattle.qx_types.specs.declared.limits.TheConstants.Limits.{INODES}
use Rattle.qx_types.specs.declared.names.Actor.{Actor}
use Rattle.qx_types.specs.declared.names.Thread.{Thread}
use Rattle.qx_types.specs.declared.outcome.Answer.TheVariants as answer
use Rattle.qx_types.specs.declared.outcome.Outcome.{Outcome}
use Rattle.qx_types.specs.declared.outcome.Outcome.TheVariants as outcome
use Rattle.qx_types.specs.declared.outcome.Outcome.TheVariants.{Failed, Refused, WrongState}
use Rattle.qx_types.specs.declared.request.Request.{Request}
use Rattle.qx_types.specs.declared.step.Step.{Step}
use Rattle.qx_types.specs.declared.step.Step.TheVariants.{Call, TakeReply}
use Rattle.qx_types.specs.declared.names.Manager.{Manager}
use Rattle.qx_types.specs.declared.names.Manager.TheVariants as managers
use Rattle.qx_types.proofs.Managers.{same_manager}
use Rattle.qx_machine.specs.declared.rows.Addressed.{Addressed}
use Rattle.qx_machine.specs.declared.rows.Kind.{Kind}
use Rattle.qx_machine.specs.declared.rows.Kind.TheVariants as kind
use Rattle.qx_machine.specs.declared.rows.Ocb.{Ocb}
use Rattle.qx_machine.specs.declared.rows.Sent.{Sent}
use Rattle.qx_machine.specs.declared.rows.State.{State}
use Rattle.qx_machine.specs.declared.rows.State.TheVariants as state
use Rattle.qx_machine.specs.declared.rows.ThreadRow.{ThreadRow}
use Rattle.qx_machine.specs.declared.rows.WaitingCall.{WaitingCall}
use Rattle.qx_isolation.specs.declared.rows.Held.{Held}
use Rattle.qx_isolation.specs.declared.rows.OwnItem.{OwnItem}
use Rattle.qx_isolation.specs.declared.rows.OwnItem.TheVariants as item
use Rattle.qx_isolation.specs.Judgements.{◌>>=◌, found}
use Rattle.qx_isolation.specs.Rows.{row_at}
use Rattle.qx_machine.specs.Calls.{bytes_of, content_of}
use Rattle.qx_machine.specs.Clients.{answer_in, call, or_unchanged, outcome_of, take_reply, target_by}
use Rattle.qx_machine.specs.Machine.{World, boot, client_step, named_thread, own_held, performed_part, received_part, server_step, step, step_end, step_of, with_empty_hand, with_taken}
use Rattle.qx_machine.specs.Runs.{run, world_after}
use Rattle.qx_machine.specs.Users.{boot_part, client, serve, settle_part, take}
use Rattle.qx_machine.specs.Defaults.{is_own}
use Rattle.qx_machine.specs.Managers.{own_kind}
use Rattle.qx_machine.specs.Parts.{Change, Part, Put, thread_at, thread_of, with_process, with_thread_of}
use Rattle.qx_machine.specs.Pipes.{Pipe, pipe_of}
use Rattle.qx_machine.specs.Processes.{Process, queued_thread, ready_thread, with_queued}
use Rattle.qx_machine.specs.Settling.{is_kept, row_left}
use Rattle.qx_machine.specs.Waiting.{is_gone}
use Rattle.qx_machine.proofs.Gives.{Gives, gives-value}
use Rattle.qx_machine.proofs.Runs.{world_after-append}
use Rattle.qx_machine.proofs.Settled.{row_at-left}
use Rattle.qx_isolation.proofs.Places.{row_at-set_cases, row_at-set_other}
use Rattle.qx_isolation.proofs.Workers.{server_leaves}
use Rattle.qx_attr.specs.inner.Counts.{one}
use Rattle.qx_attr.proofs.CountLemmas.{within_table}
use Rattle.qx_attr.proofs.TableLemmas.{set_at}
use Rattle.qx_invariants.specs.Errors as errors
use Rattle.qx_invariants.specs.Errors.{IsAmong, IsMessageOf, IsOneOf, MayFail, last_sent, queued_or, refused, sent_by, sent_from, sent_in}
use Rattle.qx_invariants.specs.Holds.{HasConnections, HasContents, HasKinds, HasNames, WaitsOnce, calls_of, in_inode}
use Rattle.qx_invariants.specs.Waits.{count_state_waiting, count_waiting_of, is_of, unless_gone, waits}
use Rattle.qx_invariants.proofs.Answering.{IsLeft, read_errors, write_errors}
use Rattle.qx_invariants.proofs.Asked.{AreAt, Fits, IsAt, Left, TellsCall, WellLeft, WellTold, client_left, serve_left, settle_left, take_left, told_left}
use Rattle.qx_invariants.proofs.Balances.{set_other, thread_changed}
use Rattle.qx_invariants.proofs.Counts.{count-cons}
use Rattle.qx_invariants.proofs.Judged.{Anything, Comes, May, addressed_comes}
use Rattle.qx_invariants.proofs.Once.{IsReadyThread, over_changes, target-ready}
use Rattle.qx_invariants.proofs.Reached.{run_connections, run_contents, run_holds, run_kinds, run_stands}
use Rattle.qx_invariants.proofs.Rows.{the-some}
use Rattle.qx_invariants.proofs.Steps.{boot-each}

-- ---- where calls wait

-- an inode of a manager's own kind in which calls wait is by the rules of that manager
kind_at : (manager : Manager) (which : Kind) (size : ℕ) (device : Option Device) (bytes : ℕ) → is_own (own_kind manager) which ≡ true → Some (device, bytes) ≡ calls_of which size → IsAt manager device
kind_at managers.Ram kind.File size device bytes own is = absurd (cc)
kind_at managers.Ram kind.Directory size device bytes own is = absurd (cc)
kind_at managers.Ram kind.Pipe size device bytes own is = absurd (cc)
kind_at managers.Ram (kind.Device other) size device bytes own is = absurd (cc)
kind_at managers.Pipe kind.File size device bytes own is = absurd (cc)
kind_at managers.Pipe kind.Directory size device bytes own is = absurd (cc)
kind_at managers.Pipe kind.Pipe size device bytes own is = ap (λ (p : Option Device × ℕ). p.0) (same_Some _ _ is)
kind_at managers.Pipe (kind.Device other) size device bytes own is = absurd (cc)
kind_at (managers.Device of_an_author) which size device bytes own is = tt

are_at : (part : Part) → HasConnections part → HasKinds part.resources → HasContents part.resources → HasNames part.resources → AreAt part
are_at part connected kinds contents names number process is_process target over is block pipe there here =
    let open_for = connected.opened number process is_process over.coid.0 is.connection over.number is.there is.block in
    let its_block : open_for.block ≡ block = same_Some _ _ (sym open_for.there ∙ there) in
    let manager_is : block.client.server.manager ≡ target.manager = ap (λ (b : Ocb). b.client.server.manager) (sym its_block) ∙ (open_for.manager_is ∙ same_manager is.connection.manager target.manager (eqb-true _ _ is.manager)) in
    let attribute = the-some (row_at part.resources.inodes.attributes block.inode) (names.opened over.number block there) in
    let own : is_own (own_kind target.manager) attribute.0.kind ≡ true = subst (λ m. is_own (own_kind m) attribute.0.kind ≡ true) manager_is (kinds.opened over.number block attribute.0 there attribute.1) in
    let calls : Some (pipe.device, length pipe.bytes) ≡ calls_of attribute.0.kind attribute.0.size =
    ap (option_map (λ (p : Pipe WaitingCall). (p.device, length p.bytes))) (sym here) ∙ (contents.pipes block.inode ∙ ap (in_inode calls_of) attribute.1) in
    kind_at target.manager attribute.0.kind attribute.0.size pipe.device (length pipe.bytes) own calls

-- ---- what is sent now

-- a thread that waits sent nothing since
waiting_same : (last : Option Sent) (place : Option ThreadRow) → 1 ≤ waits place → sent_in last place ≡ last
waiting_same last None some = absurd (omega (arith, some))
waiting_same last (Some row) some = by row.state some
  where
    by : (doing : State) → 1 ≤ count_state_waiting doing → queued_or last doing ≡ last
    by (state.Queued sent) some = absurd (omega (arith, some))
    by state.Ready some = refl
    by (state.Taken sent) some = refl
    by (state.Waiting sent) some = refl
    by (state.Answered given) some = refl

-- what each thread sent last, and after a step
abbrev pub MayTell : (ℕ → ℕ → Option Sent) → ℕ → ℕ → Errno → Type 0
MayTell last process thread error = MayFail (last process thread) error

abbrev pub sent_now : (ℕ → ℕ → Option Sent) → Part → ℕ → ℕ → Option Sent
sent_now last part process thread = sent_in (last process thread) (thread_at part process thread)

module _ (last : ℕ → ℕ → Option Sent) (part : Part) (once : WaitsOnce part) where
  abbrev now : ℕ → ℕ → Option Sent
  now = sent_now last part

  -- whose call waits sent nothing since
  call_same : (waiting : WaitingCall) → is_gone waiting ≡ false → one (unless_gone (is_of waiting.process waiting.thread) waiting) ≤ waits (thread_at part waiting.process waiting.thread) → now waiting.process waiting.thread ≡ last waiting.process waiting.thread
  call_same waiting here few =
      let its : is_of waiting.process waiting.thread waiting ≡ true = ap (λ b. b && (waiting.thread == waiting.thread)) (eq-eqb waiting.process waiting.process refl) ∙ eq-eqb waiting.thread waiting.thread refl in
      let counts : one (unless_gone (is_of waiting.process waiting.thread) waiting) ≡ 1 = ap (λ b. one (b && not (is_gone waiting))) its ∙ ap (λ b. one (true && not b)) here in
      waiting_same (last waiting.process waiting.thread) (thread_at part waiting.process waiting.thread) (omega (arith, few, counts))

  module _ (errors : Errno → Type 0) where
    abbrev Before : WaitingCall → Type 0
    Before waiting = is_gone waiting ≡ false → (error : Errno) → errors error → TellsCall (MayTell last) waiting error

    abbrev After : WaitingCall → Type 0
    After waiting = is_gone waiting ≡ false → (error : Errno) → errors error → TellsCall (MayTell now) waiting error

    calls_same : (all : List WaitingCall) → ((process thread : ℕ) → count_by (unless_gone (is_of process thread)) all ≤ waits (thread_at part process thread)) → AllByRecursion Before all → AllByRecursion After all
    calls_same [] few h = tt
    calls_same (waiting ∷ all) few h = (
      λ here error named. subst (λ sent. MayFail sent error) (sym (call_same waiting here (its waiting.process waiting.thread))) (h.0 here error named),
      calls_same all rest h.1,
    )
      where
        its : (process thread : ℕ) → one (unless_gone (is_of process thread) waiting) ≤ waits (thread_at part process thread)
        its process thread = let most = few process thread in let first = count-cons (unless_gone (is_of process thread)) waiting all in omega (arith, most, first)

        rest : (process thread : ℕ) → count_by (unless_gone (is_of process thread)) all ≤ waits (thread_at part process thread)
        rest process thread = let most = few process thread in let first = count-cons (unless_gone (is_of process thread)) waiting all in omega (arith, most, first)

  -- of the calls that wait in one pipe no more are a thread's than of all
  pipe_few : (inode : ℕ) (pipe : Pipe WaitingCall) → row_at part.resources.pipes inode ≡ Some pipe → (process thread : ℕ) → count_waiting_of (unless_gone (is_of process thread)) pipe ≤ waits (thread_at part process thread)
  pipe_few inode pipe here process thread =
      let which = unless_gone (is_of process thread) in
      let all = set_other which part.resources.pipes inode pipe (pipe_of None [] [] []) here in
      let its = once.once process thread in
      omega (arith, all, its)

  pipes_same : (inode : ℕ) (pipe : Pipe WaitingCall) → row_at part.resources.pipes inode ≡ Some pipe → IsLeft (TellsCall (MayTell last)) pipe.device is_gone pipe → IsLeft (TellsCall (MayTell now)) pipe.device is_gone pipe
  pipes_same inode pipe here h = record {
    device_is = h.device_is;
    readers = calls_same (λ error. IsOneOf (read_errors pipe.device) error) pipe.readers (λ p t. let few = pipe_few inode pipe here p t in omega (arith, few)) h.readers;
    writers = calls_same (λ error. IsOneOf (write_errors pipe.device) error) pipe.writers (λ p t. let few = pipe_few inode pipe here p t in omega (arith, few)) h.writers;
  }

  row_same : (before : Option Sent) (doing : State) → Left (λ error. MayFail before error) doing → Fits (λ error. MayFail (queued_or before doing) error) doing
  row_same before (state.Queued sent) h = λ error named. named
  row_same before state.Ready h = h
  row_same before (state.Taken sent) h = h
  row_same before (state.Waiting sent) h = h
  row_same before (state.Answered given) h = h

  -- what was left by a step is what is told before the next
  pub seen_now : WellLeft (MayTell last) part → WellTold (MayTell now) part
  seen_now h = record {
    rows = λ p t row there. subst (λ place. Fits (λ error. MayFail (sent_in (last p t) place) error) row.state) (sym there) (row_same (last p t) row.state (h.rows p t row there));
    pipes = record { each = λ inode pipe here. pipes_same inode pipe here (h.pipes.each inode pipe here) };
  }

-- ---- a step

module _ (user : ℕ) (may : ℕ → ℕ → Errno → Type 0) (w : World) (told : (part : Part) → row_at w.parts user ≡ Some part → WellTold may part) (at : (part : Part) → row_at w.parts user ≡ Some part → AreAt part) where
  -- what the step leaves
  abbrev LeftIn : World → Type 0
  LeftIn after = (part : Part) → row_at after.parts user ≡ Some part → WellLeft may part

  same_left : (after : World) → after.parts ≡ w.parts → LeftIn after
  same_left after same part there = told_left may part (told part (sym (ap (λ parts. row_at parts user) same) ∙ there))

  end_left : (own : ℕ) (before given : Part) (changes : List Change) (after : World) → after.parts ≡ w.parts → (own ≡ user → WellLeft may given) → LeftIn (step_end own before given changes after)
  end_left own before given changes after same left part there =
      let settled = settle_part before (own_held own after.hands) given in
      elim (cases_eq own user) [
        | inl is ↦ elim (row_at-set_cases after.parts own user (Some settled) part there) [
          | inl was ↦ same_left after same part was
          | inr put ↦ subst (WellLeft may) (same_Some _ _ put) (settle_left may before (own_held own after.hands) given (left is))
        ]
        | inr apart ↦ same_left after same part (sym (row_at-set_other after.parts own user (Some settled) (λ e. apart (sym e))) ∙ there)
      ]

  client_in : (own : ℕ) (e : Step) (row : Option Part) → row_at w.parts own ≡ row → LeftIn (client_step w own e row).world
  client_in own e None is = same_left w refl
  client_in own e (Some part) is =
      let given = client w.config own (own_held own w.hands) part e in
      end_left own part given.part given.changes w refl (λ same. client_left may part (told part (sym (ap (row_at w.parts) same) ∙ is)) w.config own (own_held own w.hands) e)

  received_in : (after : World) → after.parts ≡ w.parts → (taken : Held) (row : Option Part) → row_at w.parts taken.user.0 ≡ row → LeftIn (received_part after taken row)
  received_in after same taken None is = same_left after same
  received_in after same taken (Some part) is =
      end_left taken.user.0 part (take part taken.item) [] after same (λ own. take_left may part taken.item (told part (sym (ap (row_at w.parts) own) ∙ is)))

  performed_in : (after : World) → after.parts ≡ w.parts → (held : Held) (moment : ℕ) (row : Option Part) → row_at w.parts held.user.0 ≡ row → LeftIn (performed_part after held moment row)
  performed_in after same held moment None is = same_left after same
  performed_in after same held moment (Some part) is =
      let given = serve after.config held.user.0 (own_held held.user.0 after.hands) part held.item moment in
      end_left held.user.0 part given.part given.changes after same
      (λ own. let here = sym (ap (row_at w.parts) own) ∙ is in serve_left may part (told part here) (at part here) after.config held.user.0 (own_held held.user.0 after.hands) held.item moment)

  server_in : (e : Step) → LeftIn (server_step w e).world
  server_in e = server_leaves w e LeftIn (same_left w refl)
      (λ worker manager taken is. received_in (with_taken w worker manager taken) refl taken (row_at w.parts taken.user.0) refl)
      (λ worker moment held is. performed_in (with_empty_hand w worker) refl held moment (row_at w.parts held.user.0) refl)

  step_of_in : (e : Step) (actor : Option Actor) → LeftIn (step_of w e actor).world
  step_of_in e None = server_in e
  step_of_in e (Some actor) = client_in (user_of actor) e (row_at w.parts (user_of actor)) refl

  step_in : (e : Step) → LeftIn (step w e).world
  unfolding step
  step_in e = step_of_in e (actor_of e)

-- ---- a run

module _ (config : Configuration) (user : ℕ) where
  -- a world that a run reaches, in which each of the user's threads was told what it may, by what it sent last
  record Reaches (w : World) (last : ℕ → ℕ → Option Sent) : Type 0 where
    steps : List Step
    is : w ≡ (run config steps).world
    told : (part : Part) → row_at w.parts user ≡ Some part → WellTold (MayTell last) part

  pipes_at : (steps : List Step) (w : World) → w ≡ (run config steps).world → (part : Part) → row_at w.parts user ≡ Some part → AreAt part
  pipes_at steps w is part there =
      let here = sym (ap (λ (v : World). row_at v.parts user) is) ∙ there in
      are_at part (run_connections config steps user part here) (run_kinds config steps user part here) (run_contents config steps user part here) (run_holds config steps user part here).names

  abbrev sent_with : (ℕ → ℕ → Option Sent) → Option Part → ℕ → ℕ → Option Sent
  sent_with last row process thread = sent_by (named_thread user process thread) (last process thread) row

  step_reaches : (w : World) (e : Step) (last : ℕ → ℕ → Option Sent) → Reaches w last → Reaches (step w e).world (sent_with last (row_at (step w e).world.parts user))
  step_reaches w e last h =
      let next = h.steps ++ e ∷ [] in
      let is : (step w e).world ≡ (run config next).world = ap (λ (v : World). (step v e).world) h.is ∙ sym (world_after-append (boot config) h.steps e) in
      record {
        steps = next;
        is = is;
        told = λ part there.
            let once = (run_stands config next user part (sym (ap (λ (v : World). row_at v.parts user) is) ∙ there)).waits_once in
            subst (λ row. WellTold (MayTell (sent_with last row)) part) (sym there) (seen_now last part once (step_in user (MayTell last) w h.told (pipes_at h.steps w h.is) e part there));
      }

  after_reaches : (w : World) (last : ℕ → ℕ → Option Sent) (steps : List Step) → Reaches w last → Reaches (world_after w steps) (λ process thread. sent_from (named_thread user process thread) w (last process thread) steps)
  after_reaches w last [] h = h
  after_reaches w last (e ∷ steps) h = after_reaches (step w e).world (sent_with last (row_at (step w e).world.parts user)) steps (step_reaches w e last h)

  none_at : (count place : ℕ) → row_at {A = Pipe WaitingCall} (replicate count None) place ≡ None
  none_at zero place = refl
  none_at (suc count) zero = refl
  none_at (suc count) (suc place) = none_at count place

  boot_told : (own : ℕ) → WellTold (MayTell (λ process thread. None)) (boot_part config own)
  unfolding boot_part
  boot_told own = record { rows = rows; pipes = record { each = λ inode pipe here. let none = sym (none_at (INODES + 1) inode) ∙ here in absurd (cc) } }
    where
      rows : (p t : ℕ) (row : ThreadRow) → thread_of t (row_at (None ∷ []) p) ≡ Some row → Fits (λ error. MayFail None error) row.state
      rows zero t row there = absurd (cc)
      rows (suc p) t row there = absurd (cc)

  run_reaches : (steps : List Step) → Reaches (run config steps).world (λ process thread. sent_from (named_thread user process thread) (boot config) None steps)
  run_reaches steps = after_reaches (boot config) (λ process thread. None) steps (record { steps = []; is = refl; told = boot-each config (λ own. WellTold (MayTell (λ process thread. None))) boot_told user })

-- ---- what a thread takes

-- an error that a thread takes is its answer
record IsAnswered (part : Part) (thread : Thread) (error : Errno) : Type 0 where
  row : ThreadRow
  there : thread_at part thread.proc.num thread.tid ≡ Some row
  answered : row.state ≡ state.Answered (answer.Failed error)

taken_by : (part : Part) (thread : Thread) (error : Errno) → (or_unchanged part (take_reply part thread)).outcome ≡ Failed error → IsAnswered part thread error
taken_by part thread error = by (thread_at part thread.proc.num thread.tid) refl
  where
    by : (place : Option ThreadRow) → thread_at part thread.proc.num thread.tid ≡ place → (or_unchanged part (found place WrongState >>= λ row. found (answer_in row.state) WrongState >>= λ its. Ok (record { outcome = outcome_of its; part = with_thread_of thread ready_thread part; changes = [] }))).outcome ≡ Failed error → IsAnswered part thread error
    by None there is = absurd (cc)
    by (Some row) there is = which row.state refl is
      where
        which : (doing : State) → row.state ≡ doing → (or_unchanged part (found (answer_in doing) WrongState >>= λ its. Ok (record { outcome = outcome_of its; part = with_thread_of thread ready_thread part; changes = [] }))).outcome ≡ Failed error → IsAnswered part thread error
        which state.Ready same is = absurd (cc)
        which (state.Queued sent) same is = absurd (cc)
        which (state.Taken sent) same is = absurd (cc)
        which (state.Waiting sent) same is = absurd (cc)
        which (state.Answered (answer.Reply status bytes)) same is = absurd (cc)
        which (state.Answered (answer.Failed other)) same is = record { row = row; there = there; answered = same ∙ ap (λ e. state.Answered (answer.Failed e)) (cc) }

pub errors_named : (config : Configuration) (steps : List Step) (thread : Thread) (error : Errno) → (step (run config steps).world (TakeReply thread)).outcome ≡ Failed error → MayFail (last_sent thread config steps) error
unfolding step client
errors_named config steps thread error is = by (row_at (run config steps).world.parts thread.proc.user.0) refl is
  where
    by : (row : Option Part) → row_at (run config steps).world.parts thread.proc.user.0 ≡ row → (client_step (run config steps).world thread.proc.user.0 (TakeReply thread) row).outcome ≡ Failed error → MayFail (last_sent thread config steps) error
    by None there is = absurd (cc)
    by (Some part) there is =
        let taken = taken_by part thread error is in
        let told = (run_reaches config thread.proc.user.0 steps).told part there in
        subst (Fits (λ e. MayFail (last_sent thread config steps) e)) taken.answered (told.rows thread.proc.num thread.tid taken.row taken.there)

-- ---- a call is what a thread sent last

-- a call that is refused is not sent
refused_unsent : (errors : List Errno) → IsAmong outcome.Sent (refused errors) → ⊥
refused_unsent errors (inl same) = absurd (cc)
refused_unsent errors (inr later) = by errors later
  where
    by : (errors : List Errno) → IsAmong outcome.Sent (map Refused errors) → ⊥
    by [] among = among
    by (error ∷ errors) (inl same) = absurd (cc)
    by (error ∷ errors) (inr later) = by errors later

-- a part in which a thread's message stands in a line
record IsQueued (part : Part) (process thread : ℕ) (sent : Sent) : Type 0 where
  row : ThreadRow
  there : thread_at part process thread ≡ Some row
  queued : row.state ≡ state.Queued sent

-- so it stands at the end of the step
queued_settled : (before : Part) (held : List OwnItem) (part : Part) (number thread : ℕ) (sent : Sent) → IsQueued part number thread sent → IsQueued (settle_part before held part) number thread sent
unfolding settle_part
queued_settled before held part number thread sent h = record {
  row = h.row;
  there = ap (thread_of thread) (row_at-left held part.resources.pipes 0 number part.processes) ∙ by (row_at part.processes number) h.there;
  queued = h.queued;
}
  where
    lives : (threads : List (Option ThreadRow)) → row_at threads thread ≡ Some h.row → (length threads == 0) ≡ false
    lives [] is = absurd (cc)
    lives (row ∷ threads) is = ne_eqb (length (row ∷ threads)) 0 (λ none. omega (arith, none))

    by : (row : Option Process) → thread_of thread row ≡ Some h.row → thread_of thread (row_left held part.resources.pipes (0 + number) row) ≡ Some h.row
    by None is = is
    by (Some process) is = subst (λ b. thread_of thread (if not b || is_kept held part.resources.pipes (0 + number) process then Some process else None) ≡ Some h.row) (sym (lives process.threads is)) is

-- the message of a call
abbrev message_of : Request → Addressed → Sent
message_of asked addressed = record { target = addressed.target; is_asked = false; bytes = bytes_of (content_of asked addressed.rest addressed.to) }

called : (config : Configuration) (user : ℕ) (part : Part) (thread : Thread) (asked : Request) → (or_unchanged part (call config user part thread asked)).outcome ≡ outcome.Sent
    → (addressed : Addressed) × IsQueued (or_unchanged part (call config user part thread asked)).part thread.proc.num thread.tid (message_of asked addressed)
called config user part thread asked is =
    by (target_by config user part.resources.mounts part.processes thread asked) (target-ready config user part.resources.mounts part thread asked) (addressed_comes config user part.resources.mounts part.processes thread asked) is
  where
    by : (given : Result Addressed Outcome) → Gives (λ (_ : Addressed). IsReadyThread part thread.proc.num thread.tid) given → Comes Anything (May (Call thread asked)) given
        → (or_unchanged part (given >>= λ addressed. Ok (record { outcome = outcome.Sent; part = with_process thread.proc.num (with_queued thread.tid (message_of asked addressed)) part; changes = Put addressed.target.manager (item.Message thread.proc.num thread.tid) addressed.target.prio.0 ∷ [] }))).outcome ≡ outcome.Sent
        → (addressed : Addressed) × IsQueued (or_unchanged part (given >>= λ addressed. Ok (record { outcome = outcome.Sent; part = with_process thread.proc.num (with_queued thread.tid (message_of asked addressed)) part; changes = Put addressed.target.manager (item.Message thread.proc.num thread.tid) addressed.target.prio.0 ∷ [] }))).part thread.proc.num thread.tid (message_of asked addressed)
    by (Err outcome) ready comes is = absurd (refused_unsent (EINVAL ∷ EAGAIN ∷ errors.call asked) (subst (May (Call thread asked)) is comes.fails))
    by (Ok addressed) ready comes is =
        let its = gives-value (λ (_ : Addressed). IsReadyThread part thread.proc.num thread.tid) (Ok addressed) addressed refl ready in
        let sent = message_of asked addressed in (
          addressed,
          record {
            row = queued_thread sent its.row;
            there = thread_changed part thread.proc.num thread.tid (queued_thread sent) (with_queued thread.tid sent) (over_changes thread.tid (queued_thread sent) addressed.target.over addressed.target.manager) ∙ ap (option_map (queued_thread sent)) its.there;
            queued = refl;
          },
        )

sent_from-append : (thread : Thread) (w : World) (before : Option Sent) (steps : List Step) (e : Step) → sent_from thread w before (steps ++ e ∷ []) ≡ sent_by thread (sent_from thread w before steps) (row_at (step (world_after w steps) e).world.parts thread.proc.user.0)
sent_from-append thread w before [] e = refl
sent_from-append thread w before (first ∷ steps) e = sent_from-append thread (step w first).world (sent_by thread before (row_at (step w first).world.parts thread.proc.user.0)) steps e

-- where the step is a call that was sent, that is its message
call_sent : (w : World) (thread : Thread) (asked : Request) (before : Option Sent) → (step w (Call thread asked)).outcome ≡ outcome.Sent → IsMessageOf asked (sent_by thread before (row_at (step w (Call thread asked)).world.parts thread.proc.user.0))
unfolding step client
call_sent w thread asked before is = by (row_at w.parts thread.proc.user.0) refl is
  where
    by : (row : Option Part) → row_at w.parts thread.proc.user.0 ≡ row → (client_step w thread.proc.user.0 (Call thread asked) row).outcome ≡ outcome.Sent → IsMessageOf asked (sent_by thread before (row_at (client_step w thread.proc.user.0 (Call thread asked) row).world.parts thread.proc.user.0))
    by None there is = absurd (cc)
    by (Some part) there is =
        let user = thread.proc.user.0 in
        let given = or_unchanged part (call w.config user part thread asked) in
        let its = called w.config user part thread asked is in
        let settled = settle_part part (own_held user w.hands) given.part in
        let queued = queued_settled part (own_held user w.hands) given.part thread.proc.num thread.tid (message_of asked its.0) its.1 in
        let now : sent_by thread before (Some settled) ≡ Some (message_of asked its.0) = ap (sent_in before) queued.there ∙ ap (queued_or before) queued.queued in
        subst (λ row. IsMessageOf asked (sent_by thread before row)) (sym (set_at w.parts user settled (within_table w.parts user part there))) (subst (IsMessageOf asked) (sym now) (its.0.rest, its.0.to, refl))

pub calls_sent : (config : Configuration) (steps : List Step) (thread : Thread) (asked : Request) → (step (run config steps).world (Call thread asked)).outcome ≡ outcome.Sent → IsMessageOf asked (last_sent thread config (steps ++ Call thread asked ∷ []))
calls_sent config steps thread asked is =
    subst (IsMessageOf asked) (sym (sent_from-append thread (boot config) None steps (Call thread asked))) (call_sent (run config steps).world thread asked (last_sent thread config steps) is)
