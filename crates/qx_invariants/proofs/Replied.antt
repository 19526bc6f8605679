-- A message that is served, and a pulse that asks to unblock: connections, open control blocks and disconnect pulses stand together still.
use Rattle.std.proofs.Common.{◌≡◌, inl, inr, ℕ, ◌+◌, ◌≤◌, Bool, true, false, List, [], ◌∷◌, ◌++◌, refl, sym, ap, ◌∙◌, subst, arith}
use Rattle.std.specs.Prelude.{not, Option, Some, None, Result, Ok, Err, if◌then◌else◌, is_some}
use Rattle.std.specs.List.{count_by}
use Rattle.std.proofs.lemmas.Bool.{eq-eqb}
use Rattle.std.proofs.lemmas.List.Sums.{sum_by-append}
use Rattle.std.proofs.lemmas.Option.{same_Some}
use Rattle.qx_base.specs.declared.errno.Errno.{Errno}
use Rattle.qx_base.specs.declared.errno.Errno.TheVariants.{EINVAL}
use Rattle.qx_types.specs.declared.names.Coid.{Coid}
use Rattle.qx_types.specs.declared.names.Manager.{Manager}
use Rattle.qx_types.specs.declared.names.Manager.TheVariants as managers
use Rattle.qx_types.specs.declared.outcome.Answer.{Answer}
use Rattle.qx_types.specs.declared.outcome.Answer.TheVariants as answer
use Rattle.qx_types.specs.declared.outcome.Outcome.TheVariants.{WrongState}
use Rattle.qx_wire.specs.declared.message.Meaning.{Meaning}
use Rattle.qx_wire.specs.declared.message.Meaning.TheVariants.{Known, Malformed, Unknown}
use Rattle.qx_wire.specs.declared.message.Message.{Message}
use Rattle.qx_wire.specs.declared.message.Message.TheVariants as msg
use Rattle.qx_wire.specs.Reading.{meaning}
use Rattle.qx_machine.specs.declared.rows.Caller.{Caller}
use Rattle.qx_machine.specs.declared.rows.Client.{Client}
use Rattle.qx_machine.specs.declared.rows.Context.{Context}
use Rattle.qx_machine.specs.declared.rows.Effect.{Effect}
use Rattle.qx_machine.specs.declared.rows.Effect.TheVariants as effect
use Rattle.qx_machine.specs.declared.rows.Ocb.{Ocb}
use Rattle.qx_machine.specs.declared.rows.Opened.{Opened}
use Rattle.qx_machine.specs.declared.rows.Over.{Over}
use Rattle.qx_machine.specs.declared.rows.Over.TheVariants.{Existing, New, Side}
use Rattle.qx_isolation.specs.declared.rows.OwnItem.TheVariants as item
use Rattle.qx_machine.specs.declared.rows.Sent.{Sent}
use Rattle.qx_machine.specs.declared.rows.ThreadRow.{ThreadRow}
use Rattle.qx_machine.specs.declared.rows.WaitingCall.{WaitingCall}
use Rattle.qx_machine.specs.Defaults.{dup_open}
use Rattle.qx_machine.specs.Functions.{Deed, Reply, function_deed, new_coid, new_dup}
use Rattle.qx_machine.specs.Inodes.{dup_block}
use Rattle.qx_isolation.specs.Judgements.{found}
use Rattle.qx_machine.specs.Managers.{manager_deed}
use Rattle.qx_machine.specs.Parts.{Change, Part, Remove, disconnects, thread_at, with_process}
use Rattle.qx_machine.specs.Performing.{Served, after_serving, answered_changes, called_by, caller_of, context_of, deed_of, dup_of, own_change, serve_message, serve_pulse, served_by, taken_in, with_answer, with_answers, works_over}
use Rattle.qx_machine.specs.PipeManager.{cancel_call}
use Rattle.qx_machine.specs.Processes.{Process, after_error, after_reply, answered_thread, has_ended, served_thread, with_thread}
use Rattle.qx_machine.specs.Resources.{Resources}
use Rattle.qx_isolation.specs.Rows.{row_at}
use Rattle.qx_machine.proofs.Gives.{Gives, found-row, gives_by, gives_done, gives_error, gives_on, gives-value}
use Rattle.qx_machine.proofs.Waiters.{opened_by-caller}
use Rattle.qx_attr.specs.inner.Counts.{one}
use Rattle.qx_invariants.specs.Changes.{ResourceChange}
use Rattle.qx_invariants.specs.Holds.{HasOpenWaiters, HasOwnWaiters, IsOpenFor}
use Rattle.qx_invariants.specs.Waits.{count_waiting}
use Rattle.qx_invariants.proofs.Clients.{IsOver, StandsWell, opened_by-over, row_lives}
use Rattle.qx_invariants.proofs.Connected.{Connected, alike_connected, alike_with, fewer_connected, held_there, is_misled, misled, open_held, thread_alike, waiters_after}
use Rattle.qx_invariants.proofs.Counts.{count-cons}
use Rattle.qx_invariants.proofs.Deeds.{Kept, cancel-gives}
use Rattle.qx_invariants.proofs.Effects.{effect_moved, error_connected}
use Rattle.qx_invariants.proofs.Holdings.{AreFresh, Holding, Holdings, after_seen, holding, holding_of, holdings-keep, holdings_first}
use Rattle.qx_invariants.proofs.Items.{is_put_pulse, puts}
use Rattle.qx_invariants.proofs.Moving.{Loses, Moved, loses_once, moved_connected, same_moved}
use Rattle.qx_invariants.proofs.Once.{taken_is}
use Rattle.qx_invariants.proofs.Sending.{target_in}
use Rattle.qx_invariants.proofs.Served.{IsResettled, reply_resettled, thread_resettled}
use Rattle.qx_invariants.proofs.Sound.{IsSound}
use Rattle.qx_invariants.proofs.Staying.{ClientsStay, made_seen, same_stay}
use Rattle.qx_invariants.proofs.Steps.{deed_kept}
use Rattle.qx_invariants.proofs.Told.{CameWith, HasEffect, IsCall, SeenWith, telling}

-- ---- what closes

gives_every : {A E : Type 0} (Q : A → Type 0) (given : Result A E) → ((value : A) → Q value) → Gives Q given
gives_every Q (Ok value) h = gives_done _ _ (h value)
gives_every Q (Err error) h = gives_error _ _

-- only a message that names no old connection closes one
abbrev ClosesOwn : Meaning → Option Reply → Type 0
ClosesOwn given reply = (its : Reply) (coid : Coid) → reply ≡ Some its → its.effect ≡ effect.Closes coid → dup_of given ≡ None

-- one that names it opens
dup_opens : (r : Resources) (context : Context) (old : Coid) → Gives (λ (deed : Deed Resources). ClosesOwn (Known (msg.Dup old)) deed.reply) (function_deed (Some dup_open) (new_dup context) (λ f dup. f r dup))
dup_opens r context old =
    gives_on _ (new_dup context) _ (λ dup is. gives_on _ (dup_block r.inodes dup.old.number) _ (λ inodes was. gives_done _ _ (λ its coid same closes.
    let clash : effect.Opens dup.coid dup.old.number ≡ effect.Closes coid = ap (λ (reply : Reply). reply.effect) (same_Some _ _ same) ∙ closes in absurd (cc))))

closes_own : (r : Resources) (context : Context) (given : Meaning) → Gives (λ (deed : Deed Resources). ClosesOwn given deed.reply) (deed_of r context given)
closes_own r context (Known message) = by context.target.manager message
  where
    by : (manager : Manager) (message : Message) → Gives (λ (deed : Deed Resources). ClosesOwn (Known message) deed.reply) (manager_deed manager r context message)
    by managers.Ram (msg.Dup old) = dup_opens r context old
    by managers.Pipe (msg.Dup old) = dup_opens r context old
    by (managers.Device device) (msg.Dup old) = dup_opens r context old
    by manager _ = gives_every _ _ (λ deed its coid same closes. refl)
closes_own r context Unknown = gives_every _ _ (λ deed its coid same closes. refl)
closes_own r context Malformed = gives_every _ _ (λ deed its coid same closes. refl)

-- ---- what is put into lines

pub answered_none : (client : Client) (answers : List (WaitingCall × Answer)) (part : Part) → puts client (answered_changes answers part) ≡ 0
answered_none client [] part = refl
answered_none client (first ∷ answers) part =
    let all = count-cons (is_put_pulse client) (Remove (called_by (thread_at part first.0.process first.0.thread)) (item.Unblock first.0.process first.0.thread first.0.call)) (answered_changes answers (with_answer first part)) in
    let rest = answered_none client answers (with_answer first part) in
    omega (arith, all, rest)

-- as a message is served, nothing but what its process lost
served_puts : (part : Part) (client : Client) (manager : Manager) (caller : Caller) (lost : List Change) (answers : List (WaitingCall × Answer)) (replied : Bool) → puts client ((if replied then own_change manager caller ∷ [] else []) ++ lost ++ answered_changes answers part) ≡ puts client lost
served_puts part client manager caller lost answers true =
    let first = count-cons (is_put_pulse client) (own_change manager caller) (lost ++ answered_changes answers part) in
    let both = sum_by-append (λ change. one (is_put_pulse client change)) lost (answered_changes answers part) in
    let none = answered_none client answers part in
    omega (arith, first, both, none)
served_puts part client manager caller lost answers false =
    let both = sum_by-append (λ change. one (is_put_pulse client change)) lost (answered_changes answers part) in
    let none = answered_none client answers part in
    omega (arith, both, none)

-- ---- answers

-- who waited is answered
pub answers_connected : (answers : List (WaitingCall × Answer)) (part : Part) (named : Client → ℕ) → Connected part named → Connected (with_answers answers part) named
answers_connected [] part named h = h
answers_connected ((call, given) ∷ answers) part named h =
    answers_connected answers (with_process call.process (with_thread call.thread (answered_thread given)) part) named
    (alike_connected part named _ (alike_with part.processes call.process (with_thread call.thread (answered_thread given)) (λ process there. thread_alike process call.thread (answered_thread given))) h)

-- ---- a message

module _ (part : Part) (named : Client → ℕ) (well : StandsWell part) (h : Connected part named) (number thread : ℕ) (process : Process) (is_process : row_at part.processes number ≡ Some process)
    (row : ThreadRow) (is_row : row_at process.threads thread ≡ Some row) (sent : Sent) (is_sent : taken_in row.state ≡ Some sent) (moment : ℕ) where
  abbrev given : Meaning
  given = meaning sent.bytes

  abbrev caller : Caller
  caller = caller_of number thread row sent

  abbrev context : Context
  context = context_of process caller sent.target moment given

  its_sound : IsSound part.resources.mounts process
  its_sound = well.clientele.sound number process is_process

  lives : has_ended process ≡ false
  lives = row_lives process thread row is_row

  is_target : target_in row.state ≡ Some sent.target
  is_target = ap target_in (taken_is row.state sent is_sent)

  -- what its manager left of the resources
  module _ (r : Resources) (seen : List ResourceChange) (came : List WaitingCall) (rows : (m : ℕ) → holding (row_at r.inodes.blocks m) ≡ after_seen seen m (holding (row_at part.resources.inodes.blocks m))) (fresh : AreFresh part.resources seen)
      (few : (which : WaitingCall → Bool) → count_waiting which r.pipes ≤ count_waiting which part.resources.pipes + count_by which came) (over_open : HasOpenWaiters r) where
    -- a side connection has nothing open
    side_closes : sent.target.over ≡ Side → dup_of given ≡ None → (opened : Opened) → context.opened ≡ Ok opened → ⊥
    side_closes is none opened was =
        let works = gives-value (λ _. (coid : Coid) × (works_over sent.target.over (dup_of given) ≡ Ok coid)) _ opened was
        (gives_on _ (works_over sent.target.over (dup_of given)) _ (λ coid is_coid. gives_every _ _ (λ _. (coid, is_coid)))) in
        let error : works_over sent.target.over (dup_of given) ≡ Err EINVAL = λ i. works_over (is i) (none i) in
        let clash : Err EINVAL ≡ Ok works.0 = sym error ∙ works.1 in
        cc

    reply_moved : (change : ThreadRow → ThreadRow) (own : ClientsStay part.resources r → HasOwnWaiters r) (over : Over) → sent.target.over ≡ over → (done : Effect) → HasEffect part.resources context done seen → ((coid : Coid) → done ≡ effect.Closes coid → dup_of given ≡ None)
        → Moved part.resources number (after_reply thread over done (with_thread thread change process)) r
    reply_moved change own (New coid) is done has closes = effect_moved part named well h number thread process is_process row is_row sent is_target moment given change r seen rows fresh own done has
    reply_moved change own (Existing coid) is done has closes = effect_moved part named well h number thread process is_process row is_row sent is_target moment given change r seen rows fresh own done has
    reply_moved change own Side is effect.Keeps has closes =
        let now : Process = after_reply thread Side effect.Keeps (with_thread thread change process) in
        let kept : (m : ℕ) → holding (row_at r.inodes.blocks m) ≡ holding (row_at part.resources.inodes.blocks m) = λ m. rows m ∙ made_seen context seen has m (holding (row_at part.resources.inodes.blocks m)) in
        same_moved part named h number process is_process lives its_sound.served now (reply_resettled process its_sound.served thread change Side effect.Keeps) r (own (same_stay part.resources r kept)) kept refl
    reply_moved change own Side is (effect.Opens coid n) (inl new) closes = let clash : None ≡ Some coid = sym (ap new_coid is) ∙ new.over in absurd (cc)
    reply_moved change own Side is (effect.Opens coid n) (inr new) closes = let clash : None ≡ Some coid = sym (ap new_coid is) ∙ new.over in absurd (cc)
    reply_moved change own Side is (effect.Closes coid) has closes = absurd (side_closes is (closes coid refl) has.opened has.was)

    -- a message that is not replied to is a call that waits over what its own process has open
    unreplied_moved : IsCall context came → seen ≡ [] → Moved part.resources number (with_thread thread served_thread process) r
    unreplied_moved own none =
        same_moved part named h number process is_process lives its_sound.served (with_thread thread served_thread process) (thread_resettled process its_sound.served thread served_thread) r
        (waiters_after part.resources r came h.waiters over_open few (same_stay part.resources r kept) here) kept refl
      where
        kept : (m : ℕ) → holding (row_at r.inodes.blocks m) ≡ holding (row_at part.resources.inodes.blocks m)
        kept m = rows m ∙ ap (λ l. after_seen l m (holding (row_at part.resources.inodes.blocks m))) none

        over : IsOver process sent.target own.opened
        over = opened_by-over process caller sent.target moment (dup_of given) own.opened own.was

        its : IsOpenFor part.resources.inodes.blocks number process over.connection.manager own.opened.number
        its = h.has.opened number process is_process own.opened.coid.0 over.connection own.opened.number over.there over.block

        block : (b : Ocb) × (row_at r.inodes.blocks own.opened.number ≡ Some b) × (holding_of b ≡ holding_of its.block)
        block = held_there (row_at r.inodes.blocks own.opened.number) (holding_of its.block) (kept own.opened.number ∙ ap holding its.there)

        own_process : block.0.client.process ≡ own.call.process
        own_process =
            ap (λ (hold : Holding). hold.client.process) block.2 ∙ (its.process_is ∙ sym (own.process ∙ ap (λ (c : Caller). c.process) (opened_by-caller process caller sent.target moment (dup_of given) own.opened own.was)))

        led : is_misled r.inodes.blocks own.call ≡ false
        led = ap (λ n. misled own.call.process (row_at r.inodes.blocks n)) own.over ∙ (ap (misled own.call.process) block.1 ∙ ap not (eq-eqb block.0.client.process own.call.process own_process))

        here : count_by (is_misled r.inodes.blocks) came ≡ 0
        here =
            let alone : count_by (is_misled r.inodes.blocks) came ≡ 0 + one (is_misled r.inodes.blocks own.call) = ap (count_by (is_misled r.inodes.blocks)) own.alone in
            let its_own : one (is_misled r.inodes.blocks own.call) ≡ 0 = ap one led in
            omega (arith, alone, its_own)

    done_moved : (reply : Option Reply) → CameWith context reply came → SeenWith part.resources context reply seen → ClosesOwn given reply → Moved part.resources number (after_serving thread sent.target.over reply process) r
    done_moved None own has closes = unreplied_moved own has
    done_moved (Some reply) none has closes =
        reply_moved (answered_thread (answer.Reply reply.status reply.bytes)) (λ stays. waiters_after part.resources r came h.waiters over_open few stays (ap (count_by (is_misled r.inodes.blocks)) none)) sent.target.over refl reply.effect has (λ coid is. closes reply coid refl is)

  serving_resettled : (reply : Option Reply) → IsResettled process (after_serving thread sent.target.over reply process)
  serving_resettled None = thread_resettled process its_sound.served thread served_thread
  serving_resettled (Some reply) = reply_resettled process its_sound.served thread (answered_thread (answer.Reply reply.status reply.bytes)) sent.target.over reply.effect

  served_connected : (prio : ℕ) (done : Result (Deed Resources) Errno) → Gives (Kept (Holdings part.resources) (holdings-keep part.resources) part.resources context) done → Gives (λ (deed : Deed Resources). ClosesOwn given deed.reply) done
      → Connected (served_by prio part caller sent done).part (λ own. named own + puts own (served_by prio part caller sent done).changes)
  served_connected prio (Ok deed) kept closes =
      let k = gives-value (Kept (Holdings part.resources) (holdings-keep part.resources) part.resources context) (Ok deed) deed refl kept in
      let only = gives-value (λ (d : Deed Resources). ClosesOwn given d.reply) (Ok deed) deed refl closes in
      let held = k.kept.held refl in
      let f : Process → Process = after_serving thread sent.target.over deed.reply in
      let lost : List Change = disconnects prio number f (row_at part.processes number) in
      let mid : Part = with_process number f (record part { resources = deed.state }) in
      let loses = subst (λ place. Loses number process (f process) (disconnects prio number f place)) (sym is_process) (loses_once number process (f process) (serving_resettled deed.reply) its_sound.served prio) in
      let moved = done_moved deed.state k.seen k.came held.rows held.fresh held.few k.kept.holds.waiters deed.reply k.own k.effect only in
      fewer_connected (with_answers deed.answers mid) (λ own. named own + puts own lost) (λ own. named own + puts own (served_by prio part caller sent (Ok deed)).changes)
      (λ own. let same : puts own (served_by prio part caller sent (Ok deed)).changes ≡ puts own lost = served_puts (with_process number f part) own sent.target.manager caller lost deed.answers (is_some deed.reply) in omega (arith, same))
      (answers_connected deed.answers mid (λ own. named own + puts own lost) (moved_connected part named h number process is_process f deed.state lost loses moved))
  served_connected prio (Err error) kept closes =
      let change : ThreadRow → ThreadRow = answered_thread (answer.Failed error) in
      let f : Process → Process = λ p. after_error thread sent.target.over (with_thread thread change p) in
      let lost : List Change = disconnects prio number f (row_at part.processes number) in
      fewer_connected (with_process number f part) (λ own. named own + puts own lost) (λ own. named own + puts own (served_by prio part caller sent (Err error)).changes)
      (λ own. let all : puts own (served_by prio part caller sent (Err error)).changes ≡ 0 + puts own lost = count-cons (is_put_pulse own) (own_change sent.target.manager caller) lost in omega (arith, all))
      (error_connected part named well h number thread process is_process row is_row sent.target is_target change prio)

-- all that is served so
abbrev pub ServedWith : (Client → ℕ) → Served → Type 0
ServedWith named served = Connected served.part (λ own. named own + puts own served.changes)

pub message_connected : (part : Part) (named : Client → ℕ) → StandsWell part → Connected part named → (prio number thread moment : ℕ) → Gives (ServedWith named) (serve_message prio part number thread moment)
message_connected part named well h prio number thread moment =
    gives_on _ (found (row_at part.processes number) WrongState) _ (λ process is_process.
    gives_on _ (found (row_at process.threads thread) WrongState) _ (λ row is_row.
    gives_on _ (found (taken_in row.state) WrongState) _ (λ sent is_sent.
    let context = context_of process (caller_of number thread row sent) sent.target moment (meaning sent.bytes) in
    gives_done _ _ (served_connected part named well h number thread process (found-row _ _ process is_process) row (found-row _ _ row is_row) sent (found-row _ _ sent is_sent) moment prio _
    (deed_kept (Holdings part.resources) (holdings-keep part.resources) part.resources (holdings_first part.resources well.stands.holds) process (caller_of number thread row sent) sent.target moment sent.bytes)
    (closes_own part.resources context (meaning sent.bytes))))))

-- ---- a pulse that asks to unblock

-- nothing of what is open has another client or other uses
pub rested_connected : (part : Part) (named : Client → ℕ) → Connected part named → (r : Resources) → ((which : ℕ) → holding (row_at r.inodes.blocks which) ≡ holding (row_at part.resources.inodes.blocks which)) → HasOwnWaiters r → Connected (record part { resources = r }) named
rested_connected part named h r rows waiters = record {
  pulses = h.pulses;
  has = record {
    opened = λ number process there coid connection which at has.
        let is = h.has.opened number process there coid connection which at has in
        open_held part.resources.inodes.blocks r.inodes.blocks number process connection.manager which is (holding_of is.block) (rows which ∙ ap holding is.there) refl;
    uses = λ which block there process is lives.
        let was = held_there (row_at part.resources.inodes.blocks which) (holding_of block) (sym (rows which) ∙ ap holding there) in
        ap (λ (hold : Holding). hold.uses) (sym was.2) ∙ h.has.uses which was.0 was.1 process (ap (λ (hold : Holding). row_at part.processes hold.client.process) was.2 ∙ is) lives;
  };
  waiters = waiters;
}

pub unblock_connected : (part : Part) (named : Client → ℕ) → StandsWell part → Connected part named → (process thread number moment : ℕ) → Gives (ServedWith named) (serve_pulse part process thread number moment)
unblock_connected part named well h process thread number moment =
    gives_by (λ (deed : Deed Resources). Holdings part.resources deed.state (telling deed.answers [])) _ (cancel_call part.resources process thread number moment) _
    (cancel-gives (Holdings part.resources) (holdings-keep part.resources) part.resources (holdings_first part.resources well.stands.holds) process thread number moment) (λ deed kept.
    let held = kept.held refl in
    let mid : Part = record part { resources = deed.state } in
    let waiters = waiters_after part.resources deed.state [] h.waiters kept.holds.waiters held.few (same_stay part.resources deed.state held.rows) refl in
    gives_done _ _ (fewer_connected (with_answers deed.answers mid) named (λ own. named own + puts own (answered_changes deed.answers part)) (λ own. let none = answered_none own deed.answers part in omega (arith, none))
    (answers_connected deed.answers mid named (rested_connected part named h deed.state held.rows waiters))))
