-- What a message that is served makes of its process and of what is open: connections, open control blocks and disconnect pulses stand together still.
use Rattle.std.proofs.Common.{◌≡◌, ◌≢◌, inl, inr, ℕ, ◌+◌, ◌≤◌, ◌==◌, false, List, [], ◌∷◌, refl, sym, ap, ◌∙◌, subst, arith}
use Rattle.std.specs.Prelude.{Option, Some, None, Ok, if◌then◌else◌, option_map, unwrap_or}
use Rattle.std.specs.List.{AllByRecursion, count_by}
use Rattle.std.proofs.lemmas.Bool.{eq-eqb, eqb-true, ne_eqb}
use Rattle.std.proofs.lemmas.Option.{same_Some}
use Rattle.qx_types.specs.Managers.{manager_number}
use Rattle.qx_types.specs.declared.names.Coid.{Coid}
use Rattle.qx_types.proofs.Managers.{same_manager}
use Rattle.qx_wire.specs.declared.message.Meaning.{Meaning}
use Rattle.qx_machine.specs.declared.rows.Caller.{Caller}
use Rattle.qx_machine.specs.declared.rows.Client.{Client}
use Rattle.qx_machine.specs.declared.rows.Connection.{Connection}
use Rattle.qx_machine.specs.declared.rows.Context.{Context}
use Rattle.qx_machine.specs.declared.rows.Effect.{Effect}
use Rattle.qx_machine.specs.declared.rows.Effect.TheVariants as effect
use Rattle.qx_machine.specs.declared.rows.Kind.{Kind}
use Rattle.qx_machine.specs.declared.rows.Ocb.{Ocb}
use Rattle.qx_machine.specs.declared.rows.Opened.{Opened}
use Rattle.qx_machine.specs.declared.rows.Over.{Over}
use Rattle.qx_machine.specs.declared.rows.Over.TheVariants.{Existing, New, Side}
use Rattle.qx_machine.specs.declared.rows.Sent.{Sent}
use Rattle.qx_machine.specs.declared.rows.Target.{Target}
use Rattle.qx_machine.specs.declared.rows.ThreadRow.{ThreadRow}
use Rattle.qx_machine.specs.Functions.{new_coid}
use Rattle.qx_machine.specs.Parts.{Part, disconnects, with_process}
use Rattle.qx_machine.specs.Performing.{caller_of, context_of, dup_of}
use Rattle.qx_machine.specs.Processes.{Process, after_effect, after_error, has_ended, servers_at, with_thread}
use Rattle.qx_machine.specs.Resources.{Resources}
use Rattle.qx_isolation.specs.Rows.{row_at}
use Rattle.qx_machine.specs.Servers.{in_use}
use Rattle.qx_isolation.proofs.Places.{row_at-set_cases}
use Rattle.qx_attr.specs.inner.Counts.{one}
use Rattle.qx_attr.proofs.CountLemmas.{count-free}
use Rattle.qx_invariants.specs.Changes.{Closes, Moves, OneLess, ResourceChange, WithLast}
use Rattle.qx_invariants.specs.Holds.{HasOwnWaiters, IsOpenFor, has_open, is_block}
use Rattle.qx_invariants.proofs.Clients.{IsOver, StandsWell, opened_by-over, row_lives}
use Rattle.qx_invariants.proofs.Connected.{Connected, has_counts, held_there, none_counts, none_held, open_held}
use Rattle.qx_invariants.proofs.Holdings.{AreFresh, Holding, after_seen, holding, holding_of, one_less, one_more}
use Rattle.qx_invariants.proofs.Items.{puts}
use Rattle.qx_invariants.proofs.Moving.{Loses, Moved, chosen_here, chosen_other, gone_moved, got_moved, kept_moved, loses_once, moved_connected, same_moved, uses_counted}
use Rattle.qx_invariants.proofs.Rows.{the-some}
use Rattle.qx_invariants.proofs.Sending.{target_in, target_of, target_of_row, unopened_at}
use Rattle.qx_invariants.proofs.Served.{connection_served, effect_resettled, error_resettled}
use Rattle.qx_invariants.proofs.Sound.{IsSound}
use Rattle.qx_invariants.proofs.Staying.{ClientsStay, client_of, less_client, made_seen, more_client, one_stays, same_stay, was_client}
use Rattle.qx_invariants.proofs.Told.{HasEffect, IsClosed, IsDuped, IsMadeThere, IsOpened}

-- ---- a message's process

module _ (part : Part) (named : Client → ℕ) (well : StandsWell part) (h : Connected part named) (number thread : ℕ) (process : Process) (is_process : row_at part.processes number ≡ Some process)
    (row : ThreadRow) (is_row : row_at process.threads thread ≡ Some row) (target : Target) (is_target : target_in row.state ≡ Some target) (change : ThreadRow → ThreadRow) where
  sound : IsSound part.resources.mounts process
  sound = well.clientele.sound number process is_process

  lives : has_ended process ≡ false
  lives = row_lives process thread row is_row

  its_target : target_of thread process ≡ Some target
  its_target = ap target_of_row is_row ∙ is_target

  -- a message that is answered an error leaves what it came over, or takes its new connection away, which has nothing open
  error_moved : (over : Over) → target.over ≡ over → Moved part.resources number (after_error thread over (with_thread thread change process)) part.resources
  error_moved (New coid) is =
      let now : Process = after_error thread (New coid) (with_thread thread change process) in
      kept_moved part named h number process is_process lives sound.served now (error_resettled process sound.served thread change (New coid)) part.resources h.waiters (λ which. refl)
      (λ c connection which at has. elim (row_at-set_cases process.connections coid.0 c None connection at) [ inl was ↦ was | inr none ↦ absurd (cc) ])
      (λ which. let freed = count-free (has_open which) refl process.connections coid.0 (unopened_at target) (sound.sends.connected thread target its_target coid (ap new_coid is)) in omega (arith, freed))
  error_moved (Existing coid) is =
      let now : Process = after_error thread (Existing coid) (with_thread thread change process) in
      same_moved part named h number process is_process lives sound.served now (error_resettled process sound.served thread change (Existing coid)) part.resources h.waiters (λ which. refl) refl
  error_moved Side is =
      let now : Process = after_error thread Side (with_thread thread change process) in
      same_moved part named h number process is_process lives sound.served now (error_resettled process sound.served thread change Side) part.resources h.waiters (λ which. refl) refl

  pub error_connected : (prio : ℕ) → Connected (with_process number (λ p. after_error thread target.over (with_thread thread change p)) part) (λ own. named own + puts own (disconnects prio number (λ p. after_error thread target.over (with_thread thread change p)) (row_at part.processes number)))
  error_connected prio =
      let f : Process → Process = λ p. after_error thread target.over (with_thread thread change p) in
      moved_connected part named h number process is_process f part.resources (disconnects prio number f (row_at part.processes number))
      (subst (λ place. Loses number process (f process) (disconnects prio number f place)) (sym is_process) (loses_once number process (f process) (error_resettled process sound.served thread change target.over) sound.served prio)) (error_moved target.over refl)

-- ---- what becomes of its connection

module _ (part : Part) (named : Client → ℕ) (well : StandsWell part) (h : Connected part named) (number thread : ℕ) (process : Process) (is_process : row_at part.processes number ≡ Some process)
    (row : ThreadRow) (is_row : row_at process.threads thread ≡ Some row) (sent : Sent) (is_target : target_in row.state ≡ Some sent.target) (moment : ℕ) (given : Meaning) (change : ThreadRow → ThreadRow)
    (r : Resources) (seen : List ResourceChange) (rows : (m : ℕ) → holding (row_at r.inodes.blocks m) ≡ after_seen seen m (holding (row_at part.resources.inodes.blocks m))) (fresh : AreFresh part.resources seen) (waiters : ClientsStay part.resources r → HasOwnWaiters r) where
  abbrev blocks : List (Option Ocb)
  blocks = part.resources.inodes.blocks

  abbrev caller : Caller
  caller = caller_of number thread row sent

  abbrev context : Context
  context = context_of process caller sent.target moment given

  abbrev mid : Process
  mid = with_thread thread change process

  process_sound : IsSound part.resources.mounts process
  process_sound = well.clientele.sound number process is_process

  process_lives : has_ended process ≡ false
  process_lives = row_lives process thread row is_row

  -- what the message's connection has open
  over : (opened : Opened) → context.opened ≡ Ok opened → IsOver process sent.target opened
  over opened was = opened_by-over process caller sent.target moment (dup_of given) opened was

  over_open : (opened : Opened) (was : context.opened ≡ Ok opened) → IsOpenFor blocks number process (over opened was).connection.manager opened.number
  over_open opened was = let its = over opened was in h.has.opened number process is_process opened.coid.0 its.connection opened.number its.there its.block

  -- what is open for it is its own
  own_block : (n : ℕ) (block own : Ocb) → row_at blocks n ≡ Some block → row_at blocks n ≡ Some own → own.client.process ≡ number → block.client.process ≡ number
  own_block n block own at there its = ap (λ (b : Ocb). b.client.process) (same_Some _ _ (sym at ∙ there)) ∙ its

  held_own : (n : ℕ) (hold : Holding) → holding (row_at r.inodes.blocks n) ≡ Some hold → hold.client.process ≡ number → (block : Ocb) → row_at r.inodes.blocks n ≡ Some block → block.client.process ≡ number
  held_own n hold is its block at = ap (λ (other : Holding). other.client.process) (same_Some _ _ (sym (ap holding at) ∙ is)) ∙ its

  held_uses : (n : ℕ) (hold : Holding) → holding (row_at r.inodes.blocks n) ≡ Some hold → (block : Ocb) → row_at r.inodes.blocks n ≡ Some block → block.uses ≡ hold.uses
  held_uses n hold is block at = ap (λ (other : Holding). other.uses) (same_Some _ _ (sym (ap holding at) ∙ is))

  -- what is not open no connection has
  unheld : (n : ℕ) → row_at blocks n ≡ None → (c : ℕ) (connection : Connection) → row_at process.connections c ≡ Some connection → has_open n (Some connection) ≡ false
  unheld n free c connection at = by connection.block refl
    where
      by : (block : Option ℕ) → connection.block ≡ block → is_block n block ≡ false
      by None none = refl
      by (Some w) has = ne_eqb w n (λ same. let is = h.has.opened number process is_process c connection w at has in let clash : None ≡ Some is.block = sym free ∙ (ap (row_at blocks) (sym same) ∙ is.there) in cc)

  -- a new open control block
  module _ (coid : Coid) (n : ℕ) (is : IsOpened context coid n seen) where
    abbrev opening : Process
    opening = after_effect (effect.Opens coid n) mid

    new_row : (m : ℕ) → holding (row_at r.inodes.blocks m) ≡ (if n == m then Some (holding_of is.block) else holding (row_at blocks m))
    new_row m = rows m ∙ (ap (λ l. after_seen l m (holding (row_at blocks m))) is.last ∙ ap (λ hold. if n == m then Some (holding_of is.block) else hold) (made_seen context is.before is.made m (holding (row_at blocks m))))

    new_free : row_at blocks n ≡ None
    new_free = none_held (row_at blocks n) (sym (made_seen context is.before is.made n (holding (row_at blocks n))) ∙ (subst (AreFresh part.resources) is.last fresh).0)

    new_at : holding (row_at r.inodes.blocks n) ≡ Some (holding_of is.block)
    new_at = new_row n ∙ chosen_here n (Some (holding_of is.block)) (holding (row_at blocks n))

    new_others : (m : ℕ) → m ≢ n → holding (row_at r.inodes.blocks m) ≡ holding (row_at blocks m)
    new_others m apart = new_row m ∙ chosen_other n m (Some (holding_of is.block)) (holding (row_at blocks m)) apart

    new_unopened : row_at process.connections coid.0 ≡ Some (unopened_at sent.target)
    new_unopened = process_sound.sends.connected thread sent.target (ap target_of_row is_row ∙ is_target) coid is.over

    new_open : IsOpenFor r.inodes.blocks number opening sent.target.manager n
    new_open =
        let own = held_there (row_at r.inodes.blocks n) (holding_of is.block) new_at in
        let client : own.0.client ≡ context.client = ap (λ (hold : Holding). hold.client) own.2 ∙ is.client in
        let used = the-some (in_use (servers_at sent.target.manager process)) (connection_served process coid.0 (unopened_at sent.target) process_sound.served new_unopened) in
        record {
          block = own.0;
          there = own.1;
          process_is = ap (λ (c : Client). c.process) client;
          manager_is = ap (λ (c : Client). c.server.manager) client;
          used = used.1 ∙ sym (ap (λ (c : Client). Some c.server.number) client ∙ ap (λ place. Some (unwrap_or place 0)) used.1);
        }

    opens_new : Moved part.resources number opening r
    opens_new =
        got_moved part named h number process is_process process_lives process_sound.served opening (effect_resettled process process_sound.served thread change (effect.Opens coid n)) r (waiters (one_stays part.resources r n new_others (λ block at. inr new_free)))
        n new_others (λ block at. let clash : None ≡ Some block = sym new_free ∙ at in absurd (cc)) (held_own n (holding_of is.block) new_at (ap (λ (c : Client). c.process) is.client)) coid.0 (unopened_at sent.target) new_unopened refl refl new_open
        (λ c connection was at has its. let clash : None ≡ Some its.block = sym new_free ∙ its.there in absurd (cc))
        (λ block at. let uses = held_uses n (holding_of is.block) new_at block at in let once = is.uses in let none = none_counts n process.connections (unheld n new_free) in omega (arith, uses, once, none))

  -- one that another connection has
  module _ (coid : Coid) (n : ℕ) (is : IsDuped context coid n seen) where
    abbrev duping : Process
    duping = after_effect (effect.Opens coid n) mid

    abbrev old : IsOver process sent.target is.opened
    old = over is.opened is.was

    more_row : (m : ℕ) → holding (row_at r.inodes.blocks m) ≡ (if n == m then option_map one_more (holding (row_at blocks m)) else holding (row_at blocks m))
    more_row m = rows m ∙ ap (λ l. after_seen l m (holding (row_at blocks m))) is.alone

    more_others : (m : ℕ) → m ≢ n → holding (row_at r.inodes.blocks m) ≡ holding (row_at blocks m)
    more_others m apart = more_row m ∙ chosen_other n m (option_map one_more (holding (row_at blocks m))) (holding (row_at blocks m)) apart

    old_open : IsOpenFor blocks number process old.connection.manager n
    old_open = subst (IsOpenFor blocks number process old.connection.manager) is.number_is (over_open is.opened is.was)

    more_at : (block : Ocb) → row_at blocks n ≡ Some block → holding (row_at r.inodes.blocks n) ≡ Some (one_more (holding_of block))
    more_at block there = more_row n ∙ (chosen_here n (option_map one_more (holding (row_at blocks n))) (holding (row_at blocks n)) ∙ ap (λ place. option_map one_more (holding place)) there)

    more_open : IsOpenFor r.inodes.blocks number duping sent.target.manager n
    more_open =
        let held = open_held blocks r.inodes.blocks number process old.connection.manager n old_open (one_more (holding_of old_open.block)) (more_at old_open.block old_open.there) refl in
        subst (λ manager. IsOpenFor r.inodes.blocks number duping manager n) (same_manager old.connection.manager sent.target.manager (eqb-true (manager_number old.connection.manager) (manager_number sent.target.manager) old.manager))
        (record { block = held.block; there = held.there; process_is = held.process_is; manager_is = held.manager_is; used = held.used })

    more_stays : ClientsStay part.resources r
    more_stays = one_stays part.resources r n more_others (λ block at. inl (was_client (row_at blocks n) (row_at r.inodes.blocks n) block at
        (ap (option_map client_of) (more_row n ∙ chosen_here n (option_map one_more (holding (row_at blocks n))) (holding (row_at blocks n))) ∙ more_client (row_at blocks n))))

    opens_more : Moved part.resources number duping r
    opens_more =
        got_moved part named h number process is_process process_lives process_sound.served duping (effect_resettled process process_sound.served thread change (effect.Opens coid n)) r (waiters more_stays)
        n more_others (λ block at. own_block n block old_open.block at old_open.there old_open.process_is) (held_own n (one_more (holding_of old_open.block)) (more_at old_open.block old_open.there) old_open.process_is) coid.0 (unopened_at sent.target)
        (process_sound.sends.connected thread sent.target (ap target_of_row is_row ∙ is_target) coid is.over) refl refl more_open
        (λ c connection was at has stays. (one_more (holding_of stays.block), more_at stays.block stays.there, refl))
        (λ block at.
        let uses = held_uses n (one_more (holding_of old_open.block)) (more_at old_open.block old_open.there) block at in
        let counted = uses_counted part named h number process is_process process_lives n (holding_of old_open.block) (ap holding old_open.there) old_open.process_is in
        omega (arith, uses, counted))

  -- a connection is closed
  module _ (coid : Coid) (is : IsClosed part.resources context coid seen) where
    abbrev n : ℕ
    n = is.opened.number

    abbrev closed : Process
    closed = after_effect (effect.Closes coid) mid

    abbrev was_over : IsOver process sent.target is.opened
    was_over = over is.opened is.was

    was_open : IsOpenFor blocks number process was_over.connection.manager n
    was_open = over_open is.opened is.was

    was_there : row_at process.connections coid.0 ≡ Some was_over.connection
    was_there = ap (λ (c : Coid). row_at process.connections c.0) (sym is.coid_is) ∙ was_over.there

    counted : was_open.block.uses ≡ count_by (has_open n) process.connections
    counted = uses_counted part named h number process is_process process_lives n (holding_of was_open.block) (ap holding was_open.there) was_open.process_is

    -- another one has open what it had
    closes_less : seen ≡ Moves n OneLess ∷ [] → Moved part.resources number closed r
    closes_less less =
        gone_moved part named h number process is_process process_lives process_sound.served closed (effect_resettled process process_sound.served thread change (effect.Closes coid)) r
        (waiters (one_stays part.resources r n others (λ block at. inl (was_client (row_at blocks n) (row_at r.inodes.blocks n) block at (ap (option_map client_of) (row_is n ∙ chosen_here n (option_map one_less (holding (row_at blocks n))) (holding (row_at blocks n))) ∙ less_client (row_at blocks n))))))
        n others (λ block at. own_block n block was_open.block at was_open.there was_open.process_is) (held_own n (one_less (holding_of was_open.block)) (at_n was_open.block was_open.there) was_open.process_is) coid.0 was_over.connection was_there was_over.block refl
        (λ c connection was at has stays. (one_less (holding_of stays.block), at_n stays.block stays.there, refl))
        (λ block at.
        let uses = held_uses n (one_less (holding_of was_open.block)) (at_n was_open.block was_open.there) block at in
        let some = has_counts n process.connections coid.0 was_over.connection was_there (ap (is_block n) was_over.block ∙ eq-eqb n n refl) in
        let all = counted in
        omega (arith, uses, some, all))
      where
        row_is : (m : ℕ) → holding (row_at r.inodes.blocks m) ≡ (if n == m then option_map one_less (holding (row_at blocks m)) else holding (row_at blocks m))
        row_is m = rows m ∙ ap (λ l. after_seen l m (holding (row_at blocks m))) less

        others : (m : ℕ) → m ≢ n → holding (row_at r.inodes.blocks m) ≡ holding (row_at blocks m)
        others m apart = row_is m ∙ chosen_other n m (option_map one_less (holding (row_at blocks m))) (holding (row_at blocks m)) apart

        at_n : (block : Ocb) → row_at blocks n ≡ Some block → holding (row_at r.inodes.blocks n) ≡ Some (one_less (holding_of block))
        at_n block there = row_is n ∙ (chosen_here n (option_map one_less (holding (row_at blocks n))) (holding (row_at blocks n)) ∙ ap (λ place. option_map one_less (holding place)) there)

    -- what it had open goes, which no other has
    closes_last : (own : Kind) → is.block.uses ≤ 1 → seen ≡ Closes own n is.block WithLast ∷ [] → Moved part.resources number closed r
    closes_last own few last =
        gone_moved part named h number process is_process process_lives process_sound.served closed (effect_resettled process process_sound.served thread change (effect.Closes coid)) r
        (waiters (one_stays part.resources r n others (λ block at. absurd (none_there block at))))
        n others (λ block at. own_block n block was_open.block at was_open.there was_open.process_is) (λ block at. absurd (none_there block at)) coid.0 was_over.connection was_there was_over.block refl
        (λ c connection was at has stays. absurd (alone c connection at has)) (λ block at. absurd (none_there block at))
      where
        row_is : (m : ℕ) → holding (row_at r.inodes.blocks m) ≡ (if n == m then None else holding (row_at blocks m))
        row_is m = rows m ∙ ap (λ l. after_seen l m (holding (row_at blocks m))) last

        others : (m : ℕ) → m ≢ n → holding (row_at r.inodes.blocks m) ≡ holding (row_at blocks m)
        others m apart = row_is m ∙ chosen_other n m None (holding (row_at blocks m)) apart

        none_there : (block : Ocb) → row_at r.inodes.blocks n ≡ Some block → ⊥
        none_there block at = let clash : None ≡ Some (holding_of block) = sym (row_is n ∙ chosen_here n None (holding (row_at blocks n))) ∙ ap holding at in cc

        alone : (c : ℕ) (connection : Connection) → row_at closed.connections c ≡ Some connection → connection.block ≡ Some n → ⊥
        alone c connection at has =
            let freed = count-free (has_open n) refl process.connections coid.0 was_over.connection was_there in
            let its : one (has_open n (Some was_over.connection)) ≡ 1 = ap one (ap (is_block n) was_over.block ∙ eq-eqb n n refl) in
            let some = has_counts n closed.connections c connection at (ap (is_block n) has ∙ eq-eqb n n refl) in
            let all = counted in
            let same : is.block.uses ≡ was_open.block.uses = ap (λ (b : Ocb). b.uses) (same_Some _ _ (sym is.there ∙ was_open.there)) in
            omega (arith, freed, its, some, all, same, few)

  pub effect_moved : (done : Effect) → HasEffect part.resources context done seen → Moved part.resources number (after_effect done mid) r
  effect_moved effect.Keeps is = same_moved part named h number process is_process process_lives process_sound.served mid (effect_resettled process process_sound.served thread change effect.Keeps) r (waiters (same_stay part.resources r (kept_rows is))) (kept_rows is) refl
    where
      kept_rows : AllByRecursion (IsMadeThere context) seen → (m : ℕ) → holding (row_at r.inodes.blocks m) ≡ holding (row_at blocks m)
      kept_rows made m = rows m ∙ made_seen context seen made m (holding (row_at blocks m))
  effect_moved (effect.Opens coid n) (inl is) = opens_new coid n is
  effect_moved (effect.Opens coid n) (inr is) = opens_more coid n is
  effect_moved (effect.Closes coid) is = elim is.how [ inl less ↦ closes_less coid is less | inr gone ↦ closes_last coid is gone.0 gone.1 gone.2 ]
