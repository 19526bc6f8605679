-- The client of each open control block is a server connection that is there, whatever steps are taken.
use Rattle.std.proofs.Common.{◌≡◌, ◌≢◌, inl, inr, ℕ, zero, suc, ◌==◌, Bool, true, false, List, [], ◌∷◌, length, refl, sym, ap, ◌∙◌, subst, arith}
use Rattle.std.specs.Prelude.{◌&&◌, ◌||◌, not, Option, Some, None, Result, Ok, Err, filter, if◌then◌else◌, is_some, option_map, slice_set, unwrap_or}
use Rattle.std.specs.List.{AllByRecursion, list_any}
use Rattle.std.proofs.lemmas.Bool.{and_parts, cases_eq, cond_both, eq-eqb, eqb-true, ne_eqb}
use Rattle.std.proofs.lemmas.Option.{same_Some}
use Rattle.qx_types.specs.Configuration.{Configuration, limits_of, name_bytes}
use Rattle.qx_types.specs.UserLimits.{UserLimits}
use Rattle.qx_types.specs.Managers.{manager_number}
use Rattle.qx_base.specs.declared.errno.Errno.{Errno}
use Rattle.qx_base.specs.declared.errno.Errno.TheVariants.{EBADF, EINTR}
use Rattle.qx_types.specs.declared.names.Coid.{Coid}
use Rattle.qx_types.specs.declared.names.Manager.{Manager}
use Rattle.qx_types.specs.declared.names.Thread.{Thread}
use Rattle.qx_types.specs.declared.outcome.Answer.TheVariants as answer
use Rattle.qx_types.specs.declared.outcome.Outcome.TheVariants.{WrongState}
use Rattle.qx_types.specs.declared.request.Request.{Request}
use Rattle.qx_types.specs.declared.step.Step.{Step}
use Rattle.qx_types.specs.declared.step.Step.TheVariants.{Spawn, Exit, Call, TakeReply, TakePulse, SetPrio, Interrupt, Mount}
use Rattle.qx_types.proofs.Managers.{number_below, same_manager}
use Rattle.qx_wire.specs.Reading.{meaning}
use Rattle.qx_paths.specs.Prefixes.{MountPoint}
use Rattle.qx_machine.specs.declared.rows.Addressed.{Addressed}
use Rattle.qx_machine.specs.declared.rows.Caller.{Caller}
use Rattle.qx_machine.specs.declared.rows.Client.{Client}
use Rattle.qx_machine.specs.declared.rows.Connection.{Connection}
use Rattle.qx_machine.specs.declared.rows.Context.{Context}
use Rattle.qx_machine.specs.declared.rows.Effect.{Effect}
use Rattle.qx_machine.specs.declared.rows.Effect.TheVariants as effect
use Rattle.qx_machine.specs.declared.rows.Ocb.{Ocb}
use Rattle.qx_machine.specs.declared.rows.Opened.{Opened}
use Rattle.qx_isolation.specs.declared.rows.OwnItem.{OwnItem}
use Rattle.qx_isolation.specs.declared.rows.OwnItem.TheVariants as item
use Rattle.qx_machine.specs.declared.rows.Pulse.{Pulse}
use Rattle.qx_machine.specs.declared.rows.Sent.{Sent}
use Rattle.qx_isolation.specs.declared.rows.ServerName.{ServerName}
use Rattle.qx_machine.specs.declared.rows.State.{State}
use Rattle.qx_machine.specs.declared.rows.State.TheVariants as state
use Rattle.qx_machine.specs.declared.rows.Target.{Target}
use Rattle.qx_machine.specs.declared.rows.ThreadRow.{ThreadRow}
use Rattle.qx_machine.specs.Calls.{address, bytes_of, content_of, is_ready, may_call}
use Rattle.qx_machine.specs.Clients.{ClientStep, answer_in, call, client_given, interrupt_in, may_give, mount_by, pulse_taken, set_prio, spawn, spawn_number, take_reply, target_by, without_process}
use Rattle.qx_machine.specs.Defaults.{is_own}
use Rattle.qx_machine.specs.Events.{first_pulse}
use Rattle.qx_machine.specs.Functions.{Deed, Reply, new_coid}
use Rattle.qx_machine.specs.Inodes.{blocks_of_client, is_clients, is_same_client}
use Rattle.qx_isolation.specs.Judgements.{found, need}
use Rattle.qx_isolation.specs.Lines.{line_at}
use Rattle.qx_machine.specs.Managers.{close_client, own_kind}
use Rattle.qx_machine.specs.Mounting.{with_mount}
use Rattle.qx_machine.specs.Parts.{Part, thread_at, thread_of, with_process}
use Rattle.qx_machine.specs.Performing.{Served, after_answer, after_serving, caller_of, client_at, context_of, dup_of, opened_by, serve_disconnect, serve_message, serve_pulse, taken_in, with_answers, works_over}
use Rattle.qx_machine.specs.PipeManager.{cancel_call}
use Rattle.qx_machine.specs.Processes.{Process, after_error, answered_thread, asked_state, asked_thread, ended, has_ended, has_server, living, ranked_thread, ready_thread, served_state, served_thread, servers_at, taken_state, taken_thread, with_queued, with_thread, without_server}
use Rattle.qx_machine.specs.Resources.{Resources}
use Rattle.qx_isolation.specs.Rows.{row_at, with_row}
use Rattle.qx_machine.specs.Servers.{Servers, in_use, is_left, is_numbered, without_left}
use Rattle.qx_machine.specs.Settling.{has_waiting, is_held, processes_left, row_left, stays}
use Rattle.qx_machine.specs.Users.{boot_part, client, serve, settle_part, take}
use Rattle.qx_machine.proofs.Gives.{Gives, found-row, gives_by, gives_done, gives_error, gives_more, gives_on, gives-value, need-true}
use Rattle.qx_machine.specs.Waiting.{Pipes}
use Rattle.qx_isolation.proofs.Places.{row_at-set_other}
use Rattle.qx_attr.specs.inner.Counts.{one}
use Rattle.qx_attr.proofs.CountLemmas.{within_table}
use Rattle.qx_process.proofs.ServerLemmas.{line_at-here, line_at-other}
use Rattle.qx_invariants.specs.Changes.{Comes, MayHappen, Mounts, ResourceChange}
use Rattle.qx_invariants.specs.Holds.{HasClients, IsServer}
use Rattle.qx_invariants.proofs.Deeds.{Kept, cancel-gives, close_all-closed}
use Rattle.qx_invariants.proofs.Lasting.{AreFor, AreGone, AreOfManager, AreSound, IsFitted, Lasting, Lasts, all_gone, closing_fitted, found_in, lasting-keeps, lasting_first}
use Rattle.qx_invariants.proofs.Made.{client_blocks}
use Rattle.qx_invariants.proofs.Managed.{HoldsKinds, IsMounted, boot_kinds, kinds-less, mount_kinds, same-less}
use Rattle.qx_invariants.proofs.Once.{Stands, left-at, may_call-ready, settle_stands, spawn_free, stands_boot, stands_kept, take_stands, taken_is}
use Rattle.qx_invariants.proofs.Rows.{the-some, with_row-at, with_row-other, with_row-was}
use Rattle.qx_invariants.proofs.Sending.{IsAddressed, Quietens, addressed-gives, mounted_sends, quiet_sends, target_in, target_of, target_of_row, unopened_at}
use Rattle.qx_invariants.proofs.Served.{IsServed, KeepsServers, any_there, connection_served, freed_served, in_use_there, or-true, serves}
use Rattle.qx_invariants.proofs.Sound.{AllSound, Continues, FitsEffect, IsSound, answers_continue, continues_then, continues_with, ended_sound, error_sound, queued_sound, reply_sound, server_stays, spawn_continues, thread_continues, thread_sound}
use Rattle.qx_invariants.proofs.Steps.{answers-resources, deed_kept, kept-keeps, mount_by-gives, unchanged-keeps, IsKept}
use Rattle.qx_invariants.proofs.Together.{none_there}
use Rattle.qx_invariants.proofs.Told.{HasEffect, IsMadeThere, SeenWith, nothing, telling}

-- how a user's processes and what is open stand together
pub record Clientele (part : Part) : Type 0 where
  pub kinds : HoldsKinds part.resources
  pub sound : AllSound part.resources.mounts part.processes
  pub has : HasClients part

-- ---- what is made, and opened, by a message

-- a message is served with this, of a client that has a server connection where it makes a new one
module _ (first : Resources) (C : Client → Type 0) (context : Context) (kinds : HoldsKinds first) (rooted : (root : ℕ) → context.target.root ≡ Some root → IsMounted first.mounts context.target.manager root) (client_is : context.client.server.manager ≡ context.target.manager) (served : (coid : Coid) → new_coid context.target.over ≡ Some coid → C context.client) where
  made_fitted : (seen : List ResourceChange) → AllByRecursion (IsMadeThere context) seen → AllByRecursion (IsFitted first C) seen
  made_fitted [] all = tt
  made_fitted (Comes inode directory name which mode moment ∷ seen) all =
      let at = rooted directory.0 all.0.0 in (
        (λ number mount there same. ap (λ manager. is_own (own_kind manager) which) (kinds.apart number at.number mount at.mount there at.there (same ∙ sym at.root_is) ∙ at.manager_is) ∙ all.0.1, tt),
        made_fitted seen all.1,
      )
  made_fitted (_ ∷ seen) all = absurd all.0

  effect_fitted : (r : Resources) (given : Effect) (seen : List ResourceChange) → HasEffect r context given seen → AllByRecursion (IsFitted first C) seen
  effect_fitted r effect.Keeps seen is = made_fitted seen is
  effect_fitted r (effect.Opens coid number) seen (inl is) =
      subst (AllByRecursion (IsFitted first C)) (sym is.last) (
        (
          subst (λ manager. IsMounted first.mounts manager is.at.0) (sym (ap (λ (c : Client). c.server.manager) is.client ∙ client_is)) (rooted is.at.0 is.root),
          subst C (sym is.client) (served coid is.over),
        ),
        made_fitted is.before is.made,
      )
  effect_fitted r (effect.Opens coid number) seen (inr is) = subst (AllByRecursion (IsFitted first C)) (sym is.alone) ((tt, tt), tt)
  effect_fitted r (effect.Closes coid) seen is = elim is.how [
    | inl less ↦ subst (AllByRecursion (IsFitted first C)) (sym less) ((tt, tt), tt)
    | inr gone ↦ subst (AllByRecursion (IsFitted first C)) (sym gone.2) ((tt, tt), tt)
  ]

  pub seen_fitted : (r : Resources) (reply : Option Reply) (seen : List ResourceChange) → SeenWith r context reply seen → AllByRecursion (IsFitted first C) seen
  seen_fitted r None seen is = subst (AllByRecursion (IsFitted first C)) (sym is) tt
  seen_fitted r (Some reply) seen is = effect_fitted r reply.effect seen is

-- ---- a message

-- what a message's connection has open, it has
pub record IsOver (process : Process) (target : Target) (over : Opened) : Type 0 where
  pub connection : Connection
  pub there : row_at process.connections over.coid.0 ≡ Some connection
  pub block : connection.block ≡ Some over.number
  pub manager : is_numbered (manager_number target.manager) connection.manager ≡ true

pub opened_by-over : (process : Process) (caller : Caller) (target : Target) (moment : ℕ) (old : Option Coid) (over : Opened) → opened_by process caller target moment old ≡ Ok over → IsOver process target over
opened_by-over process caller target moment old over is =
    gives-value (IsOver process target) _ over is
    (gives_on _ (works_over target.over old) _ (λ coid is_coid.
    gives_on _ (found (row_at process.connections coid.0) EBADF) _ (λ connection there.
    gives_on _ (need (is_numbered (manager_number target.manager) connection.manager) EBADF) _ (λ here is_here.
    gives_on _ (found connection.block EBADF) _ (λ number has_block.
    gives_done _ _ (record { connection = connection; there = found-row _ _ connection there; block = found-row _ _ number has_block; manager = need-true _ _ here is_here }))))))

-- the server connection that is in use where a connection is
pub client_there : (processes : List (Option Process)) (number : ℕ) (process : Process) → row_at processes number ≡ Some process → IsServed process → (coid : ℕ) (connection : Connection) → row_at process.connections coid ≡ Some connection → IsServer processes (client_at number connection.manager process)
client_there processes number process there served coid connection is =
    let used = the-some (in_use (servers_at connection.manager process)) (connection_served process coid connection served is) in
    record { process = process; there = there; server = ap (λ n. is_some (row_at (servers_at connection.manager process) (unwrap_or n 0))) used.1 ∙ (in_use_there (servers_at connection.manager process) used.0 used.1).1 }

-- processes go on, and the resources are such as last
answered_clientele : (part now : Part) (r : Resources) → now.resources ≡ r → Lasts part.resources (IsServer part.processes) r → Continues part.resources.mounts part.processes now.processes → Clientele now
answered_clientele part now r is lasts all = record {
  kinds = subst HoldsKinds (sym is) lasts.kinds;
  sound = subst (λ (s : Resources). AllSound s.mounts now.processes) (sym is) (subst (λ mounts. AllSound mounts now.processes) (sym lasts.mounts) all.sound);
  has = record { clients = subst (λ (s : Resources). AreFor (IsServer now.processes) s) (sym is) (λ n block there. server_stays part.processes now.processes all.stay block.client (lasts.clients n block there)) };
}

-- a message that is served
served_quietens : Quietens served_thread
served_quietens row target is = by row.state is
  where
    by : (s : State) → target_in (served_state s) ≡ Some target → target_in s ≡ Some target
    by (state.Taken sent) there = absurd (cc)
    by (state.Queued sent) there = there
    by state.Ready there = there
    by (state.Waiting sent) there = there
    by (state.Answered given) there = there

-- a message of a thread was received
module _ (part : Part) (stands : Stands part) (h : Clientele part) (number thread : ℕ) (process : Process) (is_process : row_at part.processes number ≡ Some process) (row : ThreadRow) (is_row : row_at process.threads thread ≡ Some row) (sent : Sent) (is_sent : taken_in row.state ≡ Some sent) (moment : ℕ) where
  abbrev caller : Caller
  caller = caller_of number thread row sent

  abbrev context : Context
  context = context_of process caller sent.target moment (meaning sent.bytes)

  abbrev C : Client → Type 0
  C = IsServer part.processes

  its_sound : IsSound part.resources.mounts process
  its_sound = h.sound number process is_process

  its_target : target_of thread process ≡ Some sent.target
  its_target = ap (λ place. target_of_row place) is_row ∙ ap target_in (taken_is row.state sent is_sent)

  served : (coid : Coid) → new_coid sent.target.over ≡ Some coid → C context.client
  served coid over = client_there part.processes number process is_process its_sound.served coid.0 (unopened_at sent.target) (its_sound.sends.connected thread sent.target its_target coid over)

  rooted : (root : ℕ) → sent.target.root ≡ Some root → IsMounted part.resources.mounts sent.target.manager root
  rooted = its_sound.sends.rooted thread sent.target its_target

  start : Lasting part.resources C part.resources nothing
  start = lasting_first part.resources C stands.holds h.kinds h.has.clients

  -- what a reply makes of its process
  fits_reply : (given : Effect) (seen : List ResourceChange) → HasEffect part.resources context given seen → FitsEffect part.resources.mounts process sent.target given
  fits_reply effect.Keeps seen is = tt
  fits_reply (effect.Opens coid n) seen (inl is) = is.over
  fits_reply (effect.Opens coid n) seen (inr is) = is.over
  fits_reply (effect.Closes coid) seen is =
      let over = opened_by-over process caller sent.target moment (dup_of (meaning sent.bytes)) is.opened is.was in
      (over.connection, is.opened.number, ap (λ (c : Coid). row_at process.connections c.0) (sym is.coid_is) ∙ over.there, over.block)

  serving_sound : (reply : Option Reply) (seen : List ResourceChange) → SeenWith part.resources context reply seen → KeepsServers process (after_serving thread sent.target.over reply process) × IsSound part.resources.mounts (after_serving thread sent.target.over reply process)
  serving_sound None seen is = (λ manager server has. has, thread_sound part.resources.mounts process thread served_thread served_quietens its_sound)
  serving_sound (Some reply) seen is =
      reply_sound part.resources.mounts process its_sound thread sent.target its_target (answered_thread (answer.Reply reply.status reply.bytes)) (λ r. refl) sent.target.over reply.effect (fits_reply reply.effect seen is)

  processes_continue : (f : Process → Process) → KeepsServers process (f process) × IsSound part.resources.mounts (f process) → Continues part.resources.mounts part.processes (with_row part.processes number f)
  processes_continue f is = continues_with part.resources.mounts part.processes h.sound number f (λ other there. subst (λ p. KeepsServers p (f p) × IsSound part.resources.mounts (f p)) (same_Some _ _ (sym is_process ∙ there)) is)

  pub served_clientele : (given : Result (Deed Resources) Errno) → Gives (Kept (Lasting part.resources C) (lasting-keeps part.resources C) part.resources context) given → Clientele (after_answer part number thread sent.target.over given)
  served_clientele (Ok deed) kept =
      let k = gives-value (Kept (Lasting part.resources C) (lasting-keeps part.resources C) part.resources context) (Ok deed) deed refl kept in
      let fitted = seen_fitted part.resources C context h.kinds rooted refl served part.resources deed.reply k.seen k.effect in
      let lasts = k.kept.lasts refl fitted in
      let mid : Part = with_process number (after_serving thread sent.target.over deed.reply) (record part { resources = deed.state }) in
      let first = processes_continue (after_serving thread sent.target.over deed.reply) (serving_sound deed.reply k.seen k.effect) in
      let all = continues_then part.resources.mounts part.processes mid.processes (with_answers deed.answers mid).processes first (answers_continue part.resources.mounts deed.answers mid first.sound) in
      answered_clientele part (with_answers deed.answers mid) deed.state (answers-resources deed.answers mid) lasts all
  served_clientele (Err error) kept =
      let f : Process → Process = λ p. after_error thread sent.target.over (with_thread thread (answered_thread (answer.Failed error)) p) in
      let all = processes_continue f (error_sound part.resources.mounts process its_sound thread sent.target its_target (answered_thread (answer.Failed error)) (λ r. refl) sent.target.over refl) in
      record { kinds = h.kinds; sound = all.sound; has = record { clients = λ n block there. server_stays part.processes (with_row part.processes number f) all.stay block.client (h.has.clients n block there) } }

-- ---- what a worker does

message_clientele : (part : Part) → Stands part → Clientele part → (prio number thread moment : ℕ) → Gives (λ (served : Served). Clientele served.part) (serve_message prio part number thread moment)
message_clientele part stands h prio number thread moment =
    gives_on _ (found (row_at part.processes number) WrongState) _ (λ process is_process.
    gives_on _ (found (row_at process.threads thread) WrongState) _ (λ row is_row.
    gives_on _ (found (taken_in row.state) WrongState) _ (λ sent is_sent.
    let C : Client → Type 0 = IsServer part.processes in
    gives_done _ _ (served_clientele part stands h number thread process (found-row _ _ process is_process) row (found-row _ _ row is_row) sent (found-row _ _ sent is_sent) moment _
    (deed_kept (Lasting part.resources C) (lasting-keeps part.resources C) part.resources (lasting_first part.resources C stands.holds h.kinds h.has.clients) process (caller_of number thread row sent) sent.target moment sent.bytes)))))

pulse_clientele : (part : Part) → Stands part → Clientele part → (process thread number moment : ℕ) → Gives (λ (served : Served). Clientele served.part) (serve_pulse part process thread number moment)
pulse_clientele part stands h process thread number moment =
    let C : Client → Type 0 = IsServer part.processes in
    gives_by (λ (deed : Deed Resources). Lasting part.resources C deed.state (telling deed.answers [])) _ (cancel_call part.resources process thread number moment) _
    (cancel-gives (Lasting part.resources C) (lasting-keeps part.resources C) part.resources (lasting_first part.resources C stands.holds h.kinds h.has.clients) process thread number moment) (λ deed kept.
    let mid : Part = record part { resources = deed.state } in
    gives_done _ _ (answered_clientele part (with_answers deed.answers mid) deed.state (answers-resources deed.answers mid) (kept.lasts refl tt) (answers_continue part.resources.mounts deed.answers mid h.sound)))

-- ---- a client is gone

-- what is freed of a process is that one server connection
without_serves : (process : Process) → IsServed process → (server : ServerName) (manager : Manager) (number : ℕ) → ((manager_number manager == manager_number server.manager) ≡ true → number ≢ server.number) → serves process manager number ≡ true → serves (without_server server process) manager number ≡ true
without_serves process h server manager number apart there = elim (cases_eq (manager_number manager) (manager_number server.manager)) [
  | inl same ↦
      let within = number_below server.manager in
      let long = h.count in
      let at = line_at-here process.servers (manager_number server.manager) (without_left server.number) (omega (arith, within, long)) in
      ap (λ n. is_some (row_at (line_at (without_server server process).servers n) number)) same ∙ (ap (λ servers. is_some (row_at servers number)) at
      ∙ (kept (line_at process.servers (manager_number server.manager)) (apart (eq-eqb (manager_number manager) (manager_number server.manager) same)) ∙ (ap (λ n. is_some (row_at (line_at process.servers n) number)) (sym same) ∙ there)))
  | inr differs ↦ ap (λ servers. is_some (row_at servers number)) (line_at-other process.servers (manager_number server.manager) (manager_number manager) (without_left server.number) differs) ∙ there
]
  where
    kept : (servers : Servers) → number ≢ server.number → is_some (row_at (without_left server.number servers) number) ≡ is_some (row_at servers number)
    kept servers differs = cond_both (is_left (row_at servers server.number)) (slice_set servers server.number None) servers (λ now. is_some (row_at now number) ≡ is_some (row_at servers number))
        (λ left. ap is_some (row_at-set_other servers server.number number None differs)) (λ used. refl)

-- ---- which client

pub record IsSameClient (one other : Client) : Type 0 where
  pub process : one.process ≡ other.process
  pub manager : one.server.manager ≡ other.server.manager
  pub number : one.server.number ≡ other.server.number

pub same_client : (one other : Client) → is_same_client one other ≡ true → IsSameClient one other
same_client one other is =
    let parts = and_parts ((one.process == other.process) && (manager_number one.server.manager == manager_number other.server.manager)) (one.server.number == other.server.number) is in
    let first = and_parts (one.process == other.process) (manager_number one.server.manager == manager_number other.server.manager) parts.0 in
    record {
      process = eqb-true one.process other.process first.0;
      manager = same_manager one.server.manager other.server.manager (eqb-true (manager_number one.server.manager) (manager_number other.server.manager) first.1);
      number = eqb-true one.server.number other.server.number parts.1;
    }

-- of the same process at the same manager another one has another number
pub other_client : (one other : Client) → is_same_client one other ≡ false → one.process ≡ other.process → (manager_number one.server.manager == manager_number other.server.manager) ≡ true → one.server.number ≢ other.server.number
other_client one other differs process manager number =
    let same : is_same_client one other ≡ true = λ i. ((eq-eqb one.process other.process process i && manager i) && eq-eqb one.server.number other.server.number number i) in
    let clash : true ≡ false = sym same ∙ differs in
    cc

module _ (test : ℕ → Bool) (P : ℕ → Type 0) (holds : (number : ℕ) → test number ≡ true → P number) where
  all_filtered : (numbers : List ℕ) → AllByRecursion P (filter test numbers)
  all_filtered [] = tt
  all_filtered (number ∷ numbers) = by (test number) refl (all_filtered numbers)
    where
      by : (b : Bool) → test number ≡ b → AllByRecursion P (filter test numbers) → AllByRecursion P (if b then number ∷ filter test numbers else filter test numbers)
      by true is rest = (holds number is, rest)
      by false is rest = rest

-- once a client is gone, nothing that is open is its
module _ (r : Resources) (sound : AreSound r) (client : Client) (moment : ℕ) where
  of_manager : AreOfManager client.server.manager r (blocks_of_client r.inodes client)
  of_manager = all_filtered (λ number. is_clients client (row_at r.inodes.blocks number)) _ (λ number is block there.
      let same = same_client block.client client (ap (is_clients client) (sym there) ∙ is) in
      ap own_kind same.manager) r.inodes.made

  pub its_gone : AreGone r (close_client r client moment).state (blocks_of_client r.inodes client)
  its_gone = all_gone client.server.manager moment (blocks_of_client r.inodes client) r sound of_manager

  pub others_left : (number : ℕ) (block : Ocb) → row_at (close_client r client moment).state.inodes.blocks number ≡ Some block → is_same_client block.client client ≡ false
  others_left number block there = by (is_same_client block.client client) refl
    where
      was : row_at r.inodes.blocks number ≡ Some block
      was = its_gone.left number block there

      by : (b : Bool) → is_same_client block.client client ≡ b → b ≡ false
      by false is = refl
      by true is =
          let count = client_blocks r sound.holds.made client number in
          let one_is : one (is_clients client (row_at r.inodes.blocks number)) ≡ 1 = ap (λ row. one (is_clients client row)) was ∙ ap one is in
          let none = found_in (λ n. row_at (close_client r client moment).state.inodes.blocks n ≡ None) (blocks_of_client r.inodes client) number its_gone.gone (omega (arith, count, one_is)) in
          let clash : None ≡ Some block = sym none ∙ there in
          absurd (cc)

-- one process changes, and is sound then
sound_with : (mounts : List MountPoint) (processes : List (Option Process)) → AllSound mounts processes → (number : ℕ) (f : Process → Process) → ((process : Process) → IsSound mounts process → IsSound mounts (f process)) → AllSound mounts (with_row processes number f)
sound_with mounts processes sound number f changes = λ n after there. let was = with_row-was processes number f n after there in elim was.2 [
  | inl stays ↦ subst (IsSound mounts) stays.1 (sound n was.0 was.1)
  | inr is ↦ subst (IsSound mounts) is.1 (changes was.0 (sound n was.0 was.1))
]

freed_sound : (mounts : List MountPoint) (server : ServerName) (process : Process) → IsSound mounts process → IsSound mounts (without_server server process)
freed_sound mounts server process h = record {
  served = freed_served process server h.served;
  sends = quiet_sends mounts process (without_server server process) (record { was = λ t target is. is; same = λ t target is coid over. refl }) h.sends;
  room = h.room;
  numbered = h.numbered;
}

-- other server connections are there still
freed_server : (mounts : List MountPoint) (processes : List (Option Process)) → AllSound mounts processes → (client other : Client) → is_same_client other client ≡ false → IsServer processes other → IsServer (with_row processes client.process (without_server client.server)) other
freed_server mounts processes sound client other differs is = elim (cases_eq other.process client.process) [
  | inl same ↦ record {
    process = without_server client.server is.process;
    there = ap (row_at (with_row processes client.process (without_server client.server))) same ∙ (with_row-at processes client.process (without_server client.server) ∙ ap (option_map (without_server client.server)) (ap (row_at processes) (sym same) ∙ is.there));
    server = without_serves is.process (sound other.process is.process is.there).served client.server other.server.manager other.server.number (other_client other client differs same) is.server;
  }
  | inr apart ↦ record { process = is.process; there = with_row-other processes client.process (without_server client.server) other.process apart ∙ is.there; server = is.server }
]

module _ (part : Part) (stands : Stands part) (h : Clientele part) (client : Client) (moment : ℕ) where
  abbrev deed : Deed Resources
  deed = close_client part.resources client moment

  abbrev freed : List (Option Process)
  freed = with_row part.processes client.process (without_server client.server)

  abbrev mid : Part
  mid = record { processes = freed; resources = deed.state }

  closed_lasts : Lasts part.resources (IsServer part.processes) deed.state
  closed_lasts =
      let C : Client → Type 0 = IsServer part.processes in
      let closed = close_all-closed (Lasting part.resources C) (lasting-keeps part.resources C) client.server.manager moment (blocks_of_client part.resources.inodes client) [] [] part.resources (lasting_first part.resources C stands.holds h.kinds h.has.clients) in
      closed.kept.lasts refl (closing_fitted part.resources C closed.then (closed.only tt))

  -- nothing that is open then is its client's
  freed_clients : AreFor (IsServer freed) deed.state
  freed_clients number block there =
      freed_server part.resources.mounts part.processes h.sound client block.client (others_left part.resources (record { holds = stands.holds; kinds = h.kinds }) client moment number block there) (closed_lasts.clients number block there)

  pub disconnected : Clientele (with_answers deed.answers mid)
  disconnected =
      let sound = sound_with part.resources.mounts part.processes h.sound client.process (without_server client.server) (freed_sound part.resources.mounts client.server) in
      let all = answers_continue part.resources.mounts deed.answers mid sound in
      let now : Part = with_answers deed.answers mid in
      let is = answers-resources deed.answers mid in
      record {
        kinds = subst HoldsKinds (sym is) closed_lasts.kinds;
        sound = subst (λ (s : Resources). AllSound s.mounts now.processes) (sym is) (subst (λ mounts. AllSound mounts now.processes) (sym closed_lasts.mounts) all.sound);
        has = record { clients = subst (λ (s : Resources). AreFor (IsServer now.processes) s) (sym is) (λ n block there. server_stays freed now.processes all.stay block.client (freed_clients n block there)) };
      }

disconnect_clientele : (part : Part) → Stands part → Clientele part → (client : Client) (moment : ℕ) → Gives (λ (served : Served). Clientele served.part) (serve_disconnect part client moment)
disconnect_clientele part stands h client moment = gives_on _ (found (row_at part.processes client.process) WrongState) _ (λ process is_process. gives_done _ _ (disconnected part stands h client moment))

pub serve_clientele : (config : Configuration) (user : ℕ) (held : List OwnItem) (part : Part) (own : OwnItem) (moment : ℕ) → Stands part → Clientele part → Clientele (serve config user held part own moment).part
unfolding serve
serve_clientele config user held part (item.Message process thread) moment stands h = kept-keeps Clientele part h _ (message_clientele part stands h (limits_of config user).disconnect process thread moment)
serve_clientele config user held part (item.Unblock process thread number) moment stands h = kept-keeps Clientele part h _ (pulse_clientele part stands h process thread number moment)
serve_clientele config user held part (item.Disconnect process server) moment stands h = kept-keeps Clientele part h _ (disconnect_clientele part stands h (record { process = process; server = server }) moment)

-- ---- an item is taken

-- its resources are the same, and its processes go on
same_clientele : (part : Part) → Clientele part → (processes : List (Option Process)) → Continues part.resources.mounts part.processes processes → Clientele (record part { processes = processes })
same_clientele part h processes all = record { kinds = h.kinds; sound = all.sound; has = record { clients = λ n block there. server_stays part.processes processes all.stay block.client (h.has.clients n block there) } }

-- one of its threads changes
thread_clientele : (part : Part) → Clientele part → (number thread : ℕ) (change : ThreadRow → ThreadRow) → Quietens change → Clientele (with_process number (with_thread thread change) part)
thread_clientele part h number thread change quietens = same_clientele part h _ (thread_continues part.resources.mounts part.processes h.sound number thread change quietens)

taken_quietens : Quietens taken_thread
taken_quietens row target is = by row.state is
  where
    by : (s : State) → target_in (taken_state s) ≡ Some target → target_in s ≡ Some target
    by (state.Queued sent) there = there
    by (state.Taken sent) there = there
    by (state.Waiting sent) there = there
    by state.Ready there = there
    by (state.Answered given) there = there

pub take_clientele : (part : Part) (own : OwnItem) → Clientele part → Clientele (take part own)
unfolding take
take_clientele part (item.Message process thread) h = thread_clientele part h process thread taken_thread taken_quietens
take_clientele part (item.Unblock process thread number) h = h
take_clientele part (item.Disconnect process server) h = h

-- ---- the end of a step

-- a process that has a server connection has one somewhere
pub any_server : (all : List Servers) (at number : ℕ) → is_some (row_at (line_at all at) number) ≡ true → list_any (list_any is_some) all ≡ true
any_server [] at number there = absurd (cc)
any_server (servers ∷ all) zero number there = ap (λ b. b || list_any (list_any is_some) all) (any_there is_some servers number refl there)
any_server (servers ∷ all) (suc at) number there = ap (λ b. list_any is_some servers || b) (any_server all at number there) ∙ or-true (list_any is_some servers)

-- so it stays
pub server_left : (held : List OwnItem) (pipes : Pipes) (number : ℕ) (process : Process) → has_server process ≡ true → row_left held pipes number (Some process) ≡ Some process
server_left held pipes number process has = ap (λ b. if b then Some process else None) (by (not (has_ended process)) (is_held held number) (has_waiting pipes number))
  where
    by : (a b c : Bool) → (a || ((has_server process || b) || c)) ≡ true
    by a b c = ap (λ d. a || ((d || b) || c)) has ∙ or-true a

-- what is left was there
pub left_was : (held : List OwnItem) (pipes : Pipes) (processes : List (Option Process)) (number : ℕ) (process : Process) → row_at (processes_left held pipes 0 processes) number ≡ Some process → row_at processes number ≡ Some process
left_was held pipes processes number process there = by (row_at processes number) (sym (left-at held pipes number processes) ∙ there)
  where
    by : (row : Option Process) → row_left held pipes number row ≡ Some process → row ≡ Some process
    by None left = left
    by (Some other) left = cond_both (stays held pipes number other) (Some other) None (λ kept. kept ≡ Some process → Some other ≡ Some process) (λ is same. same) (λ goes none. absurd (cc)) left

pub settle_clientele : (before : Part) (held : List OwnItem) (after : Part) → Clientele after → Clientele (settle_part before held after)
unfolding settle_part
settle_clientele before held after h = record {
  kinds = kinds-less after.resources _ (same-less after.resources _ refl refl refl) h.kinds;
  sound = λ number process there. h.sound number process (left_was held after.resources.pipes after.processes number process there);
  has = record { clients = λ n block there. remains block.client (h.has.clients n block there) };
}
  where
    remains : (own : Client) → IsServer after.processes own → IsServer (processes_left held after.resources.pipes 0 after.processes) own
    remains own is = record {
      process = is.process;
      there = left-at held after.resources.pipes own.process after.processes ∙ (ap (row_left held after.resources.pipes own.process) is.there
          ∙ server_left held after.resources.pipes own.process is.process (any_server is.process.servers (manager_number own.server.manager) own.server.number is.server));
      server = is.server;
    }

-- ---- what a client does

-- who has a thread has not ended
pub row_lives : (process : Process) (thread : ℕ) (row : ThreadRow) → row_at process.threads thread ≡ Some row → has_ended process ≡ false
row_lives process thread row there = let within = within_table process.threads thread row there in ne_eqb (length process.threads) 0 (λ none. omega (arith, within, none))

ready_idle : (s : State) → is_ready s ≡ true → target_in s ≡ None
ready_idle state.Ready is = refl
ready_idle _ is = absurd (cc)

-- a thread that is ready sends a message there
pub record CanSend (part : Part) (number thread : ℕ) (target : Target) : Type 0 where
  pub process : Process
  pub process_there : row_at part.processes number ≡ Some process
  pub row : ThreadRow
  pub row_there : row_at process.threads thread ≡ Some row
  pub ready : is_ready row.state ≡ true
  pub addressed : IsAddressed part.resources.mounts process target

pub target-sends : (config : Configuration) (user : ℕ) (part : Part) (thread : Thread) (asked : Request) → Gives (λ (addressed : Addressed). CanSend part thread.proc.num thread.tid addressed.target) (target_by config user part.resources.mounts part.processes thread asked)
target-sends config user part thread asked =
    gives_on _ (found (row_at part.processes thread.proc.num) WrongState) _ (λ process is_process.
    gives_on _ (found (row_at process.threads thread.tid) WrongState) _ (λ row is_row.
    gives_by (λ _. is_ready row.state ≡ true) _ (may_call row asked) _ (may_call-ready row asked) (λ may ready.
    gives_more (λ (addressed : Addressed). IsAddressed part.resources.mounts process addressed.target) (λ (addressed : Addressed). CanSend part thread.proc.num thread.tid addressed.target) _
    (λ addressed is. record { process = process; process_there = found-row _ _ process is_process; row = row; row_there = found-row _ _ row is_row; ready = ready; addressed = is })
    (addressed-gives config user part.resources.mounts part.processes process row.prio (address asked)))))

asked_quietens : Quietens asked_thread
asked_quietens row target is = by row.state is
  where
    by : (s : State) → target_in (asked_state s) ≡ Some target → target_in s ≡ Some target
    by (state.Queued sent) there = there
    by (state.Taken sent) there = there
    by (state.Waiting sent) there = there
    by state.Ready there = there
    by (state.Answered given) there = there

module _ (part : Part) (stands : Stands part) (h : Clientele part) where
  abbrev Gave : ClientStep → Type 0
  Gave given = Clientele given.part

  spawn_clientele : (limits : UserLimits) (threads prio : ℕ) → Gives Gave (spawn limits part threads prio)
  spawn_clientele limits threads prio =
      gives_by (λ number. row_at part.processes number ≡ None) _ (spawn_number limits part.processes threads prio) _ (spawn_free limits part threads prio) (λ number free.
      gives_done _ _ (same_clientele part h _ (spawn_continues part.resources.mounts part.processes h.sound number threads prio free)))

  call_clientele : (config : Configuration) (user : ℕ) (thread : Thread) (asked : Request) → Gives Gave (call config user part thread asked)
  call_clientele config user thread asked =
      gives_by (λ (addressed : Addressed). CanSend part thread.proc.num thread.tid addressed.target) _ (target_by config user part.resources.mounts part.processes thread asked) _ (target-sends config user part thread asked) (λ addressed can.
      let sent : Sent = record { target = addressed.target; is_asked = false; bytes = bytes_of (content_of asked addressed.rest addressed.to) } in
      let now = queued_sound part.resources.mounts can.process (h.sound thread.proc.num can.process can.process_there) (row_lives can.process thread.tid can.row can.row_there) thread.tid can.row can.row_there (ready_idle can.row.state can.ready) sent can.addressed in
      gives_done _ _ (same_clientele part h _ (continues_with part.resources.mounts part.processes h.sound thread.proc.num (with_queued thread.tid sent) (λ other there.
      subst (λ p. KeepsServers p (with_queued thread.tid sent p) × IsSound part.resources.mounts (with_queued thread.tid sent p)) (same_Some _ _ (sym can.process_there ∙ there)) now))))

  exit_clientele : (number : ℕ) → Clientele (with_process number ended (record part { resources = without_process number part.resources }))
  exit_clientele number =
      let all = continues_with part.resources.mounts part.processes h.sound number ended (λ process there. ended_sound part.resources.mounts process (h.sound number process there)) in
      record {
        kinds = kinds-less part.resources _ (same-less part.resources _ refl refl refl) h.kinds;
        sound = all.sound;
        has = record { clients = λ n block there. server_stays part.processes _ all.stay block.client (h.has.clients n block there) };
      }

  reply_clientele : (thread : Thread) → Gives Gave (take_reply part thread)
  reply_clientele thread =
      gives_on _ (found (thread_at part thread.proc.num thread.tid) WrongState) _ (λ row is.
      gives_on _ (found (answer_in row.state) WrongState) _ (λ given answered.
      gives_done _ _ (thread_clientele part h thread.proc.num thread.tid ready_thread (λ other target there. absurd (cc)))))

  prio_clientele : (ceiling : ℕ) (thread : Thread) (prio : ℕ) → Gives Gave (set_prio ceiling part thread prio)
  prio_clientele ceiling thread prio =
      gives_on _ (found (thread_at part thread.proc.num thread.tid) WrongState) _ (λ row is.
      gives_on _ (may_give ceiling prio) _ (λ allowed is_allowed.
      gives_done _ _ (thread_clientele part h thread.proc.num thread.tid (ranked_thread prio) (λ other target there. there))))

  asked_clientele : (thread : Thread) → Clientele (with_process thread.proc.num (with_thread thread.tid asked_thread) part)
  asked_clientele thread = thread_clientele part h thread.proc.num thread.tid asked_thread asked_quietens

  -- a thread's row, in its process
  pub thread_there : (number thread : ℕ) (row : ThreadRow) → thread_at part number thread ≡ Some row → (process : Process) × (row_at part.processes number ≡ Some process) × (row_at process.threads thread ≡ Some row)
  thread_there number thread row there = by (row_at part.processes number) refl there
    where
      by : (place : Option Process) → row_at part.processes number ≡ place → thread_of thread place ≡ Some row → (process : Process) × (row_at part.processes number ≡ Some process) × (row_at process.threads thread ≡ Some row)
      by None is none = absurd (cc)
      by (Some process) is has = (process, is, has)

  interrupt_clientele : (prio : ℕ) (thread : Thread) (number : ℕ) (row : ThreadRow) → thread_at part thread.proc.num thread.tid ≡ Some row → (doing : State) → row.state ≡ doing → Gave (interrupt_in prio part thread number doing)
  interrupt_clientele prio thread number row there (state.Queued sent) is =
      let its = thread_there thread.proc.num thread.tid row there in
      let target : target_of thread.tid its.0 ≡ Some sent.target = ap target_of_row its.2 ∙ ap target_in is in
      let f : Process → Process = λ p. after_error thread.tid sent.target.over (with_thread thread.tid (answered_thread (answer.Failed EINTR)) p) in
      let now = error_sound part.resources.mounts its.0 (h.sound thread.proc.num its.0 its.1) thread.tid sent.target target (answered_thread (answer.Failed EINTR)) (λ r. refl) sent.target.over refl in
      same_clientele part h _ (continues_with part.resources.mounts part.processes h.sound thread.proc.num f (λ other here. subst (λ p. KeepsServers p (f p) × IsSound part.resources.mounts (f p)) (same_Some _ _ (sym its.1 ∙ here)) now))
  interrupt_clientele prio thread number row there (state.Taken sent) is = cond_both sent.is_asked _ _ Gave (λ asked. h) (λ first. asked_clientele thread)
  interrupt_clientele prio thread number row there (state.Waiting sent) is = cond_both sent.is_asked _ _ Gave (λ asked. h) (λ first. asked_clientele thread)
  interrupt_clientele prio thread number row there _ is = h

  pulse_taken-clientele : (process : ℕ) (first : Option Pulse) → Gave (pulse_taken part process first)
  pulse_taken-clientele process None = h
  pulse_taken-clientele process (Some first) = record { kinds = kinds-less part.resources _ (same-less part.resources _ refl refl refl) h.kinds; sound = h.sound; has = record { clients = h.has.clients } }

  mounted_clientele : (mount : MountPoint) → MayHappen (Mounts mount) part.resources → Clientele (record part { resources = with_mount mount part.resources })
  mounted_clientele mount may = record {
    kinds = mount_kinds part.resources stands.holds h.kinds mount may;
    sound = λ number process there. let was = h.sound number process there in record { served = was.served; sends = mounted_sends part.resources.mounts _ process was.sends; room = was.room; numbered = was.numbered };
    has = record { clients = h.has.clients };
  }

  client_given-clientele : (config : Configuration) (user : ℕ) (held : List OwnItem) (e : Step) → Gives Gave (client_given config user held part e)
  client_given-clientele config user held (Spawn of_user threads prio) = spawn_clientele (limits_of config user) threads prio.0
  client_given-clientele config user held (Exit proc) = gives_on _ (found (living (row_at part.processes proc.num)) WrongState) _ (λ process is. gives_done _ _ (exit_clientele proc.num))
  client_given-clientele config user held (Call thread asked) = call_clientele config user thread asked
  client_given-clientele config user held (TakeReply thread) = reply_clientele thread
  client_given-clientele config user held (TakePulse proc) = gives_on _ (found (living (row_at part.processes proc.num)) WrongState) _ (λ process is. gives_done _ _ (pulse_taken-clientele proc.num (first_pulse proc.num part.resources.events)))
  client_given-clientele config user held (SetPrio thread prio) = prio_clientele (limits_of config user).ceiling thread prio.0
  client_given-clientele config user held (Interrupt thread) = gives_on _ (found (thread_at part thread.proc.num thread.tid) WrongState) _ (λ row is. gives_done _ _ (interrupt_clientele (limits_of config user).disconnect thread row.calls row (found-row _ _ row is) row.state refl))
  client_given-clientele config user held (Mount thread path manager) =
      gives_by (λ (mount : MountPoint). MayHappen (Mounts mount) part.resources) _ (mount_by config user part thread path manager) _ (mount_by-gives config user part thread path manager) (λ mount may. gives_done _ _ (mounted_clientele mount may))
  client_given-clientele config user held _ = gives_error _ _

  client_clientele : (config : Configuration) (user : ℕ) (held : List OwnItem) (e : Step) → Gave (client config user held part e)
  unfolding client
  client_clientele config user held e = unchanged-keeps Clientele part h _ (client_given-clientele config user held e)

-- ---- whatever steps are taken

-- how a user's part stands
pub record StandsWell (part : Part) : Type 0 where
  pub stands : Stands part
  pub clientele : Clientele part

pub take_well : (part : Part) (own : OwnItem) → StandsWell part → StandsWell (take part own)
take_well part own h = record { stands = take_stands part own h.stands; clientele = take_clientele part own h.clientele }

pub settle_well : (before : Part) (held : List OwnItem) (after : Part) → StandsWell after → StandsWell (settle_part before held after)
settle_well before held after h = record { stands = settle_stands before held after h.stands; clientele = settle_clientele before held after h.clientele }

pub well_kept : (config : Configuration) → IsKept config (λ user. StandsWell)
well_kept config = record {
  client_step = λ user held part e h. record { stands = (stands_kept config).client_step user held part e h.stands; clientele = client_clientele part h.stands h.clientele config user held e };
  taking = λ user. take_well;
  serving = λ user held part own moment h. record { stands = (stands_kept config).serving user held part own moment h.stands; clientele = serve_clientele config user held part own moment h.stands h.clientele };
  settling = λ user. settle_well;
}

pub well_boot : (config : Configuration) (user : ℕ) → StandsWell (boot_part config user)
unfolding boot_part
well_boot config user = record {
  stands = stands_boot config user;
  clientele = record {
    kinds = boot_kinds (limits_of config user) user (name_bytes config user);
    sound = λ number process there. let none : None ≡ Some process = sym (none_there number) ∙ there in absurd (cc);
    has = record { clients = λ number block there. let none : None ≡ Some block = sym (none_there number) ∙ there in absurd (cc) };
  };
}
