-- A client that is gone, an item that is taken and the end of a step: connections, open control blocks and disconnect pulses stand together still.
use Rattle.std.proofs.Common.{◌≡◌, ◌≢◌, inl, inr, ℕ, ◌+◌, ◌≤◌, Bool, true, false, List, [], get_or, refl, sym, ap, ◌∙◌, subst, arith}
use Rattle.std.specs.Prelude.{◌&&◌, not, Option, Some, None, Result, Ok, Err, if◌then◌else◌, option_map, position, slice_set}
use Rattle.std.specs.List.{count_by}
use Rattle.std.proofs.lemmas.Bool.{cases_eq, cond_both, eq-eqb}
use Rattle.std.proofs.lemmas.List.{length-set}
use Rattle.std.proofs.lemmas.List.Folds.{position_or_len-set}
use Rattle.std.proofs.lemmas.Option.{unwrap_or-slice_get}
use Rattle.qx_types.specs.Configuration.{Configuration, limits_of}
use Rattle.qx_types.specs.Managers.{manager_number}
use Rattle.qx_types.specs.declared.names.Manager.{Manager}
use Rattle.qx_types.specs.declared.outcome.Outcome.{Outcome}
use Rattle.qx_types.specs.declared.outcome.Outcome.TheVariants.{WrongState}
use Rattle.qx_types.proofs.Managers.{number_below}
use Rattle.qx_machine.specs.declared.rows.Client.{Client}
use Rattle.qx_machine.specs.declared.rows.Ocb.{Ocb}
use Rattle.qx_isolation.specs.declared.rows.OwnItem.{OwnItem}
use Rattle.qx_isolation.specs.declared.rows.OwnItem.TheVariants as item
use Rattle.qx_machine.specs.declared.rows.ServerConnection.{ServerConnection}
use Rattle.qx_isolation.specs.declared.rows.ServerName.{ServerName}
use Rattle.qx_machine.specs.Functions.{Deed}
use Rattle.qx_machine.specs.Inodes.{blocks_of_client, is_clients, is_same_client}
use Rattle.qx_isolation.specs.Judgements.{found}
use Rattle.qx_isolation.specs.Lines.{line_at}
use Rattle.qx_machine.specs.Managers.{close_client}
use Rattle.qx_machine.specs.Parts.{Part, with_process}
use Rattle.qx_machine.specs.Performing.{Served, answered_changes, or_kept, serve_disconnect, with_answers}
use Rattle.qx_machine.specs.Processes.{Process, has_ended, servers_at, taken_thread, with_thread, without_server}
use Rattle.qx_machine.specs.Resources.{Resources}
use Rattle.qx_isolation.specs.Rows.{row_at, with_row}
use Rattle.qx_machine.specs.Servers.{Servers, in_use, is_in_use, is_left, without_left}
use Rattle.qx_machine.specs.Settling.{processes_left, row_left}
use Rattle.qx_machine.specs.Users.{serve, settle_part, take}
use Rattle.qx_machine.specs.Waiting.{Pipes}
use Rattle.qx_machine.proofs.Gives.{Gives, gives_done, gives_on, gives-value}
use Rattle.qx_isolation.proofs.Places.{row_at-set_other}
use Rattle.qx_attr.specs.inner.Counts.{one}
use Rattle.qx_process.proofs.ServerLemmas.{line_at-here, line_at-other}
use Rattle.qx_invariants.specs.Holds.{HasOwnWaiters, IsOpenFor, has_open}
use Rattle.qx_invariants.proofs.Clients.{StandsWell, any_server, its_gone, left_was, other_client, same_client, server_left}
use Rattle.qx_invariants.proofs.Connected.{Connected, alike_connected, alike_with, fewer_connected, thread_alike, waiters_after}
use Rattle.qx_invariants.proofs.Deeds.{close_all-closed}
use Rattle.qx_invariants.proofs.Holdings.{Holdings, holdings-keep, holdings_first}
use Rattle.qx_invariants.proofs.Items.{is_pulse, puts}
use Rattle.qx_invariants.proofs.Lasting.{AreGone}
use Rattle.qx_invariants.proofs.Lost.{is_left_at, left_of, left_there, used_not_left}
use Rattle.qx_invariants.proofs.Made.{client_blocks}
use Rattle.qx_invariants.proofs.Once.{left-at}
use Rattle.qx_invariants.proofs.Replied.{ServedWith, answered_none, answers_connected, message_connected, unblock_connected}
use Rattle.qx_invariants.proofs.Rows.{with_row-at, with_row-other, with_row-was}
use Rattle.qx_invariants.proofs.Served.{IsServed, in_use_there}

-- ---- a server connection that was left goes

left_not_used : (row : Option ServerConnection) → is_left row ≡ true → is_in_use row ≡ false
left_not_used None left = absurd (cc)
left_not_used (Some server) left = ap not left

-- the one in use is the same
used_without : (servers : Servers) (number : ℕ) → in_use (without_left number servers) ≡ in_use servers
used_without servers number = by (is_left (row_at servers number)) refl
  where
    freed : is_in_use None ≡ is_in_use (get_or servers number None) → position is_in_use (slice_set servers number None) ≡ position is_in_use servers
    freed same = rw (position_or_len-set is_in_use servers number None None same, length-set servers number None) refl

    by : (b : Bool) → is_left (row_at servers number) ≡ b → in_use (if b then slice_set servers number None else servers) ≡ in_use servers
    by true left = freed (sym (ap is_in_use (sym (unwrap_or-slice_get servers number None)) ∙ left_not_used (row_at servers number) left))
    by false used = refl

-- another one stays as it was
without_other : (servers : Servers) (number m : ℕ) → m ≢ number → is_left (row_at (without_left number servers) m) ≡ is_left (row_at servers m)
without_other servers number m apart =
    cond_both (is_left (row_at servers number)) (slice_set servers number None) servers (λ now. is_left (row_at now m) ≡ is_left (row_at servers m)) (λ left. ap is_left (row_at-set_other servers number m None apart)) (λ used. refl)

module _ (process : Process) (served : IsServed process) where
  freed_here : (server : ServerName) (manager : Manager) → manager_number manager ≡ manager_number server.manager → servers_at manager (without_server server process) ≡ without_left server.number (servers_at manager process)
  freed_here server manager same =
      let within = number_below server.manager in
      let long = served.count in
      ap (line_at (without_server server process).servers) same ∙ (line_at-here process.servers (manager_number server.manager) (without_left server.number) (omega (arith, within, long)) ∙ ap (λ n. without_left server.number (line_at process.servers n)) (sym same))

  freed_other : (server : ServerName) (manager : Manager) → manager_number manager ≢ manager_number server.manager → servers_at manager (without_server server process) ≡ servers_at manager process
  freed_other server manager differs = line_at-other process.servers (manager_number server.manager) (manager_number manager) (without_left server.number) differs

  used_freed : (server : ServerName) (manager : Manager) → in_use (servers_at manager (without_server server process)) ≡ in_use (servers_at manager process)
  used_freed server manager = elim (cases_eq (manager_number manager) (manager_number server.manager)) [
    | inl same ↦ ap in_use (freed_here server manager same) ∙ used_without (servers_at manager process) server.number
    | inr differs ↦ ap in_use (freed_other server manager differs)
  ]

  left_freed : (client own : Client) → is_same_client client own ≡ false → client.process ≡ own.process → left_of own.server (Some (without_server client.server process)) ≡ left_of own.server (Some process)
  left_freed client own differs of_process = elim (cases_eq (manager_number own.server.manager) (manager_number client.server.manager)) [
    | inl same ↦
        let apart = other_client client own differs of_process (eq-eqb (manager_number client.server.manager) (manager_number own.server.manager) (sym same)) in
        ap (λ servers. is_left (row_at servers own.server.number)) (freed_here client.server own.server.manager same) ∙ without_other (servers_at own.server.manager process) client.server.number own.server.number (λ e. apart (sym e))
    | inr other ↦ ap (λ servers. is_left (row_at servers own.server.number)) (freed_other client.server own.server.manager other)
  ]

-- ---- a client is gone

one_true : (b : Bool) → 1 ≤ one b → b ≡ true
one_true true some = refl
one_true false some = absurd (omega (arith, some))

one_most : (b : Bool) → one b ≤ 1
one_most true = omega arith
one_most false = omega arith

module _ (part : Part) (named : Client → ℕ) (well : StandsWell part) (client : Client) (moment : ℕ) (h : Connected part (λ own. one (is_same_client client own) + named own)) where
  abbrev deed : Deed Resources
  deed = close_client part.resources client moment

  abbrev freed : List (Option Process)
  freed = with_row part.processes client.process (without_server client.server)

  abbrev blocks : List (Option Ocb)
  blocks = part.resources.inodes.blocks

  gone : AreGone part.resources deed.state (blocks_of_client part.resources.inodes client)
  gone = its_gone part.resources (record { holds = well.stands.holds; kinds = well.clientele.kinds }) client moment

  itself : is_same_client client client ≡ true
  itself = λ i. ((eq-eqb client.process client.process refl i && eq-eqb (manager_number client.server.manager) (manager_number client.server.manager) refl i) && eq-eqb client.server.number client.server.number refl i)

  -- its server connection was left
  its_left : is_left_at part.processes client ≡ true
  its_left = let few = h.pulses client in let its : one (is_same_client client client) ≡ 1 = ap one itself in one_true (is_left_at part.processes client) (omega (arith, few, its))

  left_same : (own : Client) → is_same_client client own ≡ false → is_left_at freed own ≡ is_left_at part.processes own
  left_same own differs = elim (cases_eq own.process client.process) [
    | inl same ↦
        ap (λ n. left_of own.server (row_at freed n)) same ∙ (ap (left_of own.server) (with_row-at part.processes client.process (without_server client.server))
        ∙ (by same (row_at part.processes client.process) refl ∙ ap (λ n. left_of own.server (row_at part.processes n)) (sym same)))
    | inr apart ↦ ap (left_of own.server) (with_row-other part.processes client.process (without_server client.server) own.process apart)
  ]
    where
      by : own.process ≡ client.process → (row : Option Process) → row_at part.processes client.process ≡ row → left_of own.server (option_map (without_server client.server) row) ≡ left_of own.server row
      by same None is = refl
      by same (Some process) is = left_freed process (well.clientele.sound client.process process is).served client own differs (sym same)

  -- no other pulse names it, and the others name what they named
  pulses_after : (own : Client) → named own ≤ one (is_left_at freed own)
  pulses_after own = by (is_same_client client own) refl
    where
      by : (b : Bool) → is_same_client client own ≡ b → named own ≤ one (is_left_at freed own)
      by true is = let few = h.pulses own in let its : one (is_same_client client own) ≡ 1 = ap one is in let most = one_most (is_left_at part.processes own) in omega (arith, few, its, most)
      by false is =
          let few = h.pulses own in
          let its : one (is_same_client client own) ≡ 0 = ap one is in
          let same : one (is_left_at freed own) ≡ one (is_left_at part.processes own) = ap one (left_same own is) in
          omega (arith, few, its, same)

  -- what a connection has open is another client's
  not_its : (number : ℕ) (process : Process) → row_at part.processes number ≡ Some process → (manager : Manager) (which : ℕ) (is : IsOpenFor blocks number process manager which) → is_same_client is.block.client client ≡ false
  not_its number process there manager which is = by (is_same_client is.block.client client) refl
    where
      by : (b : Bool) → is_same_client is.block.client client ≡ b → b ≡ false
      by false e = refl
      by true e =
          let same = same_client is.block.client client e in
          let used : in_use (servers_at client.server.manager process) ≡ Some client.server.number = ap (λ m. in_use (servers_at m process)) (sym same.manager ∙ is.manager_is) ∙ (is.used ∙ ap Some same.number) in
          let free = used_not_left (row_at (servers_at client.server.manager process) client.server.number) (in_use_there (servers_at client.server.manager process) client.server.number used).0 in
          let row : row_at part.processes client.process ≡ Some process = ap (row_at part.processes) (sym same.process ∙ is.process_is) ∙ there in
          sym its_left ∙ (ap (left_of client.server) row ∙ free)

  kept_there : (which : ℕ) (block : Ocb) → row_at blocks which ≡ Some block → is_same_client block.client client ≡ false → row_at deed.state.inodes.blocks which ≡ Some block
  kept_there which block at differs =
      gone.kept which (client_blocks part.resources well.stands.holds.made client which ∙ (ap (λ row. if is_clients client row then 1 else 0) at ∙ ap (λ b. if b then 1 else 0) differs)) ∙ at

  open_after : (number : ℕ) (process : Process) → row_at part.processes number ≡ Some process → (manager : Manager) (which : ℕ) → IsOpenFor blocks number process manager which → (now : Process) → in_use (servers_at manager now) ≡ in_use (servers_at manager process) → IsOpenFor deed.state.inodes.blocks number now manager which
  open_after number process there manager which is now same = record {
    block = is.block;
    there = kept_there which is.block is.there (not_its number process there manager which is);
    process_is = is.process_is;
    manager_is = is.manager_is;
    used = same ∙ is.used;
  }

  waiters_left : HasOwnWaiters deed.state
  waiters_left =
      let closed = close_all-closed (Holdings part.resources) (holdings-keep part.resources) client.server.manager moment (blocks_of_client part.resources.inodes client) [] [] part.resources (holdings_first part.resources well.stands.holds) in
      waiters_after part.resources deed.state [] h.waiters closed.kept.holds.waiters (closed.kept.held refl).few (λ which block at. inl (block, gone.left which block at, refl)) refl

  parted : Connected (record { processes = freed; resources = deed.state }) named
  parted = record {
    pulses = pulses_after;
    has = record {
      opened = λ number after there coid connection which at has. let was = with_row-was part.processes client.process (without_server client.server) number after there in elim was.2 [
        | inl stays ↦
            subst (λ (p : Process). IsOpenFor deed.state.inodes.blocks number p connection.manager which) stays.1
            (open_after number was.0 was.1 connection.manager which (h.has.opened number was.0 was.1 coid connection which (ap (λ (p : Process). row_at p.connections coid) stays.1 ∙ at) has) was.0 refl)
        | inr its ↦
            subst (λ (p : Process). IsOpenFor deed.state.inodes.blocks number p connection.manager which) its.1
            (open_after number was.0 was.1 connection.manager which (h.has.opened number was.0 was.1 coid connection which (ap (λ (p : Process). row_at p.connections coid) its.1 ∙ at) has) (without_server client.server was.0)
            (used_freed was.0 (well.clientele.sound number was.0 was.1).served client.server connection.manager))
      ];
      uses = λ which block at after there lives. let was = with_row-was part.processes client.process (without_server client.server) block.client.process after there in elim was.2 [
        | inl stays ↦ h.has.uses which block (gone.left which block at) was.0 was.1 (ap has_ended stays.1 ∙ lives) ∙ ap (λ (p : Process). count_by (has_open which) p.connections) stays.1
        | inr its ↦ h.has.uses which block (gone.left which block at) was.0 was.1 (ap has_ended its.1 ∙ lives) ∙ ap (λ (p : Process). count_by (has_open which) p.connections) its.1
      ];
    };
    waiters = waiters_left;
  }

  disconnect_connected : Gives (ServedWith named) (serve_disconnect part client moment)
  disconnect_connected =
      gives_on _ (found (row_at part.processes client.process) WrongState) _ (λ process is_process.
      let mid : Part = record { processes = freed; resources = deed.state } in
      gives_done _ _ (fewer_connected (with_answers deed.answers mid) named (λ own. named own + puts own (answered_changes deed.answers (with_process client.process (without_server client.server) part))) (λ own. let none = answered_none own deed.answers (with_process client.process (without_server client.server) part) in omega (arith, none)) (answers_connected deed.answers mid named parted)))

-- ---- what a worker does

kept_connected : (part : Part) (named : Client → ℕ) → Connected part named → (given : Result Served Outcome) → Gives (ServedWith named) given → ServedWith named (or_kept part given)
kept_connected part named h (Ok served) kept = gives-value (ServedWith named) (Ok served) served refl kept
kept_connected part named h (Err outcome) kept = fewer_connected part named (λ own. named own + 0) (λ own. omega arith) h

pub serve_connected : (config : Configuration) (user : ℕ) (held : List OwnItem) (part : Part) (done : OwnItem) (moment : ℕ) (named : Client → ℕ) → StandsWell part → Connected part (λ own. one (is_pulse own done) + named own) → ServedWith named (serve config user held part done moment)
unfolding serve
serve_connected config user held part (item.Message process thread) moment named well h =
    let now = fewer_connected part (λ own. one (is_pulse own (item.Message process thread)) + named own) named (λ own. omega arith) h in
    kept_connected part named now _ (message_connected part named well now (limits_of config user).disconnect process thread moment)
serve_connected config user held part (item.Unblock process thread number) moment named well h =
    let now = fewer_connected part (λ own. one (is_pulse own (item.Unblock process thread number)) + named own) named (λ own. omega arith) h in
    kept_connected part named now _ (unblock_connected part named well now process thread number moment)
serve_connected config user held part (item.Disconnect process server) moment named well h =
    let client : Client = record { process = process; server = server } in
    kept_connected part named (fewer_connected part (λ own. one (is_same_client client own) + named own) named (λ own. omega arith) h) _ (disconnect_connected part named well client moment h)

-- ---- an item is taken

pub take_connected : (part : Part) (done : OwnItem) (named : Client → ℕ) → Connected part named → Connected (take part done) named
unfolding take
take_connected part (item.Message process thread) named h =
    alike_connected part named (with_row part.processes process (with_thread thread taken_thread)) (alike_with part.processes process (with_thread thread taken_thread) (λ p there. thread_alike p thread taken_thread)) h
take_connected part (item.Unblock process thread number) named h = h
take_connected part (item.Disconnect process server) named h = h

-- ---- the end of a step

-- a process stays of which a server connection was left
left_stays : (held : List OwnItem) (pipes : Pipes) (processes : List (Option Process)) (client : Client) → is_left_at processes client ≡ true → is_left_at (processes_left held pipes 0 processes) client ≡ true
left_stays held pipes processes client left = by (row_at processes client.process) refl left
  where
    by : (row : Option Process) → row_at processes client.process ≡ row → left_of client.server row ≡ true → is_left_at (processes_left held pipes 0 processes) client ≡ true
    by None is none = absurd (cc)
    by (Some process) is was =
        let has = any_server process.servers (manager_number client.server.manager) client.server.number (left_there (row_at (servers_at client.server.manager process) client.server.number) was) in
        ap (left_of client.server) (left-at held pipes client.process processes ∙ (ap (row_left held pipes client.process) is ∙ server_left held pipes client.process process has)) ∙ was

pub settle_connected : (before : Part) (held : List OwnItem) (after : Part) (named : Client → ℕ) → Connected after named → Connected (settle_part before held after) named
unfolding settle_part
settle_connected before held after named h = record {
  pulses = λ client. by client (is_left_at after.processes client) refl;
  has = record {
    opened = λ number process there. h.has.opened number process (left_was held after.resources.pipes after.processes number process there);
    uses = λ which block at process there. h.has.uses which block at process (left_was held after.resources.pipes after.processes block.client.process process there);
  };
  waiters = record { none_foreign = h.waiters.none_foreign };
}
  where
    by : (client : Client) (b : Bool) → is_left_at after.processes client ≡ b → named client ≤ one (is_left_at (processes_left held after.resources.pipes 0 after.processes) client)
    by client true is =
        let few = h.pulses client in
        let most = one_most (is_left_at after.processes client) in
        let now : one (is_left_at (processes_left held after.resources.pipes 0 after.processes) client) ≡ 1 = ap one (left_stays held after.resources.pipes after.processes client is) in
        omega (arith, few, most, now)
    by client false is = let few = h.pulses client in let none : one (is_left_at after.processes client) ≡ 0 = ap one is in omega (arith, few, none)
