-- A user has no more processes, connections and server connections than the user's limits, whatever steps are taken.
use Rattle.std.proofs.Common.{◌≡◌, ◌≢◌, inl, inr, ℕ, zero, suc, ◌+◌, ◌<◌, ◌≤◌, ◌==◌, Bool, true, false, not, List, [], ◌∷◌, length, map, refl, sym, ap, ◌∙◌, subst, arith}
use Rattle.std.specs.Prelude.{◌||◌, ◌&&◌, Option, Some, None, Result, Ok, Err, if◌then◌else◌, is_none, is_some, nat_le, nat_lt, option_map, replicate, slice_set, sum_by}
use Rattle.std.specs.List.{count_by}
use Rattle.std.proofs.lemmas.Bool.{cases_Bool, cases_eq, cond_both, leb-true, ltb-true, ne_eqb, or_left, or_right}
use Rattle.std.proofs.Math.ListN.{length-set}
use Rattle.std.proofs.lemmas.List.Sums.{sum_by-append, sum_by-cons}
use Rattle.std.proofs.lemmas.Option.{same_Some}
use Rattle.qx_types.specs.Configuration.{Configuration, limits_of}
use Rattle.qx_types.specs.Managers.{manager_count, manager_number}
use Rattle.qx_types.specs.UserLimits.{UserLimits}
use Rattle.qx_base.specs.declared.errno.Errno.{Errno}
use Rattle.qx_base.specs.declared.errno.Errno.TheVariants.{EAGAIN, EBADF, EINTR, EINVAL, EMFILE, EXDEV}
use Rattle.qx_types.specs.declared.limits.TheConstants.Limits.{FIRST_CONNECTION, LAST_CONNECTION, THREADS}
use Rattle.qx_types.specs.declared.names.Coid.{Coid}
use Rattle.qx_types.specs.declared.names.Manager.{Manager}
use Rattle.qx_types.specs.declared.names.Prio.{Prio}
use Rattle.qx_types.specs.declared.names.Thread.{Thread}
use Rattle.qx_types.specs.declared.outcome.Answer.{Answer}
use Rattle.qx_types.specs.declared.outcome.Answer.TheVariants as answer
use Rattle.qx_types.specs.declared.outcome.Outcome.TheVariants.{Refused, WrongState}
use Rattle.qx_types.specs.declared.request.Request.{Request}
use Rattle.qx_types.specs.declared.step.Step.{Step}
use Rattle.qx_types.specs.declared.step.Step.TheVariants.{Spawn, Exit, Call, TakeReply, TakePulse, SetPrio, Interrupt, Mount}
use Rattle.qx_types.proofs.Managers.{number_below, same_manager}
use Rattle.qx_paths.specs.Prefixes.{MountPoint}
use Rattle.qx_wire.specs.Reading.{meaning}
use Rattle.qx_paths.specs.declared.resolved.Resolved.{Resolved}
use Rattle.qx_machine.specs.declared.rows.Addressed.{Addressed}
use Rattle.qx_machine.specs.declared.rows.Client.{Client}
use Rattle.qx_machine.specs.declared.rows.Connection.{Connection}
use Rattle.qx_machine.specs.declared.rows.Effect.{Effect}
use Rattle.qx_machine.specs.declared.rows.Effect.TheVariants as effect
use Rattle.qx_machine.specs.declared.rows.Over.{Over}
use Rattle.qx_machine.specs.declared.rows.Over.TheVariants.{Existing, New, Side}
use Rattle.qx_isolation.specs.declared.rows.OwnItem.{OwnItem}
use Rattle.qx_isolation.specs.declared.rows.OwnItem.TheVariants as item
use Rattle.qx_machine.specs.declared.rows.Pulse.{Pulse}
use Rattle.qx_machine.specs.declared.rows.Sent.{Sent}
use Rattle.qx_isolation.specs.declared.rows.ServerName.{ServerName}
use Rattle.qx_machine.specs.declared.rows.State.{State}
use Rattle.qx_machine.specs.declared.rows.State.TheVariants as state
use Rattle.qx_machine.specs.declared.rows.Target.{Target}
use Rattle.qx_machine.specs.declared.rows.ThreadRow.{ThreadRow}
use Rattle.qx_machine.specs.declared.rows.WaitingCall.{WaitingCall}
use Rattle.qx_machine.specs.Calls.{Address, Connects, ConnectsBoth, Duplicates, Opens, Uses, address, bytes_of, can_serve, connection_at, content_of, free_connection, may_call, place_of, server_count, target_at, to_place}
use Rattle.qx_machine.specs.Clients.{ClientStep, answer_in, call, client_given, interrupt_in, may_give, mount_by, pulse_taken, set_prio, spawn, spawn_number, take_reply, target_by}
use Rattle.qx_machine.specs.Events.{first_pulse}
use Rattle.qx_machine.specs.Functions.{Deed, Reply, new_coid}
use Rattle.qx_isolation.specs.Judgements.{found, need, or_refused}
use Rattle.qx_isolation.specs.Lines.{line_at}
use Rattle.qx_machine.specs.Managers.{close_client}
use Rattle.qx_machine.specs.Parts.{Part, thread_at, with_process}
use Rattle.qx_machine.specs.Performing.{Served, after_answer, after_message, after_serving, caller_of, context_of, deed_of, serve_disconnect, serve_message, serve_pulse, taken_in, with_answer, with_answers}
use Rattle.qx_machine.specs.PipeManager.{cancel_call}
use Rattle.qx_machine.specs.Processes.{Process, after_effect, after_error, after_reply, answered_thread, asked_thread, ended, living, new_process, queued_thread, ranked_thread, ready_thread, served_thread, servers_at, taken_thread, with_over, with_queued, with_side, with_thread, without_server}
use Rattle.qx_machine.specs.Resources.{Resources}
use Rattle.qx_isolation.specs.Rows.{lowest_from, put_row, row_at, with_row}
use Rattle.qx_machine.specs.Servers.{Servers, connects, in_use, is_left, is_numbered, leaving, new_server, no_servers, servers_while, sides_with, without_left}
use Rattle.qx_machine.specs.Settling.{processes_left, row_left, stays}
use Rattle.qx_machine.specs.Users.{boot_part, client, serve, settle_part, take}
use Rattle.qx_machine.specs.Waiting.{Pipes}
use Rattle.qx_machine.proofs.Gives.{Gives, found-row, gives_by, gives_done, gives_error, gives_more, gives_on, need-true}
use Rattle.qx_isolation.proofs.Places.{lowest_from_free, row_at-set_cases}
use Rattle.qx_attr.specs.inner.Counts.{one}
use Rattle.qx_attr.proofs.CountLemmas.{count-put}
use Rattle.qx_process.proofs.ServerLemmas.{any_put_same, any_set_fewer, attached-with_block, line_at-here, line_at-other}
use Rattle.qx_invariants.proofs.Clients.{StandsWell, left_was, row_lives, settle_well, take_well, well_boot, well_kept}
use Rattle.qx_invariants.proofs.Counts.{count-map}
use Rattle.qx_invariants.proofs.Items.{set-few}
use Rattle.qx_iofunc.proofs.PlaceLemmas.{lowest_within, put_differ}
use Rattle.qx_invariants.proofs.Rows.{put_cases, some-is, the-some, with_row-was}
use Rattle.qx_invariants.proofs.Sending.{lowest_few}
use Rattle.qx_invariants.proofs.Served.{IsResettled, IsServed, attached, connection_served, effect_resettled, ended_resettled, over_resettled, resettled_at, resettled_same, some-leaving, thread_resettled}
use Rattle.qx_invariants.proofs.Steps.{kept-keeps, unchanged-keeps, IsKept}
use Rattle.qx_invariants.proofs.Together.{none_there}

-- ---- sums of rows

module _ {A : Type 0} (size : Option A → ℕ) where
  -- one row changes, by so much at most
  set-sum : (rows : List (Option A)) (n : ℕ) (row : Option A) (more : ℕ) → size row ≤ size (row_at rows n) + more → sum_by size (slice_set rows n row) ≤ sum_by size rows + more
  set-sum [] n row more less = omega arith
  set-sum (place ∷ rows) zero row more less = let now = sum_by-cons size row rows in let was = sum_by-cons size place rows in omega (arith, now, was, less)
  set-sum (place ∷ rows) (suc n) row more less =
      let now = sum_by-cons size place (slice_set rows n row) in
      let was = sum_by-cons size place rows in
      let rest = set-sum rows n row more less in
      omega (arith, now, was, rest)

  -- a row comes that counts nothing
  put-sum : (rows : List (Option A)) (n : ℕ) (row : A) → size (Some row) ≡ 0 → sum_by size (put_row rows n row) ≤ sum_by size rows
  put-sum rows n row none = cond_both (nat_lt n (length rows)) (slice_set rows n (Some row)) _ (λ now. sum_by size now ≤ sum_by size rows)
      (λ inside. let less = set-sum rows n (Some row) 0 (omega (arith, none)) in omega (arith, less))
      (λ beyond. let both = sum_by-append size rows (Some row ∷ []) in let last = sum_by-cons size (Some row) [] in omega (arith, both, last, none))

-- ---- the server connections of a process

abbrev count : Servers → ℕ
count servers = count_by is_some servers

left-count : (servers : Servers) → count (map (option_map leaving) servers) ≡ count servers
left-count servers = count-map is_some is_some (option_map leaving) some-leaving servers

-- one more at most, where none is in use
while-count : (attaches : Bool) (servers : Servers) → count (servers_while attaches servers) ≤ count servers + one (not (is_some (in_use servers)))
while-count false servers = let same = left-count servers in omega (arith, same)
while-count true servers = by (is_some (in_use servers))
  where
    by : (used : Bool) → count (if used then servers else put_row servers (lowest_from 1 servers) new_server) ≤ count servers + one (not used)
    by true = omega arith
    by false = let put = count-put is_some refl servers (lowest_from 1 servers) new_server (lowest_from_free 1 servers) in omega (arith, put)

freed-count : (server : ℕ) (servers : Servers) → count (without_left server servers) ≤ count servers
freed-count server servers = cond_both (is_left (row_at servers server)) (slice_set servers server None) servers (λ now. count now ≤ count servers) (λ left. let few = set-few is_some servers server None in omega (arith, few)) (λ used. omega arith)

-- server connections follow what is attached, and at this manager nothing is that was not
same-count : (process now : Process) → IsResettled process now → IsServed process → (manager : Manager) → (attached now (manager_number manager) ≡ true → attached process (manager_number manager) ≡ true) → count (servers_at manager now) ≡ count (servers_at manager process)
same-count process now again h manager less = elim (cases_Bool (attached now (manager_number manager))) [
  | inl is ↦ ap count (resettled_same process now again h manager is (less is))
  | inr not_so ↦ ap count (resettled_at process now again h manager) ∙ (ap (λ b. count (servers_while b (servers_at manager process))) not_so ∙ left-count (servers_at manager process))
]

-- ---- a process holds no more than it held

record Shrinks (process now : Process) : Type 0 where
  connections : (coid : ℕ) (connection : Connection) → row_at now.connections coid ≡ Some connection → is_some (row_at process.connections coid) ≡ true
  servers : (manager : Manager) → count (servers_at manager now) ≤ count (servers_at manager process)

or-less : (a b c d : Bool) → (a ≡ true → c ≡ true) → (b ≡ true → d ≡ true) → (a || b) ≡ true → (c || d) ≡ true
or-less true b c d first second is = or_left c d (first refl)
or-less false b c d first second is = or_right c d (second is)

module _ (process : Process) (h : IsServed process) where
  shrinks_by : (now : Process) → IsResettled process now → ((coid : ℕ) (connection : Connection) → row_at now.connections coid ≡ Some connection → is_some (row_at process.connections coid) ≡ true) → ((number : ℕ) → attached now number ≡ true → attached process number ≡ true) → Shrinks process now
  shrinks_by now again connections less = record {
    connections = connections;
    servers = λ manager. let same = same-count process now again h manager (less (manager_number manager)) in omega (arith, same);
  }

  same_connections : (coid : ℕ) (connection : Connection) → row_at process.connections coid ≡ Some connection → is_some (row_at process.connections coid) ≡ true
  same_connections coid connection there = some-is _ _ there

  module _ (thread : ℕ) (change : ThreadRow → ThreadRow) where
    thread_shrinks : Shrinks process (with_thread thread change process)
    thread_shrinks = shrinks_by (with_thread thread change process) (thread_resettled process h thread change) same_connections (λ number is. is)

    effect_shrinks : (given : Effect) → Shrinks process (after_effect given (with_thread thread change process))
    effect_shrinks effect.Keeps = thread_shrinks
    effect_shrinks (effect.Opens coid block) =
        shrinks_by (after_effect (effect.Opens coid block) (with_thread thread change process)) (effect_resettled process h thread change (effect.Opens coid block))
        (λ m connection there. let was = with_row-was process.connections coid.0 (λ (c : Connection). record c { block = Some block }) m connection there in some-is _ _ was.1)
        (λ number is. sym (attached-with_block number coid.0 block process.connections process.sides) ∙ is)
    effect_shrinks (effect.Closes coid) =
        shrinks_by (after_effect (effect.Closes coid) (with_thread thread change process)) (effect_resettled process h thread change (effect.Closes coid))
        (λ m connection there. elim (row_at-set_cases process.connections coid.0 m None connection there) [ inl was ↦ some-is _ _ was | inr none ↦ absurd (cc) ])
        (λ number is. or-less _ _ _ _ (any_set_fewer (connects number) process.connections coid.0 None refl) (λ side. side) is)

    side_shrinks : Shrinks process (with_side thread None (with_thread thread change process))
    side_shrinks = shrinks_by (with_side thread None (with_thread thread change process)) refl same_connections (λ number is. or-less _ _ _ _ (λ own. own) (any_set_fewer (sides_with number) process.sides thread None refl) is)

    reply_shrinks : (over : Over) (given : Effect) → Shrinks process (after_reply thread over given (with_thread thread change process))
    reply_shrinks (New coid) given = effect_shrinks given
    reply_shrinks (Existing coid) given = effect_shrinks given
    reply_shrinks Side given = side_shrinks

    error_shrinks : (over : Over) → Shrinks process (after_error thread over (with_thread thread change process))
    error_shrinks (New coid) = effect_shrinks (effect.Closes coid)
    error_shrinks (Existing coid) = thread_shrinks
    error_shrinks Side = side_shrinks

  serving_shrinks : (thread : ℕ) (over : Over) (reply : Option Reply) → Shrinks process (after_serving thread over reply process)
  serving_shrinks thread over None = thread_shrinks thread served_thread
  serving_shrinks thread over (Some reply) = reply_shrinks thread (answered_thread (answer.Reply reply.status reply.bytes)) over reply.effect

  message_shrinks : (thread : ℕ) (over : Over) (given : Result (Deed Resources) Errno) → Shrinks process (after_message thread over given process)
  message_shrinks thread over (Ok deed) = serving_shrinks thread over deed.reply
  message_shrinks thread over (Err error) = error_shrinks thread (answered_thread (answer.Failed error)) over

  ended_shrinks : Shrinks process (ended process)
  ended_shrinks = shrinks_by (ended process) (ended_resettled process) (λ coid connection there. absurd (cc)) (λ number is. let clash : false ≡ true = is in absurd (cc))

  freed_shrinks : (server : ServerName) → Shrinks process (without_server server process)
  freed_shrinks server = record {
    connections = same_connections;
    servers = λ manager. elim (cases_eq (manager_number manager) (manager_number server.manager)) [
      | inl same ↦
          let within = number_below server.manager in
          let long = h.count in
          let at : count (servers_at server.manager (without_server server process)) ≡ count (without_left server.number (servers_at server.manager process)) = ap count (line_at-here process.servers (manager_number server.manager) (without_left server.number) (omega (arith, within, long))) in
          let few = freed-count server.number (servers_at server.manager process) in
          let now : count (servers_at manager (without_server server process)) ≡ count (servers_at server.manager (without_server server process)) = ap (λ n. count (line_at (without_server server process).servers n)) same in
          let was : count (servers_at manager process) ≡ count (servers_at server.manager process) = ap (λ n. count (line_at process.servers n)) same in
          omega (arith, at, few, now, was)
      | inr differs ↦ let same = ap count (line_at-other process.servers (manager_number server.manager) (manager_number manager) (without_left server.number) differs) in omega (arith, same)
    ];
  }

-- ---- all processes of a user

abbrev AllServed : List (Option Process) → Type 0
AllServed processes = (number : ℕ) (process : Process) → row_at processes number ≡ Some process → IsServed process

-- none is new, and none holds more
record AllShrink (processes now : List (Option Process)) : Type 0 where
  were : (number : ℕ) (after : Process) → row_at now number ≡ Some after
      → (process : Process) × (row_at processes number ≡ Some process) × ((coid : ℕ) (connection : Connection) → row_at after.connections coid ≡ Some connection → is_some (row_at process.connections coid) ≡ true)
  servers : (manager : Manager) → sum_by (server_count manager) now ≤ sum_by (server_count manager) processes
  long : length processes ≤ length now

same_shrink : (processes : List (Option Process)) → AllShrink processes processes
same_shrink processes = record { were = λ number process there. (process, there, λ coid connection is. some-is _ _ is); servers = λ manager. omega arith; long = omega arith }

shrink_then : (processes mid now : List (Option Process)) → AllShrink processes mid → AllShrink mid now → AllShrink processes now
shrink_then processes mid now first second = record {
  were = λ number after there.
      let one_is = second.were number after there in
      let two_is = first.were number one_is.0 one_is.1 in
      (two_is.0, two_is.1, λ coid connection is. let was = the-some (row_at one_is.0.connections coid) (one_is.2 coid connection is) in two_is.2 coid was.0 was.1);
  servers = λ manager. let one_is = first.servers manager in let two_is = second.servers manager in omega (arith, one_is, two_is);
  long = let one_is = first.long in let two_is = second.long in omega (arith, one_is, two_is);
}

-- one of them changes
shrink_with : (processes : List (Option Process)) (number : ℕ) (f : Process → Process) → ((process : Process) → row_at processes number ≡ Some process → Shrinks process (f process)) → AllShrink processes (with_row processes number f)
shrink_with processes number f changes = record {
  were = λ n after there. let was = with_row-was processes number f n after there in elim was.2 [
    | inl stays ↦ (was.0, was.1, subst (λ (p : Process). (coid : ℕ) (connection : Connection) → row_at p.connections coid ≡ Some connection → is_some (row_at was.0.connections coid) ≡ true) stays.1 (λ coid connection is. some-is _ _ is))
    | inr is ↦ (was.0, was.1, subst (λ (p : Process). (coid : ℕ) (connection : Connection) → row_at p.connections coid ≡ Some connection → is_some (row_at was.0.connections coid) ≡ true) is.1 (changes was.0 (ap (row_at processes) (sym is.0) ∙ was.1)).connections)
  ];
  servers = λ manager. let few = set-sum (server_count manager) processes number (option_map f (row_at processes number)) 0 (by manager (row_at processes number) refl) in omega (arith, few);
  long = let same = length-set processes number (option_map f (row_at processes number)) in omega (arith, same);
}
  where
    by : (manager : Manager) (row : Option Process) → row_at processes number ≡ row → server_count manager (option_map f row) ≤ server_count manager row + 0
    by manager None is = omega arith
    by manager (Some process) is = let few = (changes process is).servers manager in omega (arith, few)

answers_shrink : (answers : List (WaitingCall × Answer)) (part : Part) → AllShrink part.processes (with_answers answers part).processes
answers_shrink [] part = same_shrink part.processes
answers_shrink ((call, given) ∷ answers) part =
    shrink_then part.processes (with_answer (call, given) part).processes (with_answers answers (with_answer (call, given) part)).processes
    (shrink_with part.processes call.process (with_thread call.thread (answered_thread given)) (λ process there. record { connections = λ coid connection is. some-is _ _ is; servers = λ manager. omega arith })) (answers_shrink answers (with_answer (call, given) part))

-- ---- within the limits

pub record AreFew (limits : UserLimits) (processes : List (Option Process)) : Type 0 where
  pub numbered : (number : ℕ) (process : Process) → row_at processes number ≡ Some process → (1 ≤ number) × (number ≤ limits.processes)
  pub connections : (number : ℕ) (process : Process) → row_at processes number ≡ Some process → (coid : ℕ) (connection : Connection) → row_at process.connections coid ≡ Some connection → coid < FIRST_CONNECTION + limits.connections
  pub servers : (manager : Manager) → sum_by (server_count manager) processes ≤ limits.servers
  -- the table begins with the place 0
  pub some : 0 < length processes

few_shrunk : (limits : UserLimits) (processes now : List (Option Process)) → AllShrink processes now → AreFew limits processes → AreFew limits now
few_shrunk limits processes now shrunk h = record {
  numbered = λ number after there. let was = shrunk.were number after there in h.numbered number was.0 was.1;
  connections = λ number after there coid connection is.
      let was = shrunk.were number after there in
      let its = the-some (row_at was.0.connections coid) (was.2 coid connection is) in
      h.connections number was.0 was.1 coid its.0 its.1;
  servers = λ manager. let few = h.servers manager in let less = shrunk.servers manager in omega (arith, few, less);
  some = let some = h.some in let long = shrunk.long in omega (arith, some, long);
}

-- ---- a process comes

new_count : (threads prio : ℕ) (manager : Manager) → server_count manager (Some (new_process threads prio)) ≡ 0
new_count threads prio manager = none manager_count (manager_number manager)
  where
    none : (places at : ℕ) → count (line_at (replicate places no_servers) at) ≡ 0
    none zero at = refl
    none (suc places) zero = refl
    none (suc places) (suc at) = none places at

no_connections : (threads prio coid : ℕ) → row_at (new_process threads prio).connections coid ≡ None
no_connections threads prio zero = refl
no_connections threads prio (suc zero) = refl
no_connections threads prio (suc (suc zero)) = refl
no_connections threads prio (suc (suc (suc coid))) = refl

few_spawned : (limits : UserLimits) (processes : List (Option Process)) → AreFew limits processes → (number threads prio : ℕ) → number ≤ length processes → 1 ≤ number → number ≤ limits.processes → AreFew limits (put_row processes number (new_process threads prio))
few_spawned limits processes h number threads prio within from few = record {
  numbered = λ n now there. elim (put_cases processes number (new_process threads prio) within n now there) [
    | inl new ↦ let same = new.0 in (omega (arith, same, from), omega (arith, same, few))
    | inr was ↦ h.numbered n now was
  ];
  connections = λ n now there coid connection is. elim (put_cases processes number (new_process threads prio) within n now there) [
    | inl new ↦ let none : None ≡ Some connection = sym (no_connections threads prio coid) ∙ (ap (λ (p : Process). row_at p.connections coid) new.1 ∙ is) in absurd (cc)
    | inr was ↦ h.connections n now was coid connection is
  ];
  servers = λ manager. let less = put-sum (server_count manager) processes number (new_process threads prio) (new_count threads prio manager) in let was = h.servers manager in omega (arith, less, was);
  some = let longer = (put_differ processes number (new_process threads prio) within).longer in let some = h.some in omega (arith, longer, some);
}

-- the number of a new process
record IsNumber (limits : UserLimits) (processes : List (Option Process)) (number : ℕ) : Type 0 where
  within : number ≤ length processes
  from : 1 ≤ number
  few : number ≤ limits.processes

spawn_number-few : (limits : UserLimits) (processes : List (Option Process)) → 0 < length processes → (threads prio : ℕ) → Gives (IsNumber limits processes) (spawn_number limits processes threads prio)
spawn_number-few limits processes some threads prio =
    gives_on _ (need (nat_le 1 threads && nat_le threads THREADS) (Refused EINVAL)) _ (λ valid is_valid.
    gives_on _ (may_give limits.ceiling prio) _ (λ allowed is_allowed.
    gives_on _ (need (nat_le (lowest_from 1 processes) limits.processes) (Refused EAGAIN)) _ (λ free is_free.
    gives_done _ _ (record { within = lowest_within processes some; from = omega arith; few = leb-true (lowest_from 1 processes) limits.processes (need-true _ _ free is_free) }))))

-- ---- a message is sent

-- what a call attaches to a process is within the limits
record Fits (limits : UserLimits) (processes : List (Option Process)) (process : Process) (target : Target) : Type 0 where
  lowest : (coid : Coid) → new_coid target.over ≡ Some coid → coid.0 ≡ lowest_from FIRST_CONNECTION process.connections
  below : (coid : Coid) → new_coid target.over ≡ Some coid → coid.0 < FIRST_CONNECTION + limits.connections
  serves : can_serve limits.servers processes process target.manager ≡ true

found-there : {A E : Type 0} (row : Option A) (error : E) → Gives (λ value. row ≡ Some value) (found row error)
found-there None error = gives_error _ _
found-there (Some value) error = gives_done _ _ refl

module _ (config : Configuration) (user : ℕ) (mounts : List MountPoint) (processes : List (Option Process)) (process : Process) (served : IsServed process) (prio : Prio) where
  abbrev own : UserLimits
  own = limits_of config user

  abbrev Fit : Addressed → Type 0
  Fit addressed = Fits own processes process addressed.target

  -- a number that a new connection gets
  abbrev IsNext : ℕ → Type 0
  IsNext number = (number ≡ lowest_from FIRST_CONNECTION process.connections) × (number < FIRST_CONNECTION + own.connections)

  place-fits : (place : Resolved) (to : List (List ℕ)) (over : Over) → ((coid : Coid) → new_coid over ≡ Some coid → IsNext coid.0) → Gives Fit (to_place own.servers processes process place to over prio)
  place-fits place to over next =
      gives_on _ (need (can_serve own.servers processes process place.manager) (Refused EAGAIN)) _ (λ can is_can.
      gives_done _ _ (record { lowest = λ coid is. (next coid is).0; below = λ coid is. (next coid is).1; serves = need-true _ _ can is_can }))

  free-fits : Gives IsNext (free_connection own.connections process)
  free-fits =
      gives_on _ (need (nat_lt (lowest_from FIRST_CONNECTION process.connections) (FIRST_CONNECTION + own.connections)) (Refused EMFILE)) _ (λ free is_free.
      gives_done _ _ (refl, ltb-true (lowest_from FIRST_CONNECTION process.connections) (FIRST_CONNECTION + own.connections) (need-true _ _ free is_free)))

  connection-there : (coid : ℕ) → Gives (λ connection. row_at process.connections coid ≡ Some connection) (connection_at coid process)
  connection-there coid = gives_on _ (need (nat_le FIRST_CONNECTION coid && nat_le coid LAST_CONNECTION) (Refused EBADF)) _ (λ possible is_possible. found-there (row_at process.connections coid) (Refused EBADF))

  -- a connection's manager serves the process already
  used_serves : (coid : ℕ) (connection : Connection) → row_at process.connections coid ≡ Some connection → can_serve own.servers processes process connection.manager ≡ true
  used_serves coid connection there = or_left _ _ (connection_served process coid connection served there)

  addressed-fits : (address : Address) → Gives Fit (target_at config user mounts processes process prio address)
  addressed-fits (Opens path) =
      gives_on _ (or_refused (place_of config user mounts path)) _ (λ place is_place.
      gives_by IsNext _ (free_connection own.connections process) _ free-fits (λ number next.
      place-fits place [] (New (record { 0 = number })) (λ coid over. subst (λ (c : Coid). IsNext c.0) (same_Some _ _ over) next)))
  addressed-fits (Connects path) = gives_on _ (or_refused (place_of config user mounts path)) _ (λ place is_place. place-fits place [] Side (λ coid over. absurd (cc)))
  addressed-fits (ConnectsBoth path to) =
      gives_on _ (or_refused (place_of config user mounts path)) _ (λ place is_place.
      gives_on _ (or_refused (place_of config user mounts to)) _ (λ other is_other.
      gives_on _ (need (place.root == other.root) (Refused EXDEV)) _ (λ same is_same. place-fits place other.rest Side (λ coid over. absurd (cc)))))
  addressed-fits (Uses coid) =
      gives_by (λ connection. row_at process.connections coid ≡ Some connection) _ (connection_at coid process) _ (connection-there coid) (λ connection there.
      gives_done _ _ (record { lowest = λ other over. absurd (cc); below = λ other over. absurd (cc); serves = used_serves coid connection there }))
  addressed-fits (Duplicates coid) =
      gives_by (λ connection. row_at process.connections coid ≡ Some connection) _ (connection_at coid process) _ (connection-there coid) (λ connection there.
      gives_by IsNext _ (free_connection own.connections process) _ free-fits (λ number next.
      gives_done _ _ (record {
        lowest = λ other over. subst (λ (c : Coid). c.0 ≡ lowest_from FIRST_CONNECTION process.connections) (same_Some _ _ over) next.0;
        below = λ other over. subst (λ (c : Coid). c.0 < FIRST_CONNECTION + own.connections) (same_Some _ _ over) next.1;
        serves = used_serves coid connection there;
      })))

module _ (limits : UserLimits) (processes : List (Option Process)) (h : AreFew limits processes) (number : ℕ) (process : Process) (there : row_at processes number ≡ Some process) (served : IsServed process) (room : FIRST_CONNECTION ≤ length process.connections) (thread : ℕ) (sent : Sent) (fits : Fits limits processes process sent.target) where
  abbrev manager : Manager
  manager = sent.target.manager

  abbrev sending : Over → Process
  sending over = with_over thread manager over (with_thread thread (queued_thread sent) process)

  within : (coid : Coid) → new_coid sent.target.over ≡ Some coid → coid.0 ≤ length process.connections
  within coid is = let lowest = fits.lowest coid is in let few = lowest_few FIRST_CONNECTION process.connections room in omega (arith, lowest, few)

  free : (coid : Coid) → new_coid sent.target.over ≡ Some coid → row_at process.connections coid.0 ≡ None
  free coid is = ap (row_at process.connections) (fits.lowest coid is) ∙ lowest_from_free FIRST_CONNECTION process.connections

  -- its connections are within the limit
  sent_below : (over : Over) → new_coid sent.target.over ≡ new_coid over → (coid : ℕ) (connection : Connection) → row_at (sending over).connections coid ≡ Some connection → coid < FIRST_CONNECTION + limits.connections
  sent_below (New new) same coid connection is = elim (put_cases process.connections new.0 (record { manager = manager; block = None }) (within new same) coid connection is) [
    | inl made ↦ let at = made.0 in let below = fits.below new same in omega (arith, at, below)
    | inr was ↦ h.connections number process there coid connection was
  ]
  sent_below (Existing old) same coid connection is = h.connections number process there coid connection is
  sent_below Side same coid connection is = h.connections number process there coid connection (unsided is)
    where
      unsided : row_at (sending Side).connections coid ≡ Some connection → row_at process.connections coid ≡ Some connection
      unsided = cond_both {A = Process} (is_none (row_at process.sides thread)) _ _ (λ p. row_at p.connections coid ≡ Some connection → row_at process.connections coid ≡ Some connection) (λ none at. at) (λ some at. at)

  -- at another manager nothing is attached that was not
  attached_before : (over : Over) → new_coid sent.target.over ≡ new_coid over → (at : ℕ) → at ≢ manager_number manager → attached (sending over) at ≡ true → attached process at ≡ true
  attached_before (New new) same at apart is =
      let other : is_numbered at manager ≡ false = ne_eqb (manager_number manager) at (λ alike. apart (sym alike)) in
      or-less _ _ _ _ (λ own. sym (any_put_same (connects at) process.connections new.0 (record { manager = manager; block = None }) (free new same) refl other) ∙ own) (λ side. side) is
  attached_before (Existing old) same at apart is = is
  attached_before Side same at apart is = unsided is
    where
      other : is_numbered at manager ≡ false
      other = ne_eqb (manager_number manager) at (λ alike. apart (sym alike))

      unsided : attached (sending Side) at ≡ true → attached process at ≡ true
      unsided = cond_both {A = Process} (is_none (row_at process.sides thread)) _ _ (λ p. attached p at ≡ true → attached process at ≡ true)
          (λ none is. or-less _ _ _ _ (λ own. own) (any_set_fewer (sides_with at) process.sides thread (Some manager) other) is) (λ some is. is)

  abbrev now : Process
  now = with_queued thread sent process

  again : IsResettled process now
  again = over_resettled process served thread (queued_thread sent) sent.target.over manager

  -- the user's server connections at a manager are so many more at most
  sum-now : (at : Manager) (more : ℕ) → count (servers_at at now) ≤ count (servers_at at process) + more → sum_by (server_count at) (with_row processes number (with_queued thread sent)) ≤ sum_by (server_count at) processes + more
  sum-now at more few =
      let its : server_count at (option_map (with_queued thread sent) (row_at processes number)) ≡ count (servers_at at now) = ap (λ row. server_count at (option_map (with_queued thread sent) row)) there in
      let was : server_count at (row_at processes number) ≡ count (servers_at at process) = ap (server_count at) there in
      set-sum (server_count at) processes number (option_map (with_queued thread sent) (row_at processes number)) more (omega (arith, its, was, few))

  abbrev used : Bool
  used = is_some (in_use (servers_at manager process))

  -- where none is in use the user may have one more
  may_have : (b : Bool) → used ≡ b → sum_by (server_count manager) processes + one (not b) ≤ limits.servers
  may_have true is = let few = h.servers manager in omega (arith, few)
  may_have false is =
      let fewer : nat_lt (sum_by (server_count manager) processes) limits.servers ≡ true = ap (λ b. b || nat_lt (sum_by (server_count manager) processes) limits.servers) (sym is) ∙ fits.serves in
      let less = ltb-true (sum_by (server_count manager) processes) limits.servers fewer in
      omega (arith, less)

  own_servers : sum_by (server_count manager) (with_row processes number (with_queued thread sent)) ≤ limits.servers
  own_servers =
      let at = ap count (resettled_at process now again served manager) in
      let few = while-count (attached now (manager_number manager)) (servers_at manager process) in
      let sum = sum-now manager (one (not used)) (omega (arith, at, few)) in
      let may = may_have used refl in
      omega (arith, sum, may)

  other_servers : (at : Manager) → manager_number at ≢ manager_number manager → sum_by (server_count at) (with_row processes number (with_queued thread sent)) ≤ limits.servers
  other_servers at apart =
      let same = same-count process now again served at (attached_before sent.target.over refl (manager_number at) apart) in
      let sum = sum-now at 0 (omega (arith, same)) in
      let few = h.servers at in
      omega (arith, sum, few)

  few_sent : AreFew limits (with_row processes number (with_queued thread sent))
  few_sent = record {
    numbered = λ n after at. let was = with_row-was processes number (with_queued thread sent) n after at in h.numbered n was.0 was.1;
    connections = λ n after at coid connection is. let was = with_row-was processes number (with_queued thread sent) n after at in elim was.2 [
      | inl stays ↦ h.connections n was.0 was.1 coid connection (ap (λ (p : Process). row_at p.connections coid) stays.1 ∙ is)
      | inr its ↦
          let same : process ≡ was.0 = same_Some _ _ (sym there ∙ (ap (row_at processes) (sym its.0) ∙ was.1)) in
          let made : now ≡ after = ap (with_queued thread sent) same ∙ its.1 in
          sent_below sent.target.over refl coid connection (ap (λ (p : Process). row_at p.connections coid) made ∙ is)
    ];
    servers = λ at. elim (cases_eq (manager_number at) (manager_number manager)) [
      | inl same ↦ subst (λ (m : Manager). sum_by (server_count m) (with_row processes number (with_queued thread sent)) ≤ limits.servers) (sym (same_manager at manager same)) own_servers
      | inr apart ↦ other_servers at apart
    ];
    some = let same = length-set processes number (option_map (with_queued thread sent) (row_at processes number)) in let some = h.some in omega (arith, same, some);
  }

-- ---- what a worker does

module _ (part : Part) (served : AllServed part.processes) where
  answer_shrinks : (number thread : ℕ) (over : Over) (given : Result (Deed Resources) Errno) → AllShrink part.processes (after_answer part number thread over given).processes
  answer_shrinks number thread over (Ok deed) =
      let mid : Part = with_process number (after_message thread over (Ok deed)) (record part { resources = deed.state }) in
      shrink_then part.processes mid.processes (with_answers deed.answers mid).processes
      (shrink_with part.processes number (after_message thread over (Ok deed)) (λ process there. message_shrinks process (served number process there) thread over (Ok deed))) (answers_shrink deed.answers mid)
  answer_shrinks number thread over (Err error) = shrink_with part.processes number (after_message thread over (Err error)) (λ process there. message_shrinks process (served number process there) thread over (Err error))

  one_shrinks : (number thread : ℕ) (change : ThreadRow → ThreadRow) → AllShrink part.processes (with_process number (with_thread thread change) part).processes
  one_shrinks number thread change = shrink_with part.processes number (with_thread thread change) (λ process there. thread_shrinks process (served number process there) thread change)

module _ (limits : UserLimits) (part : Part) (served : AllServed part.processes) (h : AreFew limits part.processes) where
  abbrev FewServed : Served → Type 0
  FewServed given = AreFew limits given.part.processes

  shrunk : (now : List (Option Process)) → AllShrink part.processes now → AreFew limits now
  shrunk now less = few_shrunk limits part.processes now less h

  message_few : (prio number thread moment : ℕ) → Gives FewServed (serve_message prio part number thread moment)
  message_few prio number thread moment =
      gives_on _ (found (row_at part.processes number) WrongState) _ (λ process is_process.
      gives_on _ (found (row_at process.threads thread) WrongState) _ (λ row is_row.
      gives_on _ (found (taken_in row.state) WrongState) _ (λ sent is_sent.
      gives_done _ _ (shrunk _ (answer_shrinks part served number thread sent.target.over (deed_of part.resources (context_of process (caller_of number thread row sent) sent.target moment (meaning sent.bytes)) (meaning sent.bytes)))))))

  pulse_few : (process thread call moment : ℕ) → Gives FewServed (serve_pulse part process thread call moment)
  pulse_few process thread call moment = gives_on _ (cancel_call part.resources process thread call moment) _ (λ deed is_deed. gives_done _ _ (shrunk _ (answers_shrink deed.answers (record part { resources = deed.state }))))

  disconnect_few : (own : Client) (moment : ℕ) → Gives FewServed (serve_disconnect part own moment)
  disconnect_few own moment =
      let deed = close_client part.resources own moment in
      let mid : Part = record { processes = with_row part.processes own.process (without_server own.server); resources = deed.state } in
      gives_on _ (found (row_at part.processes own.process) WrongState) _ (λ process is_process.
      gives_done _ _ (shrunk _ (shrink_then part.processes mid.processes (with_answers deed.answers mid).processes
      (shrink_with part.processes own.process (without_server own.server) (λ process there. freed_shrinks process (served own.process process there) own.server)) (answers_shrink deed.answers mid))))

  serve_few : (config : Configuration) (user : ℕ) (held : List OwnItem) (own : OwnItem) (moment : ℕ) → FewServed (serve config user held part own moment)
  unfolding serve
  serve_few config user held (item.Message process thread) moment = kept-keeps (λ p. AreFew limits p.processes) part h _ (message_few (limits_of config user).disconnect process thread moment)
  serve_few config user held (item.Unblock process thread call) moment = kept-keeps (λ p. AreFew limits p.processes) part h _ (pulse_few process thread call moment)
  serve_few config user held (item.Disconnect process server) moment = kept-keeps (λ p. AreFew limits p.processes) part h _ (disconnect_few (record { process = process; server = server }) moment)

  take_few : (own : OwnItem) → AreFew limits (take part own).processes
  unfolding take
  take_few (item.Message process thread) = shrunk _ (one_shrinks part served process thread taken_thread)
  take_few (item.Unblock process thread call) = h
  take_few (item.Disconnect process server) = h

-- ---- the end of a step

left_sum : (held : List OwnItem) (pipes : Pipes) (manager : Manager) (number : ℕ) (rows : List (Option Process)) → sum_by (server_count manager) (processes_left held pipes number rows) ≤ sum_by (server_count manager) rows
left_sum held pipes manager number [] = omega arith
left_sum held pipes manager number (row ∷ rows) =
    let now = sum_by-cons (server_count manager) (row_left held pipes number row) (processes_left held pipes (number + 1) rows) in
    let was = sum_by-cons (server_count manager) row rows in
    let first = fewer row in
    let rest = left_sum held pipes manager (number + 1) rows in
    omega (arith, now, was, first, rest)
  where
    fewer : (row : Option Process) → server_count manager (row_left held pipes number row) ≤ server_count manager row
    fewer None = omega arith
    fewer (Some process) = cond_both (stays held pipes number process) (Some process) None (λ (left : Option Process). server_count manager left ≤ server_count manager (Some process)) (λ is. omega arith) (λ goes. omega arith)

left_long : (held : List OwnItem) (pipes : Pipes) (number : ℕ) (rows : List (Option Process)) → length (processes_left held pipes number rows) ≡ length rows
left_long held pipes number [] = refl
left_long held pipes number (row ∷ rows) = ap suc (left_long held pipes (number + 1) rows)

left_shrinks : (held : List OwnItem) (pipes : Pipes) (rows : List (Option Process)) → AllShrink rows (processes_left held pipes 0 rows)
left_shrinks held pipes rows = record {
  were = λ number after there. (after, left_was held pipes rows number after there, λ coid connection is. some-is _ _ is);
  servers = λ manager. left_sum held pipes manager 0 rows;
  long = let same = left_long held pipes 0 rows in omega (arith, same);
}

settle_few : (limits : UserLimits) (before : Part) (held : List OwnItem) (after : Part) → AreFew limits after.processes → AreFew limits (settle_part before held after).processes
unfolding settle_part
settle_few limits before held after h = few_shrunk limits after.processes _ (left_shrinks held after.resources.pipes after.processes) h

-- ---- what a client does

module _ (config : Configuration) (user : ℕ) (part : Part) (well : StandsWell part) (h : AreFew (limits_of config user) part.processes) where
  abbrev limits : UserLimits
  limits = limits_of config user

  abbrev FewGiven : ClientStep → Type 0
  FewGiven given = AreFew limits given.part.processes

  all_served : AllServed part.processes
  all_served number process there = (well.clientele.sound number process there).served

  spawn_few : (threads prio : ℕ) → Gives FewGiven (spawn limits part threads prio)
  spawn_few threads prio =
      gives_by (IsNumber limits part.processes) _ (spawn_number limits part.processes threads prio) _ (spawn_number-few limits part.processes h.some threads prio) (λ number is.
      gives_done _ _ (few_spawned limits part.processes h number threads prio is.within is.from is.few))

  -- a process of which a thread sends a message there
  record Sender (number : ℕ) (target : Target) : Type 0 where
    process : Process
    there : row_at part.processes number ≡ Some process
    room : FIRST_CONNECTION ≤ length process.connections
    fits : Fits limits part.processes process target

  target-few : (thread : Thread) (asked : Request) → Gives (λ (addressed : Addressed). Sender thread.proc.num addressed.target) (target_by config user part.resources.mounts part.processes thread asked)
  target-few thread asked =
      gives_on _ (found (row_at part.processes thread.proc.num) WrongState) _ (λ process is_process.
      gives_on _ (found (row_at process.threads thread.tid) WrongState) _ (λ row is_row.
      gives_on _ (may_call row asked) _ (λ may is_may.
      let there = found-row _ _ process is_process in
      let sound = well.clientele.sound thread.proc.num process there in
      gives_more (λ (addressed : Addressed). Fits limits part.processes process addressed.target) (λ (addressed : Addressed). Sender thread.proc.num addressed.target) _
      (λ addressed fits. record { process = process; there = there; room = sound.room (row_lives process thread.tid row (found-row _ _ row is_row)); fits = fits })
      (addressed-fits config user part.resources.mounts part.processes process sound.served row.prio (address asked)))))

  call_few : (thread : Thread) (asked : Request) → Gives FewGiven (call config user part thread asked)
  call_few thread asked =
      gives_by (λ (addressed : Addressed). Sender thread.proc.num addressed.target) _ (target_by config user part.resources.mounts part.processes thread asked) _ (target-few thread asked) (λ addressed sender.
      let sent : Sent = record { target = addressed.target; is_asked = false; bytes = bytes_of (content_of asked addressed.rest addressed.to) } in
      gives_done _ _ (few_sent limits part.processes h thread.proc.num sender.process sender.there (all_served thread.proc.num sender.process sender.there) sender.room thread.tid sent sender.fits))

  one_few : (thread : Thread) (change : ThreadRow → ThreadRow) → AreFew limits (with_process thread.proc.num (with_thread thread.tid change) part).processes
  one_few thread change = shrunk limits part all_served h _ (one_shrinks part all_served thread.proc.num thread.tid change)

  reply_few : (thread : Thread) → Gives FewGiven (take_reply part thread)
  reply_few thread =
      gives_on _ (found (thread_at part thread.proc.num thread.tid) WrongState) _ (λ row is.
      gives_on _ (found (answer_in row.state) WrongState) _ (λ given answered. gives_done _ _ (one_few thread ready_thread)))

  prio_few : (ceiling : ℕ) (thread : Thread) (prio : ℕ) → Gives FewGiven (set_prio ceiling part thread prio)
  prio_few ceiling thread prio =
      gives_on _ (found (thread_at part thread.proc.num thread.tid) WrongState) _ (λ row is.
      gives_on _ (may_give ceiling prio) _ (λ allowed is_allowed. gives_done _ _ (one_few thread (ranked_thread prio))))

  interrupt_few : (prio : ℕ) (thread : Thread) (call : ℕ) (doing : State) → FewGiven (interrupt_in prio part thread call doing)
  interrupt_few prio thread call (state.Queued sent) = shrunk limits part all_served h _ (answer_shrinks part all_served thread.proc.num thread.tid sent.target.over (Err EINTR))
  interrupt_few prio thread call (state.Taken sent) = cond_both sent.is_asked _ _ FewGiven (λ asked. h) (λ first. one_few thread asked_thread)
  interrupt_few prio thread call (state.Waiting sent) = cond_both sent.is_asked _ _ FewGiven (λ asked. h) (λ first. one_few thread asked_thread)
  interrupt_few prio thread call _ = h

  pulse_taken-few : (process : ℕ) (first : Option Pulse) → FewGiven (pulse_taken part process first)
  pulse_taken-few process None = h
  pulse_taken-few process (Some first) = h

  given_few : (held : List OwnItem) (e : Step) → Gives FewGiven (client_given config user held part e)
  given_few held (Spawn of_user threads prio) = spawn_few threads prio.0
  given_few held (Exit proc) =
      gives_on _ (found (living (row_at part.processes proc.num)) WrongState) _ (λ process is.
      gives_done _ _ (shrunk limits part all_served h _ (shrink_with part.processes proc.num ended (λ process there. ended_shrinks process (all_served proc.num process there)))))
  given_few held (Call thread asked) = call_few thread asked
  given_few held (TakeReply thread) = reply_few thread
  given_few held (TakePulse proc) = gives_on _ (found (living (row_at part.processes proc.num)) WrongState) _ (λ process is. gives_done _ _ (pulse_taken-few proc.num (first_pulse proc.num part.resources.events)))
  given_few held (SetPrio thread prio) = prio_few (limits_of config user).ceiling thread prio.0
  given_few held (Interrupt thread) = gives_on _ (found (thread_at part thread.proc.num thread.tid) WrongState) _ (λ row is. gives_done _ _ (interrupt_few (limits_of config user).disconnect thread row.calls row.state))
  given_few held (Mount thread path manager) = gives_on _ (mount_by config user part thread path manager) _ (λ mount is. gives_done _ _ h)
  given_few held _ = gives_error _ _

  client_few : (held : List OwnItem) (e : Step) → FewGiven (client config user held part e)
  unfolding client
  client_few held e = unchanged-keeps (λ p. AreFew limits p.processes) part h _ (given_few held e)

-- ---- whatever steps are taken

-- how a user's part stands, in a world of this configuration
pub record StandsFew (config : Configuration) (user : ℕ) (part : Part) : Type 0 where
  pub well : StandsWell part
  pub few : AreFew (limits_of config user) part.processes

served_of : (part : Part) → StandsWell part → AllServed part.processes
served_of part well number process there = (well.clientele.sound number process there).served

pub few_kept : (config : Configuration) → IsKept config (StandsFew config)
few_kept config = record {
  client_step = λ user held part e h. record { well = (well_kept config).client_step user held part e h.well; few = client_few config user part h.well h.few held e };
  taking = λ user part own h. record { well = take_well part own h.well; few = take_few (limits_of config user) part (served_of part h.well) h.few own };
  serving = λ user held part own moment h. record { well = (well_kept config).serving user held part own moment h.well; few = serve_few (limits_of config user) part (served_of part h.well) h.few config user held own moment };
  settling = λ user before held after h. record { well = settle_well before held after h.well; few = settle_few (limits_of config user) before held after h.few };
}

pub few_boot : (config : Configuration) (user : ℕ) → StandsFew config user (boot_part config user)
unfolding boot_part
few_boot config user = record {
  well = well_boot config user;
  few = record {
    numbered = λ number process there. let none : None ≡ Some process = sym (none_there number) ∙ there in absurd (cc);
    connections = λ number process there. let none : None ≡ Some process = sym (none_there number) ∙ there in absurd (cc);
    servers = λ manager. let none = sum_by-cons (server_count manager) None [] in omega (arith, none);
    some = omega arith;
  };
}
