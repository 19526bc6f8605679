-- Processes, as their messages are sent and served: the server connections that each had it has still, and what stands for messages that are not served yet stands.
use Rattle.std.proofs.Common.{◌≡◌, ◌≢◌, inl, inr, ℕ, ◌≤◌, ◌==◌, false, List, [], ◌∷◌, length, refl, sym, ap, ◌∙◌, subst, arith}
use Rattle.std.specs.Prelude.{Option, Some, None, is_none, option_map, slice_set}
use Rattle.std.proofs.Math.ListN.{length-set}
use Rattle.std.proofs.lemmas.Bool.{cases_eq, cond_both}
use Rattle.std.proofs.lemmas.Option.{same_Some}
use Rattle.qx_types.specs.declared.limits.TheConstants.Limits.{FIRST_CONNECTION}
use Rattle.qx_types.specs.declared.names.Coid.{Coid}
use Rattle.qx_types.specs.declared.outcome.Answer.{Answer}
use Rattle.qx_paths.specs.Prefixes.{MountPoint}
use Rattle.qx_machine.specs.declared.rows.Client.{Client}
use Rattle.qx_machine.specs.declared.rows.Connection.{Connection}
use Rattle.qx_machine.specs.declared.rows.Effect.{Effect}
use Rattle.qx_machine.specs.declared.rows.Effect.TheVariants as effect
use Rattle.qx_machine.specs.declared.rows.Over.{Over}
use Rattle.qx_machine.specs.declared.rows.Over.TheVariants.{Existing, New, Side}
use Rattle.qx_machine.specs.declared.rows.Sent.{Sent}
use Rattle.qx_machine.specs.declared.rows.Target.{Target}
use Rattle.qx_machine.specs.declared.rows.ThreadRow.{ThreadRow}
use Rattle.qx_machine.specs.declared.rows.WaitingCall.{WaitingCall}
use Rattle.qx_machine.specs.Functions.{new_coid}
use Rattle.qx_machine.specs.Parts.{Part}
use Rattle.qx_machine.specs.Performing.{with_answer, with_answers}
use Rattle.qx_machine.specs.Processes.{Process, after_effect, after_error, after_reply, answered_thread, ended, has_ended, new_process, queued_thread, with_over, with_queued, with_thread}
use Rattle.qx_isolation.specs.Rows.{put_row, row_at, with_row}
use Rattle.qx_isolation.proofs.Places.{row_at-set_other}
use Rattle.qx_attr.proofs.TableLemmas.{longer_put, row-put}
use Rattle.qx_iofunc.proofs.PlaceLemmas.{put_at}
use Rattle.qx_invariants.specs.Holds.{IsServer}
use Rattle.qx_invariants.proofs.Balances.{same_threads}
use Rattle.qx_invariants.proofs.Numbers.{AreFromFirst, changed_numbered, closed_numbered, none_numbered}
use Rattle.qx_invariants.proofs.Once.{over_changes}
use Rattle.qx_invariants.proofs.Rows.{put_other, with_row-at, with_row-other, with_row-was}
use Rattle.qx_invariants.proofs.Sending.{IsAddressed, IsFree, IsQuiet, Quietens, Sends, Silences, connection_quiet, lowest_few, new_sends, quiet_sends, sending_sends, target_in, target_of, thread_quiet, unopened_at}
use Rattle.qx_invariants.proofs.Served.{IsServed, KeepsServers, IsResettled, effect_resettled, ended_resettled, new_served, over_resettled, resettled_keeps, resettled_served, thread_resettled}

-- ---- processes

-- a process, as it stands beside its user's mounts
pub record IsSound (mounts : List MountPoint) (process : Process) : Type 0 where
  pub served : IsServed process
  pub sends : Sends mounts process
  -- numbers of connections begin with the first, unless it has ended
  pub room : has_ended process ≡ false → FIRST_CONNECTION ≤ length process.connections
  -- none is numbered below the first
  pub numbered : AreFromFirst process.connections

abbrev pub AllSound : List MountPoint → List (Option Process) → Type 0
AllSound mounts processes = (number : ℕ) (process : Process) → row_at processes number ≡ Some process → IsSound mounts process

-- each is there still, with the server connections that it had
abbrev pub AllStay : List (Option Process) → List (Option Process) → Type 0
AllStay processes now = (number : ℕ) (process : Process) → row_at processes number ≡ Some process → (after : Process) × (row_at now number ≡ Some after) × KeepsServers process after

pub record Continues (mounts : List MountPoint) (processes now : List (Option Process)) : Type 0 where
  pub stay : AllStay processes now
  pub sound : AllSound mounts now

pub server_stays : (processes now : List (Option Process)) → AllStay processes now → (client : Client) → IsServer processes client → IsServer now client
server_stays processes now stay client is =
    let after = stay client.process is.process is.there in
    record { process = after.0; there = after.1; server = after.2 client.server.manager client.server.number is.server }

-- the tables of connections are as long as before
opened_long : (connections : List (Option Connection)) (coid block : ℕ) → length connections ≤ length (with_row connections coid (λ connection. record connection { block = Some block }))
opened_long connections coid block = let same = length-set connections coid (option_map {T = Connection} (λ connection. record connection { block = Some block }) (row_at connections coid)) in omega (arith, same)

closed_long : (connections : List (Option Connection)) (coid : ℕ) → length connections ≤ length (slice_set connections coid None)
closed_long connections coid = let same = length-set connections coid None in omega (arith, same)

module _ (mounts : List MountPoint) where
  pub same_continues : (processes : List (Option Process)) → AllSound mounts processes → Continues mounts processes processes
  same_continues processes sound = record { stay = λ number process there. (process, there, λ manager server is. is); sound = sound }

  pub continues_then : (processes mid now : List (Option Process)) → Continues mounts processes mid → Continues mounts mid now → Continues mounts processes now
  continues_then processes mid now first second = record {
    stay = λ number process there.
        let one = first.stay number process there in
        let two = second.stay number one.0 one.1 in
        (two.0, two.1, λ manager server is. two.2 manager server (one.2 manager server is));
    sound = second.sound;
  }

  -- one of them changes
  pub continues_with : (processes : List (Option Process)) → AllSound mounts processes → (number : ℕ) (f : Process → Process) → ((process : Process) → row_at processes number ≡ Some process → KeepsServers process (f process) × IsSound mounts (f process)) → Continues mounts processes (with_row processes number f)
  continues_with processes sound number f changes = record {
    stay = λ n process there. elim (cases_eq n number) [
      | inl same ↦
          let its : row_at processes number ≡ Some process = ap (row_at processes) (sym same) ∙ there in
          (f process, ap (row_at (with_row processes number f)) same ∙ (with_row-at processes number f ∙ ap (option_map f) its), (changes process its).0)
      | inr apart ↦ (process, with_row-other processes number f n apart ∙ there, λ manager server is. is)
    ];
    sound = λ n after there. let was = with_row-was processes number f n after there in elim was.2 [
      | inl stays ↦ subst (IsSound mounts) stays.1 (sound n was.0 was.1)
      | inr is ↦ subst (IsSound mounts) is.1 (changes was.0 (ap (row_at processes) (sym is.0) ∙ was.1)).1
    ];
  }

  -- ---- one thread changes

  same_room : (process now : Process) → length now.threads ≡ length process.threads → length process.connections ≤ length now.connections → IsSound mounts process → has_ended now ≡ false → FIRST_CONNECTION ≤ length now.connections
  same_room process now threads longer h lives = let room = h.room (ap (λ n. n == 0) (sym threads) ∙ lives) in omega (arith, room, longer)

  pub thread_sound : (process : Process) (thread : ℕ) (change : ThreadRow → ThreadRow) → Quietens change → IsSound mounts process → IsSound mounts (with_thread thread change process)
  thread_sound process thread change quietens h = record {
    served = resettled_served process (with_thread thread change process) (thread_resettled process h.served thread change) h.served;
    sends = quiet_sends mounts process (with_thread thread change process) (thread_quiet process (with_thread thread change process) thread change refl refl quietens) h.sends;
    room = same_room process (with_thread thread change process) (same_threads thread change (with_thread thread change) (λ row. refl) process) (omega arith) h;
    numbered = h.numbered;
  }

  -- a thread of one of them changes
  pub thread_continues : (processes : List (Option Process)) → AllSound mounts processes → (number thread : ℕ) (change : ThreadRow → ThreadRow) → Quietens change → Continues mounts processes (with_row processes number (with_thread thread change))
  thread_continues processes sound number thread change quietens =
      continues_with processes sound number (with_thread thread change) (λ process there. (λ manager server is. is, thread_sound process thread change quietens (sound number process there)))

  answered_quietens : (given : Answer) → Quietens (answered_thread given)
  answered_quietens given row target is = absurd (cc)

  pub answers_continue : (answers : List (WaitingCall × Answer)) (part : Part) → AllSound mounts part.processes → Continues mounts part.processes (with_answers answers part).processes
  answers_continue [] part sound = same_continues part.processes sound
  answers_continue ((call, given) ∷ answers) part sound =
      let first = thread_continues part.processes sound call.process call.thread (answered_thread given) (answered_quietens given) in
      continues_then part.processes (with_answer (call, given) part).processes (with_answers answers (with_answer (call, given) part)).processes first (answers_continue answers (with_answer (call, given) part) first.sound)

  -- ---- a message is served

  -- what becomes of a connection: its own new one is opened, or one goes that had something open
  abbrev pub FitsEffect : Process → Target → Effect → Type 0
  FitsEffect process target effect.Keeps = Unit {0}
  FitsEffect process target (effect.Opens coid number) = new_coid target.over ≡ Some coid
  FitsEffect process target (effect.Closes coid) = (connection : Connection) × (block : ℕ) × (row_at process.connections coid.0 ≡ Some connection) × (connection.block ≡ Some block)

  module _ (process : Process) (h : IsSound mounts process) (thread : ℕ) (target : Target) (is_its : target_of thread process ≡ Some target) (change : ThreadRow → ThreadRow) (silences : Silences change) where
    quietens : Quietens change
    quietens row other is = let clash : None ≡ Some other = sym (silences row) ∙ is in absurd (cc)

    -- another message's connection is not its own
    not_own : (coid : Coid) → new_coid target.over ≡ Some coid → (t : ℕ) (other : Target) → t ≢ thread → target_of t process ≡ Some other → (its : Coid) → new_coid other.over ≡ Some its → its.0 ≢ coid.0
    not_own coid over t other apart is its also = λ same. apart (h.sends.apart t thread other target is is_its coid (also ∙ (λ i. Some (record { 0 = same i }))) over)

    -- nor one that has something open
    not_opened : (coid : Coid) (connection : Connection) (block : ℕ) → row_at process.connections coid.0 ≡ Some connection → connection.block ≡ Some block → (t : ℕ) (other : Target) → t ≢ thread → target_of t process ≡ Some other → (its : Coid) → new_coid other.over ≡ Some its → its.0 ≢ coid.0
    not_opened coid connection block there has t other apart is its over = λ same.
        let alike : connection ≡ unopened_at other = same_Some _ _ (sym there ∙ (ap (row_at process.connections) (sym same) ∙ h.sends.connected t other is its over)) in
        let clash : Some block ≡ None = sym has ∙ ap (λ (c : Connection). c.block) alike in
        absurd (cc)

    sound_by : (now : Process) → KeepsServers process now × IsServed now → now.threads ≡ with_row process.threads thread change → length process.connections ≤ length now.connections → AreFromFirst now.connections → IsQuiet process now → KeepsServers process now × IsSound mounts now
    sound_by now servers threads longer numbered quiet = (
      servers.0,
      record {
        served = servers.1;
        sends = quiet_sends mounts process now quiet h.sends;
        room = same_room process now (ap (λ (rows : List (Option ThreadRow)). length rows) threads ∙ length-set process.threads thread _) longer h;
        numbered = numbered;
      },
    )

    resettled : (now : Process) → IsResettled process now → KeepsServers process now × IsServed now
    resettled now again = (resettled_keeps process now again, resettled_served process now again h.served)

    -- its connections are the same
    unchanged_sound : (now : Process) → IsResettled process now → now.threads ≡ with_row process.threads thread change → now.connections ≡ process.connections → KeepsServers process now × IsSound mounts now
    unchanged_sound now again threads connections =
        sound_by now (resettled now again) threads (let same = ap (λ (rows : List (Option Connection)). length rows) connections in omega (arith, same)) (subst AreFromFirst (sym connections) h.numbered) (thread_quiet process now thread change threads connections quietens)

    effect_sound : (given : Effect) → FitsEffect process target given → KeepsServers process (after_effect given (with_thread thread change process)) × IsSound mounts (after_effect given (with_thread thread change process))
    effect_sound effect.Keeps fits = unchanged_sound (with_thread thread change process) (thread_resettled process h.served thread change) refl refl
    effect_sound (effect.Opens coid number) fits =
        let now : Process = after_effect (effect.Opens coid number) (with_thread thread change process) in
        sound_by now (resettled now (effect_resettled process h.served thread change (effect.Opens coid number))) refl (opened_long process.connections coid.0 number) (changed_numbered process.connections coid.0 _ h.numbered)
        (connection_quiet process now thread change refl silences coid.0 (with_row-other process.connections coid.0 _) (not_own coid fits))
    effect_sound (effect.Closes coid) fits =
        let now : Process = after_effect (effect.Closes coid) (with_thread thread change process) in
        sound_by now (resettled now (effect_resettled process h.served thread change (effect.Closes coid))) refl (closed_long process.connections coid.0) (closed_numbered process.connections coid.0 h.numbered)
        (connection_quiet process now thread change refl silences coid.0 (λ m apart. row_at-set_other process.connections coid.0 m None apart) (not_opened coid fits.0 fits.1 fits.2 fits.3))

    pub reply_sound : (over : Over) (given : Effect) → FitsEffect process target given → KeepsServers process (after_reply thread over given (with_thread thread change process)) × IsSound mounts (after_reply thread over given (with_thread thread change process))
    reply_sound (New coid) given fits = effect_sound given fits
    reply_sound (Existing coid) given fits = effect_sound given fits
    reply_sound Side given fits = unchanged_sound (after_reply thread Side given (with_thread thread change process)) refl refl refl

    pub error_sound : (over : Over) → target.over ≡ over → KeepsServers process (after_error thread over (with_thread thread change process)) × IsSound mounts (after_error thread over (with_thread thread change process))
    error_sound (New coid) is =
        let now : Process = after_error thread (New coid) (with_thread thread change process) in
        sound_by now (resettled now refl) refl (closed_long process.connections coid.0) (closed_numbered process.connections coid.0 h.numbered)
        (connection_quiet process now thread change refl silences coid.0 (λ m apart. row_at-set_other process.connections coid.0 m None apart) (not_own coid (ap new_coid is)))
    error_sound (Existing coid) is = unchanged_sound (with_thread thread change process) (thread_resettled process h.served thread change) refl refl
    error_sound Side is = unchanged_sound (after_error thread Side (with_thread thread change process)) refl refl refl

  -- ---- a message is sent

  module _ (process : Process) (h : IsSound mounts process) (lives : has_ended process ≡ false) (thread : ℕ) (row : ThreadRow) (there : row_at process.threads thread ≡ Some row) (idle : target_in row.state ≡ None) (sent : Sent) (at : IsAddressed mounts process sent.target) where
    abbrev sending : Over → Process
    sending over = with_over thread sent.target.manager over (with_thread thread (queued_thread sent) process)

    -- what is attached is a new connection, or no connection
    record Attaches (over : Over) : Type 0 where
      longer : length process.connections ≤ length (sending over).connections
      others : (m : ℕ) → ((coid : Coid) → new_coid over ≡ Some coid → m ≢ coid.0) → row_at (sending over).connections m ≡ row_at process.connections m
      own : (coid : Coid) → new_coid over ≡ Some coid → row_at (sending over).connections coid.0 ≡ Some (unopened_at sent.target)

    none_attached : (over : Over) → new_coid over ≡ None → (sending over).connections ≡ process.connections → Attaches over
    none_attached over none same = record {
      longer = let long = ap (λ (rows : List (Option Connection)). length rows) same in omega (arith, long);
      others = λ m apart. ap (λ rows. row_at rows m) same;
      own = λ coid is. let clash : None ≡ Some coid = sym none ∙ is in absurd (cc);
    }

    attaches : (over : Over) → ((coid : Coid) → new_coid over ≡ Some coid → coid.0 ≤ length process.connections) → Attaches over
    attaches (New coid) within = record {
      longer = longer_put process.connections coid.0 (unopened_at sent.target);
      others = λ m apart. put_other process.connections coid.0 (unopened_at sent.target) (within coid refl) m (apart coid refl);
      own = λ other is. subst (λ (c : Coid). row_at (sending (New coid)).connections c.0 ≡ Some (unopened_at sent.target)) (same_Some _ _ is) (put_at process.connections coid.0 (unopened_at sent.target) (within coid refl));
    }
    attaches (Existing coid) within = none_attached (Existing coid) refl refl
    attaches Side within = none_attached Side refl (cond_both {A = Process} (is_none (row_at process.sides thread)) _ _ (λ now. now.connections ≡ process.connections) (λ none. refl) (λ some. refl))

    attached_numbered : (over : Over) → Attaches over → ((coid : Coid) → new_coid over ≡ Some coid → IsFree process coid.0) → AreFromFirst (sending over).connections
    attached_numbered over attached free m connection is = by (new_coid over) refl
      where
        by : (own : Option Coid) → new_coid over ≡ own → FIRST_CONNECTION ≤ m
        by None none = h.numbered m connection (sym (attached.others m (λ coid its. let clash : None ≡ Some coid = sym none ∙ its in absurd (cc))) ∙ is)
        by (Some coid) own = elim (cases_eq m coid.0) [
          | inl same ↦ let lowest = free coid own in omega (arith, same, lowest)
          | inr apart ↦ h.numbered m connection (sym (attached.others m (λ other its same. apart (same ∙ ap (λ (c : Coid). c.0) (same_Some _ _ (sym its ∙ own))))) ∙ is)
        ]

    pub queued_sound : KeepsServers process (with_queued thread sent process) × IsSound mounts (with_queued thread sent process)
    queued_sound =
        let now : Process = with_queued thread sent process in
        let few : (coid : Coid) → new_coid sent.target.over ≡ Some coid → coid.0 ≤ length process.connections = λ coid is.
        let free = at.free coid is in let lowest = lowest_few FIRST_CONNECTION process.connections (h.room lives) in omega (arith, free, lowest) in
        let attached = attaches sent.target.over few in
        let again : IsResettled process now = over_resettled process h.served thread (queued_thread sent) sent.target.over sent.target.manager in
        let threads : now.threads ≡ with_row process.threads thread (queued_thread sent) = over_changes thread (queued_thread sent) sent.target.over sent.target.manager process in (
          resettled_keeps process now again,
          record {
            served = resettled_served process now again h.served;
            sends = sending_sends mounts process h.sends (h.room lives) thread row there idle sent at now threads attached.others attached.own;
            room = same_room process now (ap (λ (rows : List (Option ThreadRow)). length rows) threads ∙ length-set process.threads thread _) attached.longer h;
            numbered = attached_numbered sent.target.over attached at.free;
          },
        )

  -- ---- a process comes, and ends

  pub new_sound : (threads prio : ℕ) → IsSound mounts (new_process threads prio)
  new_sound threads prio = record { served = new_served threads prio; sends = new_sends mounts threads prio; room = λ lives. omega arith; numbered = none_numbered }

  pub spawn_continues : (processes : List (Option Process)) → AllSound mounts processes → (number threads prio : ℕ) → row_at processes number ≡ None → Continues mounts processes (put_row processes number (new_process threads prio))
  spawn_continues processes sound number threads prio free = record {
    stay = λ n process there. (process, stays n process there, λ manager server is. is);
    sound = λ n now there. elim (row-put processes number (new_process threads prio) free n) [
      | inl same ↦ sound n now (sym same ∙ there)
      | inr new ↦ subst (IsSound mounts) (same_Some _ _ (sym new.0 ∙ there)) (new_sound threads prio)
    ];
  }
    where
      stays : (n : ℕ) (process : Process) → row_at processes n ≡ Some process → row_at (put_row processes number (new_process threads prio)) n ≡ Some process
      stays n process there = elim (row-put processes number (new_process threads prio) free n) [
        | inl same ↦ same ∙ there
        | inr new ↦ let clash : None ≡ Some process = sym new.1 ∙ there in absurd (cc)
      ]

  pub ended_sound : (process : Process) → IsSound mounts process → KeepsServers process (ended process) × IsSound mounts (ended process)
  ended_sound process h = (
    resettled_keeps process (ended process) (ended_resettled process),
    record {
      served = resettled_served process (ended process) (ended_resettled process) h.served;
      sends = quiet_sends mounts process (ended process) (record { was = λ t target is. absurd (cc); same = λ t target is. absurd (cc) }) h.sends;
      room = λ lives. absurd (cc);
      numbered = λ coid connection there. let clash : None ≡ Some connection = there in absurd (cc);
    },
  )
