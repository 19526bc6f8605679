-- What steps do to a user's resources and to every user's part: a property that each change which may happen keeps, each step keeps in every user's part, and so each run.
use Rattle.std.proofs.Common.{◌≡◌, ◌<◌, ℕ, List, [], ◌∷◌, Bool, true, false, ap, length, refl, sym, subst, inl, inr, zero, suc, ◌+◌, ◌∙◌, arith}
use Rattle.std.specs.Prelude.{Result, Ok, Err, Option, Some, None, nat_lt, if◌then◌else◌}
use Rattle.std.specs.List.{list_any}
use Rattle.std.proofs.lemmas.Bool.{cond_both, cases_eq, ltb-true}
use Rattle.qx_types.specs.Configuration.{Configuration, limits_of, name_bytes}
use Rattle.qx_base.specs.declared.errno.Errno.{Errno}
use Rattle.qx_base.specs.declared.errno.Errno.TheVariants.{EACCES, EEXIST, ENOSPC}
use Rattle.qx_types.specs.declared.names.Manager.{Manager}
use Rattle.qx_types.specs.declared.names.Thread.{Thread}
use Rattle.qx_types.specs.declared.outcome.Answer.{Answer}
use Rattle.qx_types.specs.declared.outcome.Outcome.{Outcome}
use Rattle.qx_types.specs.declared.outcome.Outcome.TheVariants.{WrongState}
use Rattle.qx_types.specs.declared.step.Step.{Step}
use Rattle.qx_types.specs.declared.step.Step.TheVariants.{Spawn, Exit, Call, TakeReply, TakePulse, SetPrio, Interrupt, Mount}
use Rattle.qx_wire.specs.declared.message.Meaning.{Meaning}
use Rattle.qx_wire.specs.declared.message.Meaning.TheVariants.{Known, Unknown, Malformed}
use Rattle.qx_wire.specs.Reading.{meaning}
use Rattle.qx_paths.specs.Mounts.{mount_fault}
use Rattle.qx_paths.specs.Paths.{read_path, unless}
use Rattle.qx_paths.specs.Prefixes.{MountPoint, is_at, is_under}
use Rattle.qx_machine.specs.declared.rows.Caller.{Caller}
use Rattle.qx_isolation.specs.declared.rows.OwnItem.{OwnItem}
use Rattle.qx_machine.specs.declared.rows.Pulse.{Pulse}
use Rattle.qx_machine.specs.declared.rows.Over.{Over}
use Rattle.qx_machine.specs.declared.rows.State.{State}
use Rattle.qx_machine.specs.declared.rows.Target.{Target}
use Rattle.qx_machine.specs.declared.rows.WaitingCall.{WaitingCall}
use Rattle.qx_machine.specs.Clients.{ClientStep, client_given, interrupt_in, mount, mount_by, or_unchanged, pulse_taken, without_process}
use Rattle.qx_machine.specs.Events.{first_pulse, without_first_pulse, without_pulses}
use Rattle.qx_machine.specs.Functions.{Deed}
use Rattle.qx_machine.specs.Inodes.{blocks_of_client, inode_number}
use Rattle.qx_isolation.specs.Judgements.{found, need, or_refused}
use Rattle.qx_machine.specs.Managers.{close_client}
use Rattle.qx_machine.specs.Mounting.{new_mount}
use Rattle.qx_machine.specs.Notification.{block_conditions, events_settled}
use Rattle.qx_machine.specs.Parts.{Part, thread_at, Change as LineChange}
use Rattle.qx_machine.specs.Performing.{Served, after_answer, context_of, deed_of, or_kept, read_message, serve_disconnect, serve_message, serve_pulse, taken_in, with_answers}
use Rattle.qx_machine.specs.PipeManager.{cancel_call}
use Rattle.qx_machine.specs.Processes.{Process, living}
use Rattle.qx_machine.specs.Resources.{Resources}
use Rattle.qx_isolation.specs.Rows.{row_at}
use Rattle.qx_machine.specs.Settling.{is_living}
use Rattle.qx_machine.specs.Users.{client, serve, take, boot_part, settle_part}
use Rattle.qx_invariants.specs.Changes.{Abandons, ResourceChange, MayHappen, Mounts, Notifies, with_change}
use Rattle.qx_invariants.proofs.Deeds.{Kept, NamesComponents, cancel-gives, close_all-closed, manager-gives}
use Rattle.qx_invariants.proofs.Events.{ended-kept, taken-kept, triggered-kept}
use Rattle.qx_machine.proofs.Gives.{Gives, gives_by, gives_done, gives_error, gives_more, gives_on, gives-value}
use Rattle.qx_invariants.proofs.Messages.{meaning-components}
use Rattle.qx_invariants.proofs.Told.{Told, nothing, told_by}
use Rattle.std.proofs.lemmas.Option.{same_Some}
use Rattle.qx_types.specs.Step.{actor_of, user_of}
use Rattle.qx_types.specs.declared.names.Actor.{Actor}
use Rattle.qx_isolation.specs.declared.rows.Held.{Held}
use Rattle.qx_machine.specs.declared.rows.Client.{Client}
use Rattle.qx_machine.specs.Machine.{World, boot, boot_parts, client_step, own_held, performed_part, received_part, server_step, step, step_end, step_of, with_empty_hand, with_taken}
use Rattle.qx_isolation.specs.System as system
use Rattle.qx_machine.specs.Runs.{run, world_after}
use Rattle.qx_isolation.proofs.Places.{row_at-set_cases, row_at-set_other}
use Rattle.qx_isolation.proofs.Workers.{server_leaves}
use Rattle.qx_isolation.specs.declared.rows.OwnItem.TheVariants as item
use Rattle.qx_machine.specs.declared.rows.State.TheVariants as state

pub answers-resources : (answers : List (WaitingCall × Answer)) (part : Part) → (with_answers answers part).resources ≡ part.resources
answers-resources [] part = refl
answers-resources ((waiting, given) ∷ answers) part = answers-resources answers _

read-components : (bytes : List ℕ) (given : Meaning) → meaning bytes ≡ given → Gives NamesComponents (read_message given)
read-components bytes (Known message) is = gives_done _ _ (meaning-components bytes message is)
read-components bytes Unknown is = gives_error _ _
read-components bytes Malformed is = gives_error _ _

-- what a property of the resources and of what was told is after a deed
pub deed_kept : (K : Resources → Told → Type 0) (keeps : (change : ResourceChange) (r : Resources) (told : Told) → MayHappen change r → K r told → K (with_change change r) (told_by change told)) (r : Resources) → K r nothing
    → (process : Process) (caller : Caller) (target : Target) (moment : ℕ) (bytes : List ℕ)
    → Gives (Kept K keeps r (context_of process caller target moment (meaning bytes))) (deed_of r (context_of process caller target moment (meaning bytes)) (meaning bytes))
deed_kept K keeps r h process caller target moment bytes =
    gives_by NamesComponents _ (read_message (meaning bytes)) _ (read-components bytes (meaning bytes) refl)
    (λ message names. manager-gives K keeps r (context_of process caller target moment (meaning bytes)) h target.manager refl message names)

-- ---- a mount

-- a mount comes where there may be one more
abbrev MayMount : Resources → MountPoint → Type 0
MayMount r mount = MayHappen (Mounts mount) r

fewer_mounts : (most : ℕ) (mounts : List MountPoint) (names free : List (List ℕ)) → unless (mount_fault most mounts names) names ≡ Ok free → length mounts < most
fewer_mounts most mounts names free is = by (list_any (is_at names) mounts) (nat_lt (length mounts) most) refl is
  where
    by : (there few : Bool) → nat_lt (length mounts) most ≡ few → unless (if there then Some EEXIST else if few then None else Some ENOSPC) names ≡ Ok free → length mounts < most
    by true few same given = absurd (cc)
    by false true same given = ltb-true (length mounts) most same
    by false false same given = absurd (cc)

refused-gives : (r : Resources) (given : Result MountPoint Errno) → Gives (MayMount r) given → Gives (MayMount r) (or_refused given)
refused-gives r (Ok mount) h = gives_done _ _ (gives-value _ (Ok mount) mount refl h)
refused-gives r (Err error) h = gives_error _ _

new_mount-gives : (name path : List ℕ) (manager : Manager) (r : Resources) → Gives (MayMount r) (new_mount name path manager r)
new_mount-gives name path manager r =
    gives_on _ (read_path path) _ (λ names is_path.
    gives_on _ (need (is_under name names) EACCES) _ (λ own is_own.
    gives_on _ (unless (mount_fault r.limits.mounts r.mounts names) names) _ (λ free is_free.
    gives_on _ (inode_number r.inodes) _ (λ root is. gives_done _ _ (is, fewer_mounts r.limits.mounts r.mounts names free is_free)))))

pub mount_by-gives : (config : Configuration) (user : ℕ) (part : Part) (thread : Thread) (path : List ℕ) (manager : Manager) → Gives (MayMount part.resources) (mount_by config user part thread path manager)
mount_by-gives config user part thread path manager =
    gives_on _ (found (thread_at part thread.proc.num thread.tid) WrongState) _ (λ row is_row.
    gives_on _ (need _ WrongState) _ (λ ready is_one. refused-gives part.resources _ (new_mount-gives (name_bytes config user) path manager part.resources)))

-- what holds of a part that was given holds of what is kept where none was
pub kept-keeps : (P : Part → Type 0) (part : Part) → P part → (given : Result Served Outcome) → Gives (λ (served : Served). P served.part) given → P (or_kept part given).part
kept-keeps P part h (Ok served) kept = gives-value (λ (served : Served). P served.part) (Ok served) served refl kept
kept-keeps P part h (Err outcome) kept = h

pub unchanged-keeps : (P : Part → Type 0) (part : Part) → P part → (given : Result ClientStep Outcome) → Gives (λ (given : ClientStep). P given.part) given → P (or_unchanged part given).part
unchanged-keeps P part h (Ok given) kept = gives-value (λ (given : ClientStep). P given.part) (Ok given) given refl kept
unchanged-keeps P part h (Err outcome) kept = h

module _ (K : Resources → Type 0) (keeps : (change : ResourceChange) (r : Resources) → MayHappen change r → K r → K (with_change change r)) where
  abbrev Keeps : Part → Type 0
  Keeps part = K part.resources

  -- ---- what a worker does

  deed-gives : (r : Resources) → K r → (process : Process) (caller : Caller) (target : Target) (moment : ℕ) (bytes : List ℕ) → Gives (λ (deed : Deed Resources). K deed.state) (deed_of r (context_of process caller target moment (meaning bytes)) (meaning bytes))
  deed-gives r h process caller target moment bytes =
      gives_more _ (λ (deed : Deed Resources). K deed.state) _ (λ deed kept. kept.kept) (deed_kept (λ r told. K r) (λ change r told. keeps change r) r h process caller target moment bytes)

  answer-keeps : (part : Part) (process thread : ℕ) (over : Over) (given : Result (Deed Resources) Errno) → Keeps part → Gives (λ (deed : Deed Resources). K deed.state) given → Keeps (after_answer part process thread over given)
  answer-keeps part process thread over (Ok deed) h kept = subst K (sym (answers-resources deed.answers _)) (gives-value (λ (deed : Deed Resources). K deed.state) (Ok deed) deed refl kept)
  answer-keeps part process thread over (Err error) h kept = h

  message-gives : (part : Part) → Keeps part → (prio number thread moment : ℕ) → Gives (λ (served : Served). Keeps served.part) (serve_message prio part number thread moment)
  message-gives part h prio number thread moment =
      gives_on _ (found (row_at part.processes number) WrongState) _ (λ process is_process.
      gives_on _ (found (row_at process.threads thread) WrongState) _ (λ row is_row.
      gives_on _ (found (taken_in row.state) WrongState) _ (λ sent is_sent.
      gives_done _ _ (answer-keeps part _ _ _ _ h (deed-gives part.resources h process _ sent.target moment sent.bytes)))))

  pulse-gives : (part : Part) → Keeps part → (process thread number moment : ℕ) → Gives (λ (served : Served). Keeps served.part) (serve_pulse part process thread number moment)
  pulse-gives part h process thread number moment =
      gives_by (λ (deed : Deed Resources). K deed.state) _ (cancel_call part.resources process thread number moment) _ (cancel-gives (λ r told. K r) (λ change r told. keeps change r) part.resources h process thread number moment) (λ deed kept.
      gives_done _ _ (subst K (sym (answers-resources deed.answers _)) kept))

  disconnect-gives : (part : Part) → Keeps part → (client : Client) (moment : ℕ) → Gives (λ (served : Served). Keeps served.part) (serve_disconnect part client moment)
  disconnect-gives part h client moment =
      gives_on _ (found (row_at part.processes client.process) WrongState) _ (λ row is.
      gives_done _ _ (subst K (sym (answers-resources (close_client part.resources client moment).answers _))
      (close_all-closed (λ r told. K r) (λ change r told. keeps change r) client.server.manager moment (blocks_of_client part.resources.inodes client) [] [] part.resources h).kept))

  pub serve-keeps : (config : Configuration) (user : ℕ) (held : List OwnItem) (part : Part) (own : OwnItem) (moment : ℕ) → Keeps part → Keeps (serve config user held part own moment).part
  unfolding serve
  serve-keeps config user held part (item.Message process thread) moment h = kept-keeps Keeps part h _ (message-gives part h (limits_of config user).disconnect process thread moment)
  serve-keeps config user held part (item.Unblock process thread number) moment h = kept-keeps Keeps part h _ (pulse-gives part h process thread number moment)
  serve-keeps config user held part (item.Disconnect process server) moment h = kept-keeps Keeps part h _ (disconnect-gives part h (record { process = process; server = server }) moment)

  pub take-keeps : (part : Part) (own : OwnItem) → Keeps part → Keeps (take part own)
  unfolding take
  take-keeps part (item.Message process thread) h = h
  take-keeps part (item.Unblock process thread number) h = h
  take-keeps part (item.Disconnect process server) h = h

  -- ---- what the end of a step settles

  pub settle-keeps : (before : Part) (held : List OwnItem) (after : Part) → Keeps after → Keeps (settle_part before held after)
  unfolding settle_part
  settle-keeps before held after h =
      let lives = is_living after.processes in
      keeps (Notifies (events_settled lives before.resources after.resources)) after.resources (triggered-kept lives (block_conditions before.resources) (block_conditions after.resources) after.resources.events after.resources.limits.events) h

  -- ---- what a client does

  abbrev Gave : ClientStep → Type 0
  Gave given = Keeps given.part

  interrupt-keeps : (prio : ℕ) (part : Part) (thread : Thread) (number : ℕ) (doing : State) → Keeps part → Gave (interrupt_in prio part thread number doing)
  interrupt-keeps prio part thread number (state.Queued sent) h = h
  interrupt-keeps prio part thread number (state.Taken sent) h = cond_both sent.is_asked _ _ Gave (λ is. h) (λ is. h)
  interrupt-keeps prio part thread number (state.Waiting sent) h = cond_both sent.is_asked _ _ Gave (λ is. h) (λ is. h)
  interrupt-keeps prio part thread number _ h = h

  pulse-keeps : (part : Part) (process : ℕ) (first : Option Pulse) → Keeps part → Gave (pulse_taken part process first)
  pulse-keeps part process None h = h
  pulse-keeps part process (Some first) h = keeps (Notifies (without_first_pulse process part.resources.events)) part.resources (taken-kept part.resources.limits.events process part.resources.events) h

  exit-keeps : (part : Part) (process : ℕ) → Keeps part → K (without_process process part.resources)
  exit-keeps part process h =
      keeps (Notifies (without_pulses process part.resources.events)) (with_change (Abandons process) part.resources) (ended-kept part.resources.limits.events process part.resources.events) (keeps (Abandons process) part.resources tt h)

  mount-gives : (config : Configuration) (user : ℕ) (part : Part) (thread : Thread) (path : List ℕ) (manager : Manager) → Keeps part → Gives Gave (mount config user part thread path manager)
  mount-gives config user part thread path manager h =
      gives_by (MayMount part.resources) _ (mount_by config user part thread path manager) _ (mount_by-gives config user part thread path manager)
      (λ mount is. gives_done _ _ (keeps (Mounts mount) part.resources is h))

  client-gives : (config : Configuration) (user : ℕ) (held : List OwnItem) (part : Part) (e : Step) → Keeps part → Gives Gave (client_given config user held part e)
  client-gives config user held part (Spawn of_user threads prio) h = search (gives_on, gives_done, h)
  client-gives config user held part (Call thread request) h = search (gives_on, gives_done, h)
  client-gives config user held part (TakeReply thread) h = search (gives_on, gives_done, h)
  client-gives config user held part (Exit proc) h = gives_on _ (found (living (row_at part.processes proc.num)) WrongState) _ (λ process is. gives_done _ _ (exit-keeps part proc.num h))
  client-gives config user held part (TakePulse proc) h = gives_on _ (found (living (row_at part.processes proc.num)) WrongState) _ (λ process is. gives_done _ _ (pulse-keeps part proc.num (first_pulse proc.num part.resources.events) h))
  client-gives config user held part (SetPrio thread prio) h = search (gives_on, gives_done, h)
  client-gives config user held part (Interrupt thread) h = gives_on _ (found (thread_at part thread.proc.num thread.tid) WrongState) _ (λ row is. gives_done _ _ (interrupt-keeps (limits_of config user).disconnect part thread row.calls row.state h))
  client-gives config user held part (Mount thread path manager) h = mount-gives config user part thread path manager h
  client-gives config user held part _ h = gives_error _ _

  pub client-keeps : (config : Configuration) (user : ℕ) (held : List OwnItem) (part : Part) (e : Step) → Keeps part → Gave (client config user held part e)
  unfolding client
  client-keeps config user held part e h = unchanged-keeps Keeps part h _ (client-gives config user held part e h)

-- ---- every user's part

-- each way to change a user's part keeps the property, in a world of this configuration
pub record IsKept (config : Configuration) (P : ℕ → Part → Type 0) : Type 0 where
  pub client_step : (user : ℕ) (held : List OwnItem) (part : Part) (e : Step) → P user part → P user (client config user held part e).part
  pub taking : (user : ℕ) (part : Part) (own : OwnItem) → P user part → P user (take part own)
  pub serving : (user : ℕ) (held : List OwnItem) (part : Part) (own : OwnItem) (moment : ℕ) → P user part → P user (serve config user held part own moment).part
  pub settling : (user : ℕ) (before : Part) (held : List OwnItem) (after : Part) → P user after → P user (settle_part before held after)

module _ (config : Configuration) (P : ℕ → Part → Type 0) (starts : (user : ℕ) → P user (boot_part config user)) where
  boot-parts-hold : (first : ℕ) (names : List (List ℕ)) (place : ℕ) (part : Part) → row_at (boot_parts config first names) place ≡ Some part → P (first + place) part
  boot-parts-hold first [] place part there = absurd (cc)
  boot-parts-hold first (name ∷ names) zero part there =
      subst (λ user. P user part) (omega arith) (subst (P first) (same_Some _ _ there) (starts first))
  boot-parts-hold first (name ∷ names) (suc place) part there =
      subst (λ user. P user part) (omega arith) (boot-parts-hold (first + 1) names place part there)

  -- each user's part has it at boot
  pub boot-each : (user : ℕ) (part : Part) → row_at (boot config).parts user ≡ Some part → P user part
  unfolding system.boot
  boot-each zero part there = absurd (cc)
  boot-each (suc place) part there = subst (λ user. P user part) (omega arith) (boot-parts-hold 1 config.users place part there)

module _ (config : Configuration) (P : ℕ → Part → Type 0) (keeps : IsKept config P) where
  -- each user's part has it
  pub record HoldsIn (w : World) : Type 0 where
    pub configured : w.config ≡ config
    pub each : (user : ℕ) (part : Part) → row_at w.parts user ≡ Some part → P user part

  end-holds : (user : ℕ) (before after : Part) (changes : List LineChange) (w : World) → HoldsIn w → P user after → HoldsIn (step_end user before after changes w)
  end-holds user before after changes w h own = record {
    configured = h.configured;
    each = λ other part there.
        let settled = settle_part before (own_held user w.hands) after in
        elim (cases_eq other user) [
          | inl same ↦ elim (row_at-set_cases w.parts user other (Some settled) part there) [
            | inl was ↦ h.each other part was
            | inr put ↦ let is : settled ≡ part = same_Some _ _ put in subst (λ number. P number part) (sym same) (subst (P user) is (keeps.settling user before (own_held user w.hands) after own))
          ]
          | inr apart ↦ h.each other part (sym (row_at-set_other w.parts user other (Some settled) apart) ∙ there)
        ];
  }

  client-holds : (w : World) (user : ℕ) (e : Step) (row : Option Part) → row_at w.parts user ≡ row → HoldsIn w → HoldsIn (client_step w user e row).world
  client-holds w user e None is h = h
  client-holds w user e (Some part) is h =
      let held = own_held user w.hands in
      let given = client w.config user held part e in
      let own = subst (λ c. P user (client c user held part e).part) (sym h.configured) (keeps.client_step user held part e (h.each user part is)) in
      end-holds user part given.part given.changes w h own

  received-holds : (w : World) (taken : Held) (row : Option Part) → row_at w.parts taken.user.0 ≡ row → HoldsIn w → HoldsIn (received_part w taken row)
  received-holds w taken None is h = h
  received-holds w taken (Some part) is h = end-holds taken.user.0 part (take part taken.item) [] w h (keeps.taking taken.user.0 part taken.item (h.each taken.user.0 part is))

  performed-holds : (w : World) (held : Held) (moment : ℕ) (row : Option Part) → row_at w.parts held.user.0 ≡ row → HoldsIn w → HoldsIn (performed_part w held moment row)
  performed-holds w held moment None is h = h
  performed-holds w held moment (Some part) is h =
      let user = held.user.0 in
      let hands = own_held user w.hands in
      let given = serve w.config user hands part held.item moment in
      let own = subst (λ c. P user (serve c user hands part held.item moment).part) (sym h.configured) (keeps.serving user hands part held.item moment (h.each user part is)) in
      end-holds user part given.part given.changes w h own

  -- what stands in the lines and in the hands is not seen
  seen-holds : (w now : World) → now.config ≡ w.config → now.parts ≡ w.parts → HoldsIn w → HoldsIn now
  seen-holds w now configured same h = record { configured = configured ∙ h.configured; each = λ user part there. h.each user part (ap (λ parts. row_at parts user) (sym same) ∙ there) }

  server-holds : (w : World) (e : Step) → HoldsIn w → HoldsIn (server_step w e).world
  server-holds w e h = server_leaves w e HoldsIn h
      (λ worker manager taken is. received-holds (with_taken w worker manager taken) taken (row_at w.parts taken.user.0) refl (seen-holds w (with_taken w worker manager taken) refl refl h))
      (λ worker moment held is. performed-holds (with_empty_hand w worker) held moment (row_at w.parts held.user.0) refl (seen-holds w (with_empty_hand w worker) refl refl h))

  step_of-holds : (w : World) (e : Step) (actor : Option Actor) → HoldsIn w → HoldsIn (step_of w e actor).world
  step_of-holds w e None h = server-holds w e h
  step_of-holds w e (Some actor) h = client-holds w (user_of actor) e (row_at w.parts (user_of actor)) refl h

  pub step-holds : (w : World) (e : Step) → HoldsIn w → HoldsIn (step w e).world
  unfolding step
  step-holds w e h = step_of-holds w e (actor_of e) h

  after-holds : (w : World) (steps : List Step) → HoldsIn w → HoldsIn (world_after w steps)
  after-holds w [] h = h
  after-holds w (e ∷ steps) h = after-holds (step w e).world steps (step-holds w e h)

  -- ---- from boot

  module _ (starts : (user : ℕ) → P user (boot_part config user)) where
    boot-config : (boot config).config ≡ config
    unfolding system.boot
    boot-config = refl

    pub boot-holds : HoldsIn (boot config)
    boot-holds = record { configured = boot-config; each = boot-each config P starts }

    -- in each world that a run reaches
    pub run-holds : (steps : List Step) (user : ℕ) (part : Part) → row_at (run config steps).world.parts user ≡ Some part → P user part
    run-holds steps = (after-holds (boot config) steps boot-holds).each
