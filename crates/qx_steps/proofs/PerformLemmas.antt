-- An item is done for its user, the worker's hand is empty, and processes that have ended are freed: the machine's world then.
use Rattle.std.proofs.Common.{false, length, ◌≡◌, inl, inr, ℕ, get_or, true, List, [], Option, Some, None, is_some, refl, sym, ap, ap₂, subst, ◌∙◌}
use Rattle.std.specs.Prelude.{◌||◌, Ok, option_map, slice_set}
use Rattle.std.proofs.lemmas.Bool.{false≢true}
use Rattle.std.proofs.lemmas.List.{get_or-set_other, set-set}
use Rattle.std.proofs.lemmas.Option.{same_Some}
use Rattle.qx_types.specs.Configuration.{Configuration, limits_of}
use Rattle.qx_types.specs.declared.names.Proc.{Proc}
use Rattle.qx_types.specs.declared.names.Thread.{Thread}
use Rattle.qx_types.specs.declared.step.Step.TheVariants.{Perform}
use Rattle.qx_paths.specs.Mounts.{mounts_of}
use Rattle.qx_isolation.specs.declared.rows.Held.{Held}
use Rattle.qx_isolation.specs.declared.rows.OwnItem.{OwnItem}
use Rattle.qx_isolation.specs.declared.rows.OwnItem.TheVariants as item
use Rattle.qx_isolation.specs.declared.rows.ServerName.{ServerName}
use Rattle.qx_machine.specs.Events.{no_events}
use Rattle.qx_machine.specs.Machine.{World, item_to_do, lines_after, named_thread, own_held, performed_part, with_empty_hand}
use Rattle.qx_machine.specs.Parts.{Part}
use Rattle.qx_machine.specs.Performing.{Served, or_kept, serve_disconnect, serve_message, serve_pulse}
use Rattle.qx_machine.specs.Processes.{Process, has_ended, has_server}
use Rattle.qx_machine.specs.Resources.{Resources}
use Rattle.qx_isolation.specs.Rows.{row_at, with_row}
use Rattle.qx_machine.specs.Settling.{is_held, process_of_item, processes_left}
use Rattle.qx_machine.specs.Users.{serve, settle_part}
use Rattle.qx_machine.specs.Waiting.{no_pipes}
use Rattle.qx_resources.specs.State.{told, Kept}
use Rattle.qx_chan.specs.Channel.{Channel, channel_pipes, lists}
use Rattle.qx_chan.specs.Serving.{part_in, settled, PartServed, Serves}
use Rattle.qx_clients.specs.Calls.{has_ended_in}
use Rattle.qx_chan.specs.Users.{Users, process_of, process_of_user}
use Rattle.qx_steps.specs.inner.Held.{IsThere, IsThereBy}
use Rattle.qx_chan.proofs.RowReads.{option_cases, row_at-set_same, row_within}
use Rattle.qx_invariants.proofs.Reached.{run_ended}
use Rattle.qx_steps.specs.inner.Parts.{part_of, parts_of, told_all, told_world, world_of, AreResourcesOf, IsSound, SameUsers}
use Rattle.qx_steps.specs.inner.Performing.{with_left, with_one_left, Performs, PerformsFor}
use Rattle.qx_steps.proofs.FreeLemmas.{nobody-left, nobody_left, those_left}
use Rattle.qx_steps.proofs.OneLemmas.{like-kept, one-left_alone, served-like, served-lives, still-held}
use Rattle.qx_steps.proofs.OwnerLemmas.{Owner, nobody, owner, sound-step}
use Rattle.qx_steps.proofs.PartsLemmas.{mapped-put, parts-set_both, row_at-parts, same-with_processes, still-resources, told-there}
use Rattle.qx_steps.proofs.StillLemmas.{of-users, still-left}
use Rattle.qx_steps.proofs.WorkerLemmas.{perform-handled}

-- ---- a user's part

-- processes beside resources
abbrev beside : Resources → List (Option Process) → Part
beside r processes = record { processes = processes; resources = r }

part-beside : (row : Option (List (Option Process))) (r : Resources) → option_map (beside r) row ≡ part_of row (Some r)
part-beside None r = refl
part-beside (Some processes) r = refl

-- the part of a user whose resources are there is that of the machine
pub part-in : (c : Channel) (ks : List (Option Kept)) (user : ℕ) (k : Kept) → k.user ≡ user → row_at ks user ≡ Some k → part_in c k ≡ row_at (parts_of c.users (told_all c ks)) user
part-in c ks user k own is =
    let row : row_at (parts_of c.users (told_all c ks)) user ≡ part_of (row_at c.users user) (Some (told k (lists c))) = row_at-parts c.users (told_all c ks) user ∙ ap (part_of (row_at c.users user)) (told-there c ks user k is) in
    ap (λ number. option_map (beside (told k (lists c))) (row_at c.users number)) own ∙ (part-beside (row_at c.users user) (told k (lists c)) ∙ sym row)

-- ---- the others, while one user is served

module _ (c d : Channel) (ks : List (Option Kept)) (of : AreResourcesOf c ks) (user : ℕ) (k l : Kept) (there : row_at ks user ≡ Some k) (served : Part → Served) (serves : Serves c d k l served) where
  own : k.user ≡ user
  own = of.own user k there

  pipes_after : (part : Option Part) → PartServed c d k l served part → (other : ℕ) → ¬ (other ≡ user) → get_or d.pipes other no_pipes ≡ get_or c.pipes other no_pipes
  pipes_after None did other differs = ap (λ (e : Channel). get_or e.pipes other no_pipes) did.0
  pipes_after (Some part) did other differs = ap (λ (e : Channel). get_or e.pipes other no_pipes) did.0 ∙ get_or-set_other c.pipes k.user other (served part).part.resources.pipes no_pipes (λ e. differs (e ∙ own))

  events_after : (part : Option Part) → PartServed c d k l served part → (other : ℕ) → ¬ (other ≡ user) → get_or d.events other no_events ≡ get_or c.events other no_events
  events_after None did other differs = ap (λ (e : Channel). get_or e.events other no_events) did.0
  events_after (Some part) did other differs = ap (λ (e : Channel). get_or e.events other no_events) did.0 ∙ get_or-set_other c.events k.user other (served part).part.resources.events no_events (λ e. differs (e ∙ own))

  mounts_after : (part : Option Part) → PartServed c d k l served part → d.mounts ≡ c.mounts
  mounts_after None did = ap (λ (e : Channel). e.mounts) did.0
  mounts_after (Some part) did = ap (λ (e : Channel). e.mounts) did.0

  told_before : (other : ℕ) (m : Kept) → row_at ks other ≡ Some m → ¬ (other ≡ user) → told m (lists d) ≡ told m (lists c)
  told_before other m is differs =
      ap₂ (λ pipes events. record (told m (lists d)) { pipes = pipes; events = events })
      (pipes_after (part_in c k) serves.did m.user (λ same. differs (sym (of.own other m is) ∙ same)))
      (events_after (part_in c k) serves.did m.user (λ same. differs (sym (of.own other m is) ∙ same)))
      ∙ ap (λ mounts. record (told m (lists c)) { mounts = mounts_of mounts m.user }) (mounts_after (part_in c k) serves.did)

  -- what the machine is told of all users
  pub all-told : told_all d (slice_set ks user (Some l)) ≡ slice_set (told_all c ks) user (Some (told l (lists d)))
  all-told = mapped-put (λ m. told m (lists d)) (λ m. told m (lists c)) ks user l told_before

  -- resources are those of the channel's users
  same_users : (part : Option Part) → PartServed c d k l served part → SameUsers d.users ks
  same_users None did = subst (λ ps. SameUsers ps ks) (ap (λ e. e.users) (sym did.0)) of.same
  same_users (Some part) did = subst (λ ps. SameUsers ps ks) (sym (ap (λ (e : Channel). e.users) did.0)) (same-with_processes c.users ks k.user (λ _. (served part).part.processes) of.same)

  pub still-serving : AreResourcesOf d (slice_set ks user (Some l))
  still-serving = still-resources d ks user k l there serves.user (of-users c d ks of (same_users (part_in c k) serves.did) (ap length (mounts_after (part_in c k) serves.did)))

-- by whatever resources the user has
pub still-performing : (c d : Channel) (ks ls : List (Option Kept)) (of : AreResourcesOf c ks) (held : Held) (moment : ℕ) (config : Configuration) (k : Option Kept) → row_at ks held.user.0 ≡ k → PerformsFor config c d ks ls held moment k → AreResourcesOf d ls
still-performing c d ks ls of held moment config None there did = subst (λ ls. AreResourcesOf d ls) (sym did.1) (subst (λ d. AreResourcesOf d ks) (sym did.0) of)
still-performing c d ks ls of held moment config (Some k) there did =
    subst (λ ls. AreResourcesOf d ls) (sym did.1.0) (still-serving c d ks of held.user.0 k did.0 there _ (did.1.1 []))

-- ---- what is done, by the item

pub performs-message : (config : Configuration) (c d : Channel) (k l : Kept) (held : Held) (process tid moment : ℕ) (thread : Thread) → held.item ≡ item.Message process tid → thread ≡ named_thread held.user.0 process tid
    → Serves c d k l (λ part. settled part (or_kept part (serve_message (limits_of config thread.proc.user.0).disconnect part thread.proc.num thread.tid moment))) → Performs config c d k l held moment
unfolding serve
performs-message config c d k l held process tid moment thread is named serves items = rw is (rw named at serves)

pub performs-pulse : (config : Configuration) (c d : Channel) (k l : Kept) (held : Held) (process tid call moment : ℕ) (thread : Thread) → held.item ≡ item.Unblock process tid call → thread ≡ named_thread held.user.0 process tid
    → Serves c d k l (λ part. settled part (or_kept part (serve_pulse part thread.proc.num thread.tid call moment))) → Performs config c d k l held moment
unfolding serve
performs-pulse config c d k l held process tid call moment thread is named serves items = rw is (rw named at serves)

pub performs-disconnect : (config : Configuration) (c d : Channel) (k l : Kept) (held : Held) (process moment : ℕ) (server : ServerName) (proc : Proc) → held.item ≡ item.Disconnect process server → proc ≡ record { user = held.user; num = process }
    → Serves c d k l (λ part. settled part (or_kept part (serve_disconnect part (record { process = proc.num; server = server }) moment))) → Performs config c d k l held moment
unfolding serve
performs-disconnect config c d k l held process moment server proc is named serves items = rw is (rw named at serves)

-- a process lives still whose message it was
lives-by : (config : Configuration) (user : ℕ) (items : List OwnItem) (part : Part) (own : OwnItem) (moment : ℕ) (users : Users) → row_at users user ≡ Some part.processes → IsThereBy users user own
    → has_ended_in (row_at (serve config user items part own moment).part.processes (process_of_item own)) ≡ false
lives-by config user items part (item.Message process thread) moment users is there = served-lives config user items part process thread moment (rw is at there)
lives-by config user items part (item.Unblock process thread call) moment users is there = absurd there
lives-by config user items part (item.Disconnect process server) moment users is there = absurd there

-- ---- the end of the step

module _ (config : Configuration) (c : Channel) (ks : List (Option Kept)) (hands : List (Option Held)) (sound : IsSound config c ks hands) (worker : ℕ) (held : Held) (moment : ℕ) where
  abbrev w : World
  w = world_of config c ks hands

  abbrev user : ℕ
  user = held.user.0

  -- what workers hold of the user then
  abbrev items : List OwnItem
  items = own_held user (slice_set hands worker None)

  abbrev freed : Channel → Channel
  freed d = with_left d items user

  -- whose item it is
  abbrev pub owner_then : Proc
  owner_then = record { user = held.user; num = process_of_item held.item }

  module _ (ps : List (Option Process)) (o : Owner config c ks hands sound user ps) (d : Channel) (l : Kept) (performs : Performs config c d o.k l held moment) where
    abbrev part : Part
    part = record { processes = ps; resources = told o.k (lists c) }

    abbrev given : Served
    given = serve config user items part held.item moment

    abbrev serving : Part → Served
    serving part = settled part (serve config user items part held.item moment)

    serves : Serves c d o.k l serving
    serves = performs items

    its : part_in c o.k ≡ Some part
    its = ap (λ number. option_map (beside (told o.k (lists c))) (row_at c.users number)) o.own ∙ ap (option_map (beside (told o.k (lists c)))) o.users

    did : PartServed c d o.k l serving (Some part)
    did = subst (PartServed c d o.k l serving) its serves.did

    users-then : d.users ≡ slice_set c.users user (Some given.part.processes)
    users-then = ap (λ (e : Channel). e.users) did.0 ∙ (ap (λ number. with_row c.users number (λ _. given.part.processes)) o.own ∙ ap (λ row. slice_set c.users user (option_map (λ _. given.part.processes) row)) o.users)

    lines-then : d.lines ≡ lines_after user c.lines given.changes
    lines-then = ap (λ (e : Channel). e.lines) did.0 ∙ ap (λ number. lines_after number c.lines given.changes) o.own

    pipes-then : channel_pipes d user ≡ given.part.resources.pipes
    pipes-then = ap (λ number. channel_pipes d number) (sym (serves.user ∙ o.own)) ∙ ap (λ (r : Resources). r.pipes) did.1

    -- the user's processes that are left
    abbrev qs : List (Option Process)
    qs = processes_left items given.part.resources.pipes 0 given.part.processes

    row-then : row_at d.users user ≡ Some given.part.processes
    row-then = ap (λ users. row_at users user) users-then ∙ row_at-set_same c.users user (Some given.part.processes) (row_within c.users user ps o.users)

    freed-users : (freed d).users ≡ slice_set c.users user (Some qs)
    freed-users =
        ap (λ (e : Channel). e.users) (those_left d items user given.part.processes row-then)
        ∙ ((λ i. slice_set (users-then i) user (Some (processes_left items (pipes-then i) 0 given.part.processes))) ∙ set-set c.users user (Some given.part.processes) (Some qs))

    -- no process but that whose item it was is freed
    one-alone : row_at hands worker ≡ Some held → with_one_left d items owner_then ≡ freed d
    one-alone holds =
        let law : (number : ℕ) (process : Process) → row_at ps number ≡ Some process → has_ended process ≡ true → (has_server process || is_held (own_held user hands) number) ≡ true =
        λ number process there ended. subst (λ (world : World). (has_server process || is_held (own_held user world.hands) number) ≡ true) (sym sound.reached)
        (run_ended config sound.steps user part number process (ap (λ (world : World). row_at world.parts user) (sym sound.reached) ∙ o.part) there ended) in
        let kept = like-kept owner_then.num (own_held user hands) items ps given.part.processes (served-like config user items part held.item moment) law (λ number differs. still-held user worker held hands number holds differs) in
        ap (λ users. record d { users = users })
        (rw row-then (ap (λ rows. slice_set d.users user (Some rows)) (sym (one-left_alone items (channel_pipes d user) owner_then.num given.part.processes kept))))

    parts-then : parts_of (freed d).users (told_all d (slice_set ks user (Some l))) ≡ slice_set w.parts user (Some (settle_part part items given.part))
    unfolding settle_part
    parts-then =
        ap₂ parts_of freed-users (all-told c d ks sound.users user o.k l o.kept serving serves)
        ∙ (parts-set_both c.users (told_all c ks) user qs (told l (lists d)) ∙ ap (λ r. slice_set w.parts user (Some (record { processes = qs; resources = r }))) did.1)

    performed-one : world_of config (freed d) (slice_set ks user (Some l)) (slice_set hands worker None) ≡ performed_part (with_empty_hand w worker) held moment (row_at w.parts user)
    performed-one =
        (λ i. record { config = config; parts = parts-then i; lines = lines-then i; hands = slice_set hands worker None })
        ∙ sym (ap (performed_part (with_empty_hand w worker) held moment) o.part)

  performed-nobody : row_at c.users user ≡ None → world_of config (freed c) ks (slice_set hands worker None) ≡ performed_part (with_empty_hand w worker) held moment (row_at w.parts user)
  performed-nobody none =
      ap (λ (d : Channel). told_world config d (told_all c ks) (slice_set hands worker None)) (nobody_left c items user none)
      ∙ sym (ap (performed_part (with_empty_hand w worker) held moment) (nobody config c ks hands sound user none))

  pub performed : (d : Channel) (ls : List (Option Kept)) (k : Option Kept) → row_at ks user ≡ k → PerformsFor config c d ks ls held moment k
      → world_of config (freed d) ls (slice_set hands worker None) ≡ performed_part (with_empty_hand w worker) held moment (row_at w.parts user)
  performed d ls None there did = elim (option_cases (row_at c.users user)) [
    | inl none ↦ (λ i. world_of config (freed (did.0 i)) (did.1 i) (slice_set hands worker None)) ∙ performed-nobody none
    | inr ps ↦ absurd (false≢true (sym (ap is_some there) ∙ (sym (sound.users.same user) ∙ ap is_some ps.1)))
  ]
  performed d ls (Some k) there did = elim (option_cases (row_at c.users user)) [
    | inl none ↦ absurd (false≢true (sym (ap is_some none) ∙ (sound.users.same user ∙ ap is_some there)))
    | inr ps ↦
        let o = owner config c ks hands sound user ps.0 ps.1 in
        let same : k ≡ o.k = same_Some k o.k (sym there ∙ o.kept) in
        ap (λ ls. world_of config (freed d) ls (slice_set hands worker None)) did.1.0 ∙ performed-one ps.0 o d did.0 (subst (λ k. Performs config c d k did.0 held moment) same did.1.1)
  ]

  freed-alone : (d : Channel) (ls : List (Option Kept)) (k : Option Kept) → row_at hands worker ≡ Some held → row_at ks user ≡ k → PerformsFor config c d ks ls held moment k → with_one_left d items owner_then ≡ freed d
  freed-alone d ls None holds there did = elim (option_cases (row_at c.users user)) [
    | inl none ↦ subst (λ (e : Channel). with_one_left e items owner_then ≡ freed e) (sym did.0) (nobody-left c items owner_then none ∙ sym (nobody_left c items user none))
    | inr ps ↦ absurd (false≢true (sym (ap is_some there) ∙ (sym (sound.users.same user) ∙ ap is_some ps.1)))
  ]
  freed-alone d ls (Some k) holds there did = elim (option_cases (row_at c.users user)) [
    | inl none ↦ absurd (false≢true (sym (ap is_some none) ∙ (sound.users.same user ∙ ap is_some there)))
    | inr ps ↦
        let o = owner config c ks hands sound user ps.0 ps.1 in
        let same : k ≡ o.k = same_Some k o.k (sym there ∙ o.kept) in
        one-alone ps.0 o d did.0 (subst (λ k. Performs config c d k did.0 held moment) same did.1.1) holds
  ]

  -- the process lives still whose message was served
  pub performed-lives : (d : Channel) (ls : List (Option Kept)) (k : Option Kept) → row_at ks user ≡ k → PerformsFor config c d ks ls held moment k → IsThere c.users held → has_ended_in (process_of d.users owner_then) ≡ false
  performed-lives d ls None there did thread = elim (option_cases (row_at c.users user)) [
    | inl none ↦ ap (λ processes. has_ended_in (process_of_user owner_then.num processes)) (ap (λ (e : Channel). row_at e.users user) did.0 ∙ none)
    | inr ps ↦ absurd (false≢true (sym (ap is_some there) ∙ (sym (sound.users.same user) ∙ ap is_some ps.1)))
  ]
  performed-lives d ls (Some k) there did thread = elim (option_cases (row_at c.users user)) [
    | inl none ↦ absurd (false≢true (sym (ap is_some none) ∙ (sound.users.same user ∙ ap is_some there)))
    | inr ps ↦
        let o = owner config c ks hands sound user ps.0 ps.1 in
        let same : k ≡ o.k = same_Some k o.k (sym there ∙ o.kept) in
        let performs = subst (λ k. Performs config c d k did.0 held moment) same did.1.1 in
        ap (λ processes. has_ended_in (process_of_user owner_then.num processes)) (row-then ps.0 o d did.0 performs)
        ∙ lives-by config user items (part ps.0 o d did.0 performs) held.item moment c.users ps.1 thread
  ]

  -- once the process is freed whose item it was, if nothing is left of it, all are that can be
  pub perform-freed : (d : Channel) (ls : List (Option Kept)) (k : Option Kept) → row_at hands worker ≡ Some held → row_at ks user ≡ k → PerformsFor config c d ks ls held moment k
      → (now : Channel) → now ≡ record (with_one_left d items owner_then) { room = now.room } → now ≡ record (freed d) { room = now.room }
  perform-freed d ls k holds there did now is = is ∙ ap {A = Channel} (λ e. record e { room = now.room }) (freed-alone d ls k holds there did)

  pub performed-sound : (d : Channel) (ls : List (Option Kept)) (k : Option Kept) → item_to_do w worker ≡ Ok held → row_at ks user ≡ k → PerformsFor config c d ks ls held moment k
      → (room : ℕ) → IsSound config (record (freed d) { room = room }) ls (slice_set hands worker None)
  performed-sound d ls k holds there did room =
      sound-step config c ks hands sound (record (freed d) { room = room }) ls (slice_set hands worker None) (Perform (record { 0 = worker }) moment)
      (still-left d ls (still-performing c d ks ls sound.users held moment config k there did) items user room)
      (performed d ls k there did ∙ sym (ap (λ after. after.world) (perform-handled w (record { 0 = worker }) moment held holds)))
