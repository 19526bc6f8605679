-- A worker's step, by what the channel makes of it and what is done for the user.
use Rattle.std.proofs.Common.{◌≡◌, inl, inr, ℕ, zero, suc, Bool, List, [], ◌∷◌, true, false, Option, Some, None, slice_set, is_some, refl, sym, ap, ◌∙◌}
use Rattle.std.specs.Prelude.{Ok, Err, option_map, slice_get}
use Rattle.qx_types.specs.Configuration.{Configuration}
use Rattle.qx_types.specs.Managers.{manager_number}
use Rattle.qx_types.specs.declared.names.Manager.{Manager}
use Rattle.qx_types.specs.declared.names.User.{User}
use Rattle.qx_types.specs.declared.names.Worker.{Worker}
use Rattle.qx_types.specs.declared.outcome.Outcome.{Outcome}
use Rattle.qx_types.specs.declared.outcome.Outcome.TheVariants.{WrongState, Took, Idle, Busy, Handled, Nothing}
use Rattle.qx_types.specs.declared.step.Step.TheVariants.{Receive, Perform}
use Rattle.qx_isolation.specs.declared.rows.Held.{Held}
use Rattle.qx_isolation.specs.declared.rows.OwnItem.{OwnItem}
use Rattle.qx_isolation.specs.declared.rows.OwnItem.TheVariants as item
use Rattle.qx_isolation.specs.declared.rows.Queued.{Queued}
use Rattle.qx_machine.specs.declared.rows.Sent.{Sent}
use Rattle.qx_isolation.specs.Judgements.{◌>>=◌, found, need}
use Rattle.qx_isolation.specs.Lines.{line_at}
use Rattle.qx_machine.specs.Machine.{World, is_worker, item_to_do, named_thread, own_held, performed_part, received_part, shown_item, step, with_empty_hand, with_taken}
use Rattle.qx_machine.specs.Resources.{Resources}
use Rattle.qx_machine.specs.Parts.{thread_of}
use Rattle.qx_machine.specs.Processes.{Process, taken_thread, with_thread}
use Rattle.qx_isolation.specs.Rows.{row_at, with_row}
use Rattle.qx_machine.specs.Users.{settle_part, take}
use Rattle.qx_machine.specs.Wants.{item_wants_memory, wants_memory}
use Rattle.qx_isolation.proofs.Workers.{after_item, after_taking, item_taken}
use Rattle.qx_rows.proofs.RowLemmas.{set-row, with_row-none}
use Rattle.qx_chan.specs.Calls.{taken_of}
use Rattle.qx_resources.specs.State.{told, Kept}
use Rattle.qx_chan.specs.Channel.{Channel, after_receive, channel_line, lists}
use Rattle.qx_chan.specs.Serving.{IsReadOf}
use Rattle.qx_chan.specs.Users.{process_of}
use Rattle.qx_steps.specs.declared.work.Work.TheVariants as work
use Rattle.qx_steps.specs.inner.Held.{taken_by, taken_item}
use Rattle.qx_steps.specs.inner.Parts.{parts_of, told_all, told_world, world_of, AreResourcesOf, IsSound}
use Rattle.qx_steps.specs.Held.{bytes_or, held_work, received_bytes, work_of, IsReadFor}
use Rattle.qx_machine.specs.Reads.{process_among_parts}
use Rattle.qx_chan.proofs.RowReads.{option_cases}
use Rattle.qx_steps.proofs.LeftLemmas.{AreLeft, held-grows, left-held, left-thread}
use Rattle.qx_steps.proofs.OwnerLemmas.{Owner, nobody, others_kept, owner, sound-step}
use Rattle.qx_steps.proofs.PartsLemmas.{process-told}
use Rattle.qx_steps.proofs.SettledLemmas.{settled-processes}
use Rattle.qx_steps.proofs.StillLemmas.{still-receive}

-- ---- lines

none_first : (line : List Queued) → slice_get line 0 ≡ None → line ≡ []
none_first [] is = refl
none_first (first ∷ line) is = let clash : Some first ≡ None = is in absurd (cc)

-- an empty line that is put back changes nothing
set-empty : {A : Type 0} (lines : List (List A)) (number : ℕ) → line_at lines number ≡ [] → slice_set lines number [] ≡ lines
set-empty [] number is = refl
set-empty (line ∷ lines) zero is = ap (λ first. first ∷ lines) (sym is)
set-empty (line ∷ lines) (suc number) is = ap (λ rest. line ∷ rest) (set-empty lines number is)

none_of : (hand : Option Held) → is_some hand ≡ false → hand ≡ None
none_of None none = refl
none_of (Some held) none = cc

-- ---- who may take a step

pub receive-no_worker : (w : World) (worker : Worker) (manager : Manager) → is_worker w.config worker.0 ≡ false → step w (Receive worker manager) ≡ record { world = w; outcome = WrongState }
unfolding step
receive-no_worker w worker manager invalid = rw invalid

pub receive-busy : (w : World) (worker : Worker) (manager : Manager) → is_worker w.config worker.0 ≡ true → is_some (row_at w.hands worker.0) ≡ true → step w (Receive worker manager) ≡ record { world = w; outcome = Busy }
unfolding step
receive-busy w worker manager valid hand = rw (valid, hand)

pub perform-nothing : (w : World) (worker : Worker) (moment : ℕ) (outcome : Outcome) → item_to_do w worker.0 ≡ Err outcome → step w (Perform worker moment) ≡ record { world = w; outcome = outcome }
unfolding step
perform-nothing w worker moment outcome nothing = rw nothing refl

pub perform-handled : (w : World) (worker : Worker) (moment : ℕ) (held : Held) → item_to_do w worker.0 ≡ Ok held
    → step w (Perform worker moment) ≡ record { world = performed_part (with_empty_hand w worker.0) held moment (row_at w.parts held.user.0); outcome = Handled }
unfolding step
perform-handled w worker moment held is = rw is refl

-- doing what is held may want memory, where the item may
pub perform-wants : (w : World) (worker : Worker) (moment : ℕ) (held : Held) → item_to_do w worker.0 ≡ Ok held
    → wants_memory w (Perform worker moment) ≡ item_wants_memory (row_at w.parts held.user.0) held.item moment
perform-wants w worker moment held is = rw is refl

pub ruleset receive_steps = (receive-no_worker, receive-busy)

pub ruleset perform_steps = (perform-nothing, perform-handled, perform-wants)

-- ---- what a worker holds

-- who does an item is a worker that holds it
pub holds : (w : World) (worker : ℕ) (held : Held) → item_to_do w worker ≡ Ok held → (is_worker w.config worker ≡ true) × (row_at w.hands worker ≡ Some held)
holds w worker held is = by (is_worker w.config worker) (row_at w.hands worker) is
  where
    by : (valid : Bool) (hand : Option Held) → (need valid WrongState >>= (λ _. found hand Nothing)) ≡ Ok held → (valid ≡ true) × (hand ≡ Some held)
    by true None is = cc
    by true (Some other) is = (refl, cc)
    by false hand is = cc

-- ---- a message that a worker holds

pub held-message : (w : World) (worker : ℕ) (held : Held) (process thread : ℕ) → item_to_do w worker ≡ Ok held → held.item ≡ item.Message process thread
    → held_work w worker ≡ option_map (λ bytes. work.Message bytes) (received_bytes thread (process_among_parts w.parts (named_thread held.user.0 process thread).proc))
held-message w worker held process thread does is = rw ((holds w worker held does).0, (holds w worker held does).1, is) refl

-- one that was read before is the one that was received
read_by : (read : Option (List ℕ)) (thread : ℕ) (process : Option Process) → IsReadFor read (option_map (λ bytes. work.Message bytes) (received_bytes thread process)) → IsReadOf read (taken_of (thread_of thread process))
read_by None thread process is = tt
read_by (Some bytes) thread None is = tt
read_by (Some bytes) thread (Some process) is = by (taken_of (row_at process.threads thread)) is
  where
    by : (sent : Option Sent) → IsReadFor (Some bytes) (option_map (λ bytes. work.Message bytes) (bytes_or sent (row_at process.held thread))) → IsReadOf (Some bytes) sent
    by None is = tt
    by (Some sent) is = let same : work.Message sent.bytes ≡ work.Message bytes = is in cc

read_item : (config : Configuration) (c : Channel) (ks : List (Option Kept)) (of : AreResourcesOf c ks) (read : Option (List ℕ)) (user : User) (own : OwnItem) → IsReadFor read (work_of (parts_of c.users (told_all c ks)) user.0 own) → IsReadOf read (taken_by c.users user.0 own)
read_item config c ks of read user (item.Message process thread) is =
    read_by read thread (process_of c.users (named_thread user.0 process thread).proc) (rw (process-told c ks (named_thread user.0 process thread).proc of) at is)
read_item config c ks of None user _ is = tt
read_item config c ks of (Some bytes) user _ is = tt

pub held-read : (config : Configuration) (c : Channel) (ks : List (Option Kept)) (hands : List (Option Held)) (of : AreResourcesOf c ks) (read : Option (List ℕ)) (worker : ℕ) (held : Held)
    → item_to_do (world_of config c ks hands) worker ≡ Ok held → IsReadFor read (held_work (world_of config c ks hands) worker) → IsReadOf read (taken_item c.users held)
held-read config c ks hands of read worker held does is =
    let its = holds (world_of config c ks hands) worker held does in
    read_item config c ks of read held.user held.item (rw (its.0, its.1) at is)

module _ (config : Configuration) (c : Channel) (ks : List (Option Kept)) (hands : List (Option Held)) (sound : IsSound config c ks hands) where
  abbrev w : World
  w = world_of config c ks hands

  abbrev rs : List (Option Resources)
  rs = told_all c ks

  -- ---- receive

  pub receive-idle : (worker : Worker) (manager : Manager) → is_worker config worker.0 ≡ true → is_some (row_at hands worker.0) ≡ false → slice_get (channel_line c manager) 0 ≡ None
      → step w (Receive worker manager) ≡ record { world = told_world config (after_receive c manager) rs hands; outcome = Idle }
  unfolding step
  receive-idle worker manager valid hand none =
      let line : channel_line c manager ≡ [] = none_first (channel_line c manager) none in
      rw (valid, none_of (row_at hands worker.0) hand, line, set-empty c.lines (manager_number manager) line) refl

  module _ (worker user : ℕ) (own : OwnItem) (ps : List (Option Process)) (o : Owner config c ks hands sound user ps) (free : row_at hands worker ≡ None) where
    -- what workers hold of the user, with the item that is taken
    abbrev more : List OwnItem
    more = own_held user (slice_set hands worker (Some (record { user = record { 0 = user }; item = own })))

    abbrev r : Resources
    r = told o.k (lists c)

    left-then : AreLeft more r.pipes 0 ps
    left-then = left-held (own_held user hands) more r.pipes (λ number. held-grows user worker (record { user = record { 0 = user }; item = own }) hands number free) 0 ps o.left

    kept-then : settle_part (record { processes = ps; resources = r }) more (record { processes = ps; resources = r }) ≡ record { processes = ps; resources = r }
    kept-then = settled-processes ps ps r more left-then

    taken-then : (process thread : ℕ) → settle_part (record { processes = ps; resources = r }) more (record { processes = with_row ps process (with_thread thread taken_thread); resources = r }) ≡ record { processes = with_row ps process (with_thread thread taken_thread); resources = r }
    taken-then process thread = settled-processes ps (with_row ps process (with_thread thread taken_thread)) r more (left-thread more r.pipes ps process thread taken_thread left-then)

  received : (worker : ℕ) (user : ℕ) (own : OwnItem) (prio : ℕ) (rest : List Queued) (manager : Manager) → row_at hands worker ≡ None → channel_line c manager ≡ record { user = record { 0 = user }; item = own; prio = record { 0 = prio } } ∷ rest
      → received_part (with_taken w worker manager (record { user = record { 0 = user }; item = own })) (record { user = record { 0 = user }; item = own }) (row_at w.parts user)
      ≡ told_world config (after_receive c manager) rs (slice_set hands worker (Some (record { user = record { 0 = user }; item = own })))
  unfolding take
  received worker user (item.Message process thread) prio rest manager free is = elim (option_cases (row_at c.users user)) [
    | inl none ↦ rw (is, nobody config c ks hands sound user none, with_row-none c.users user (λ processes. with_row processes process (with_thread thread taken_thread)) none) refl
    | inr ps ↦
        let o = owner config c ks hands sound user ps.0 ps.1 in
        rw (is, o.part, ps.1, taken-then worker user (item.Message process thread) ps.0 o free process thread, others_kept config c ks hands sound user ps.0 o (with_row ps.0 process (with_thread thread taken_thread))) refl
  ]
  received worker user (item.Unblock process thread call) prio rest manager free is = elim (option_cases (row_at c.users user)) [
    | inl none ↦ rw (is, nobody config c ks hands sound user none) refl
    | inr ps ↦
        let o = owner config c ks hands sound user ps.0 ps.1 in
        rw (is, o.part, kept-then worker user (item.Unblock process thread call) ps.0 o free, set-row w.parts user (record { processes = ps.0; resources = told o.k (lists c) }) o.part) refl
  ]
  received worker user (item.Disconnect process server) prio rest manager free is = elim (option_cases (row_at c.users user)) [
    | inl none ↦ rw (is, nobody config c ks hands sound user none) refl
    | inr ps ↦
        let o = owner config c ks hands sound user ps.0 ps.1 in
        rw (is, o.part, kept-then worker user (item.Disconnect process server) ps.0 o free, set-row w.parts user (record { processes = ps.0; resources = told o.k (lists c) }) o.part) refl
  ]

  took : (worker : Worker) (manager : Manager) (line : List Queued) (first : Queued) → is_worker config worker.0 ≡ true → row_at hands worker.0 ≡ None → channel_line c manager ≡ line → slice_get line 0 ≡ Some first
      → step w (Receive worker manager) ≡ record { world = told_world config (after_receive c manager) rs (slice_set hands worker.0 (Some (record { user = first.user; item = first.item }))); outcome = Took (shown_item first.user.0 first.item) }
  unfolding step
  took worker manager [] first valid free of is = cc
  took worker manager (other ∷ rest) first valid free of is =
      let its : other ≡ first = cc in
      rw (← its)
      (ap (λ item. after_item w item (after_taking w worker.0 manager)) (item_taken w worker.0 manager other rest valid free of)
      ∙ ap (λ world. record { world = world; outcome = Took (shown_item other.user.0 other.item) }) (received worker.0 other.user.0 other.item other.prio.0 rest manager free of))

  pub receive-took : (worker : Worker) (manager : Manager) (first : Queued) → is_worker config worker.0 ≡ true → is_some (row_at hands worker.0) ≡ false → slice_get (channel_line c manager) 0 ≡ Some first
      → step w (Receive worker manager) ≡ record { world = told_world config (after_receive c manager) rs (slice_set hands worker.0 (Some (record { user = first.user; item = first.item }))); outcome = Took (shown_item first.user.0 first.item) }
  receive-took worker manager first valid hand is = took worker manager (channel_line c manager) first valid (none_of (row_at hands worker.0) hand) refl is

  -- ---- what is sound still

  pub idle-sound : (worker : Worker) (manager : Manager) → is_worker config worker.0 ≡ true → is_some (row_at hands worker.0) ≡ false → slice_get (channel_line c manager) 0 ≡ None → IsSound config (after_receive c manager) ks hands
  idle-sound worker manager valid hand none =
      sound-step config c ks hands sound (after_receive c manager) ks hands (Receive worker manager) (still-receive c ks sound.users manager) (sym (ap (λ after. after.world) (receive-idle worker manager valid hand none)))

  pub took-sound : (worker : Worker) (manager : Manager) (first : Queued) → is_worker config worker.0 ≡ true → is_some (row_at hands worker.0) ≡ false → slice_get (channel_line c manager) 0 ≡ Some first
      → IsSound config (after_receive c manager) ks (slice_set hands worker.0 (Some (record { user = first.user; item = first.item })))
  took-sound worker manager first valid hand is =
      sound-step config c ks hands sound (after_receive c manager) ks (slice_set hands worker.0 (Some (record { user = first.user; item = first.item }))) (Receive worker manager) (still-receive c ks sound.users manager)
      (sym (ap (λ after. after.world) (receive-took worker manager first valid hand is)))
