-- With a client that is gone its open control blocks go one after the other, and events are due by all of that.
use Rattle.std.proofs.Common.{◌≡◌, ◌∙◌, ◌+◌, ◌-◌, ◌<◌, ◌≤◌, ◌++◌, ◌==◌, ℕ, Bool, true, false, not, zero, suc, List, [], ◌∷◌, Some, None, Result, Ok, Err, length, drop, take, slice_get, refl, sym, ap, ap₂, add-one, append_assoc, arith, subst, map}
use Rattle.std.specs.Prelude.{filter, is_err}
use Rattle.std.proofs.lemmas.List.{get_or-set_same, map-append, set-set}
use Rattle.std.proofs.Math.ListN.{length-set}
use Rattle.qx_base.specs.declared.errno.Errno.{Errno}
use Rattle.qx_types.specs.declared.outcome.Answer.{Answer}
use Rattle.qx_machine.specs.declared.rows.Client.{Client}
use Rattle.qx_machine.specs.declared.rows.Conditions.{Conditions}
use Rattle.qx_machine.specs.declared.rows.WaitingCall.{WaitingCall}
use Rattle.qx_machine.specs.Defaults.{close_ocb}
use Rattle.qx_machine.specs.Events.{Events, event_count, no_events, triggered}
use Rattle.qx_machine.specs.Functions.{Deed}
use Rattle.qx_machine.specs.Inodes.{Inodes, blocks_of_client}
use Rattle.qx_machine.specs.Managers.{and_then, close_all, close_client, or_unreplied, own_kind}
use Rattle.qx_machine.specs.Notification.{block_conditions, events_settled}
use Rattle.qx_machine.specs.PipeManager.{unreplied}
use Rattle.qx_machine.specs.Resources.{Resources}
use Rattle.qx_machine.proofs.Gives.{gives_done, gives-value}
use Rattle.qx_notify.specs.Events.{AllEvents, events_of, with_events}
use Rattle.qx_pipes.proofs.PipesLemmas.{given-same}
use Rattle.qx_shared.specs.Shared.{Shared, users_given, with_pipes}
use Rattle.qx_resources.proofs.KeptLemmas.{same-events, tables_of}
use Rattle.qx_resources.proofs.WatchFacts.{unarmed-settled}
use Rattle.qx_resources.specs.Disconnects.{disconnected}
use Rattle.qx_resources.specs.State.{HasUser, Kept, shared, told}
use Rattle.qx_resources.specs.inner.Conditions.{conditions_in}
use Rattle.qx_resources.specs.inner.State.{AreLeft, Came}
use Rattle.qx_resources.specs.declared.tables.Tables.{Tables}
use Rattle.std.proofs.lemmas.Option.{slice_get_within}
use Rattle.qx_resources.proofs.GoneLemmas.{Fewer, IsGone, fewer-all, fewer-by, fewer-count, fewer-none, gone-blocks, gone-gives}

-- ---- what all share, after one deed and another

module _ (e : AllEvents) (user : ℕ) (within : user < length e.events) where
  -- the events of a user are set twice; the first were no more than before
  pub events-then : (mid new : Events) → event_count mid ≤ event_count (events_of e user) → with_events (with_events e user mid) user new ≡ with_events e user new
  events-then mid new few =
      let got : events_of (with_events e user mid) user ≡ mid = get_or-set_same e.events user mid no_events within in
      let room : e.room + event_count (events_of e user) - event_count mid + event_count mid - event_count new ≡ e.room + event_count (events_of e user) - event_count new = omega (arith, few) in
      λ i. record {
        events = set-set e.events user mid new i;
        room = (ap (λ (before : Events). e.room + event_count (events_of e user) - event_count mid + event_count before - event_count new) got ∙ room) i;
      }

pipes-then : (c : Shared) (user : ℕ) (one two : Resources) (first second : List (WaitingCall × Answer)) → with_pipes (with_pipes c user one.pipes first) user two.pipes second ≡ with_pipes c user two.pipes (first ++ second)
pipes-then c user one two first second =
    let answered = append_assoc c.answered (map (users_given user) first) (map (users_given user) second) ∙ ap (λ more. c.answered ++ more) (sym (map-append (users_given user) first second)) in
    λ i. record c { pipes = set-set c.pipes user one.pipes two.pipes i; answered = answered i }

shared-then : (k l : Kept) (w : Tables) (one two : Resources) (first second : List (WaitingCall × Answer)) → l.user ≡ k.user → k.user < length w.events.events → event_count one.events ≤ event_count (events_of w.events k.user)
    → shared l (shared k w one first) two second ≡ shared k w two (first ++ second)
shared-then k l w one two first second user within few =
    ap (λ (user : ℕ). tables_of (with_pipes (shared k w one first).shared user two.pipes second) (with_events (shared k w one first).events user two.events) w.mounts) user
    ∙ (λ i. record { shared = pipes-then w.shared k.user one two first second i; events = events-then w.events k.user within one.events two.events few i; mounts = w.mounts })

shared-same : (k : Kept) (w : Tables) → w ≡ shared k w (told k w) []
shared-same k w = λ i. record { shared = given-same w.shared k.user i; events = same-events w.events k.user i; mounts = w.mounts }

-- ---- one block after another

-- what is done from here on leads to what was to be done
pub record LeadsTo (k : Kept) (w : Tables) (meant : Deed Resources) (l : Kept) (v : Tables) (rest : Deed Resources) : Type 0 where
  pub state : rest.state ≡ meant.state
  pub shared : shared l v rest.state rest.answers ≡ shared k w meant.state meant.answers
  pub user : l.user ≡ k.user

-- the user has a place still
has-user : (k l : Kept) (w v : Tables) (deed : Deed Resources) → HasUser k w → AreLeft k w l v deed → HasUser l v
has-user k l w v deed has left = rw (left.user, left.shared) (record {
  pipes = rw (length-set w.shared.pipes k.user deed.state.pipes) has.pipes;
  events = rw (length-set w.events.events k.user deed.state.events) has.events;
})

drop-get : (xs : List ℕ) (place x : ℕ) → slice_get xs place ≡ Some x → drop place xs ≡ x ∷ drop (suc place) xs
drop-get [] place x is = absurd (cc)
drop-get (y ∷ xs) zero x is = let same : y ≡ x = cc in ap (λ z. z ∷ xs) same
drop-get (y ∷ xs) (suc place) x is = drop-get xs place x is

drop-none : (xs : List ℕ) (place : ℕ) → slice_get xs place ≡ None → drop place xs ≡ []
drop-none [] zero is = refl
drop-none [] (suc place) is = refl
drop-none (y ∷ xs) zero is = absurd (cc)
drop-none (y ∷ xs) (suc place) is = drop-none xs place is

-- what stands behind a place, once that is gone
drop-gone : (xs : List ℕ) (place x : ℕ) → slice_get xs place ≡ Some x → drop place (take place xs ++ drop (suc place) xs) ≡ drop (suc place) xs
drop-gone [] place x is = absurd (cc)
drop-gone (y ∷ xs) zero x is = refl
drop-gone (y ∷ xs) (suc place) x is = drop-gone xs place x is

length-gone : (xs : List ℕ) (place x : ℕ) → slice_get xs place ≡ Some x → length (take place xs ++ drop (suc place) xs) + 1 ≡ length xs
length-gone [] place x is = absurd (cc)
length-gone (y ∷ xs) zero x is = omega arith
length-gone (y ∷ xs) (suc place) x is = let rest = length-gone xs place x is in omega (arith, rest)

module _ (client : Client) (moment : ℕ) where
  -- what is to be done from a place on
  abbrev pub left_to : ℕ → Kept → Tables → Deed Resources
  left_to place l v = close_all client.server.manager moment (drop place (blocks_of_client l.inodes client)) (told l v)

  module _ (k : Kept) (w : Tables) (meant : Deed Resources) (l m : Kept) (v u : Tables) (place number : ℕ) (has : HasUser l v) (leads : LeadsTo k w meant l v (left_to place l v)) (inodes : Inodes) (same : inodes ≡ l.inodes) (at : Some number ≡ slice_get (blocks_of_client inodes client) place) where
    abbrev numbers : List ℕ
    numbers = blocks_of_client l.inodes client

    there : slice_get numbers place ≡ Some number
    there = ap (λ (inodes : Inodes). slice_get (blocks_of_client inodes client) place) (sym same) ∙ sym at

    abbrev given : Result (Deed Resources) Errno
    given = close_ocb (own_kind client.server.manager) (told l v) number moment

    abbrev later : Resources → Deed Resources
    later = close_all client.server.manager moment (drop (suc place) numbers)

    was-to : left_to place l v ≡ and_then (or_unreplied (told l v) given) later
    was-to = ap (λ numbers. close_all client.server.manager moment numbers (told l v)) (drop-get numbers place number there)

    -- the block at the place stays
    module _ (error : Errno) (refused : given ≡ Err error) (kept : m ≡ l) (kept_too : u ≡ v) where
      passed : left_to place l v ≡ and_then (unreplied (told l v)) later
      passed = was-to ∙ ap (λ given. and_then (or_unreplied (told l v) given) later) refused

      leads-passed : LeadsTo k w meant m u (left_to (suc place) m u)
      leads-passed = rw (kept, kept_too) (record {
        state = ap (λ (d : Deed Resources). d.state) (sym passed) ∙ leads.state;
        shared = ap (λ (d : Deed Resources). shared l v d.state d.answers) (sym passed) ∙ leads.shared;
        user = leads.user;
      })

    -- it is gone
    module _ (once : filter (λ other. not (other == number)) numbers ≡ take place numbers ++ drop (suc place) numbers) (deed : Deed Resources) (did : given ≡ Ok deed) (left : AreLeft l v m u deed) where
      gone : IsGone (told l v) number deed.state
      gone = gives-value (λ (deed : Deed Resources). IsGone (told l v) number deed.state) given deed did (gone-gives client.server.manager (told l v) number moment)

      others : blocks_of_client m.inodes client ≡ take place numbers ++ drop (suc place) numbers
      others = ap (λ (r : Resources). blocks_of_client r.inodes client) left.state ∙ gone-blocks (told l v) deed.state number client gone ∙ once

      was : left_to place l v ≡ and_then deed later
      was = was-to ∙ ap (λ given. and_then (or_unreplied (told l v) given) later) did

      now : left_to place m u ≡ later deed.state
      now = ap₂ (λ numbers r. close_all client.server.manager moment numbers r) (ap (drop place) others ∙ drop-gone numbers place number there) left.state

      few : event_count deed.state.events ≤ event_count (events_of v.events l.user)
      few = fewer-count (events_of v.events l.user) deed.state.events (fewer-by (told l v) number (Ok deed) (gives_done _ deed gone))

      leads-gone : LeadsTo k w meant m u (left_to place m u)
      leads-gone = record {
        state = ap (λ (d : Deed Resources). d.state) now ∙ ap (λ (d : Deed Resources). d.state) (sym was) ∙ leads.state;
        shared =
            ap (λ (d : Deed Resources). shared m u d.state d.answers) now
            ∙ ap (λ (u : Tables). shared m u (later deed.state).state (later deed.state).answers) left.shared
            ∙ shared-then l m v deed.state (later deed.state).state deed.answers (later deed.state).answers left.user has.events few
            ∙ ap (λ (d : Deed Resources). shared l v d.state d.answers) (sym was)
            ∙ leads.shared;
        user = left.user ∙ leads.user;
      }

      gone-fewer : length (blocks_of_client m.inodes client) + 1 ≡ length numbers
      gone-fewer = ap (λ xs. length xs + 1) others ∙ length-gone numbers place number there

    -- it stays, and the next place is looked at
    pub record GoesPast : Type 0 where
      pub leads_on : LeadsTo k w meant m u (left_to (place + 1) m u)
      pub has_user : HasUser m u

    pub leads-past : (result : Result (Unit {0}) Errno) → true ≡ is_err result → Came l v m u result given → GoesPast
    leads-past (Ok done) failed = absurd (cc)
    leads-past (Err error) failed = by given refl
      where
        by : (result : Result (Deed Resources) Errno) → given ≡ result → Came l v m u (Err error) result → GoesPast
        by (Ok deed) is came = absurd came
        by (Err meant) is came = record { leads_on = rw (add-one place) (leads-passed meant is came.1 came.2); has_user = rw (came.1, came.2) has }

    -- it is gone, and the next one stands at its place
    pub record GoesOn : Type 0 where
      pub leads_on : LeadsTo k w meant m u (left_to place m u)
      pub has_user : HasUser m u
      pub fewer : length (blocks_of_client m.inodes client) - place < length numbers - place

    pub leads-on : (let numbers = blocks_of_client inodes client in filter (λ other. not (other == number)) numbers ≡ take place numbers ++ drop (place + 1) numbers) → (result : Result (Unit {0}) Errno) → false ≡ is_err result → Came l v m u result given → GoesOn
    leads-on once (Err error) done = absurd (cc)
    leads-on once (Ok nothing) done = by given refl
      where
        only : filter (λ other. not (other == number)) numbers ≡ take place numbers ++ drop (suc place) numbers
        only = rw (← same, ← add-one place) once

        by : (result : Result (Deed Resources) Errno) → given ≡ result → Came l v m u (Ok tt) result → GoesOn
        by (Ok deed) is left = record { leads_on = leads-gone only deed is left; has_user = has-user l m v u deed has left; fewer = omega (arith, gone-fewer only deed is left, slice_get_within numbers place number there) }
        by (Err error) is came = absurd came

  -- nothing is left to be done
  pub leads-end : (k : Kept) (w : Tables) (meant : Deed Resources) (l : Kept) (v : Tables) (place : ℕ) → LeadsTo k w meant l v (left_to place l v) → slice_get (blocks_of_client l.inodes client) place ≡ None → AreLeft k w l v meant
  leads-end k w meant l v place leads none =
      let end : left_to place l v ≡ unreplied (told l v) = ap (λ numbers. close_all client.server.manager moment numbers (told l v)) (drop-none (blocks_of_client l.inodes client) place none) in
      record {
        state = ap (λ (d : Deed Resources). d.state) (sym end) ∙ leads.state;
        shared = shared-same l v ∙ ap (λ (d : Deed Resources). shared l v d.state d.answers) (sym end) ∙ leads.shared;
        user = leads.user;
      }

-- ---- events that are due by all of that

module _ (lives : ℕ → Bool) (k l : Kept) (w v : Tables) (client : Client) (moment : ℕ) (has : HasUser k w) (left : AreLeft k w l v (close_client (told k w) client moment)) where
  abbrev deed : Deed Resources
  deed = close_client (told k w) client moment

  fewer : Fewer (events_of w.events k.user) deed.state.events
  fewer = fewer-all client.server.manager moment (blocks_of_client k.inodes client) (told k w)

  -- where nothing was armed, nothing is due
  pub unarmed-left : length (events_of w.events k.user).armed ≡ 0 → AreLeft k w l v (disconnected lives (told k w) client moment)
  unarmed-left none =
      let due : deed.state.events ≡ events_settled lives (told k w) deed.state = unarmed-settled (told k w) deed.state (fewer-none (events_of w.events k.user) deed.state.events fewer none) lives in
      subst (λ (events : Events). AreLeft k w l v (record deed { state = record deed.state { events = events } })) due left

  -- where conditions were noted before, due events give their pulses
  pub triggered-left : (before : List Conditions) (u : Tables) → ((number : ℕ) → conditions_in before number ≡ block_conditions (told k w) number)
      → u ≡ record v { events = with_events v.events l.user (triggered lives (conditions_in before) (block_conditions (told l v)) (events_of v.events l.user)) } → AreLeft k w l u (disconnected lives (told k w) client moment)
  triggered-left before u noted is =
      let events : Events = events_settled lives (told k w) deed.state in
      let inside : l.user < length v.events.events = (has-user k l w v deed has left).events in
      let due : triggered lives (conditions_in before) (block_conditions (told l v)) (events_of v.events l.user) ≡ events =
      ap (λ (before : ℕ → Conditions). triggered lives before (block_conditions (told l v)) (events_of v.events l.user)) (λ i number. noted number i)
      ∙ ap (λ (r : Resources). triggered lives (block_conditions (told k w)) (block_conditions r) r.events) left.state in
      let now : u ≡ record v { events = with_events v.events l.user events } = is ∙ ap (λ (events : Events). record v { events = with_events v.events l.user events }) due in
      let got : events_of (with_events v.events l.user events) l.user ≡ events = get_or-set_same v.events.events l.user events no_events inside in
      rw now (record {
        state = λ i. record (left.state i) { events = got i };
        shared = λ i. record {
          shared = (ap (λ (w : Tables). w.shared) left.shared) i;
          mounts = (ap (λ (w : Tables). w.mounts) left.shared) i;
          events = (ap₂ (λ (w : Tables) user. with_events w.events user events) left.shared left.user ∙ events-then w.events k.user has.events deed.state.events events (fewer-count (events_of w.events k.user) deed.state.events fewer)) i;
        };
        user = left.user;
      })
