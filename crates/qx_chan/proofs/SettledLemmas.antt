-- What was done to a user's resources, once the events that are due by it have given their pulses.
use Rattle.std.proofs.Common.{◌≡◌, ℕ, ◌+◌, ◌-◌, Bool, List, Option, Some, None, Result, Ok, Err, length, slice_set, refl, sym, subst, ◌∙◌, ap, arith}
use Rattle.std.specs.Prelude.{IsSome}
use Rattle.std.proofs.lemmas.List.{get_or-set_same, length-set, set-get_or, set-set}
use Rattle.qx_base.specs.declared.errno.Errno.{Errno}
use Rattle.qx_types.specs.declared.outcome.Outcome.{Outcome}
use Rattle.qx_wire.specs.declared.message.Meaning.{Meaning}
use Rattle.qx_machine.specs.declared.rows.Context.{Context}
use Rattle.qx_machine.specs.declared.rows.Ocb.{Ocb}
use Rattle.qx_machine.specs.Events.{Events, event_count, no_events}
use Rattle.qx_machine.specs.Functions.{Deed}
use Rattle.qx_machine.specs.Notification.{events_settled}
use Rattle.qx_machine.specs.Parts.{Part}
use Rattle.qx_machine.specs.Performing.{Served, deed_of}
use Rattle.qx_machine.specs.PipeManager.{cancel_call}
use Rattle.qx_machine.specs.Resources.{Resources}
use Rattle.qx_isolation.specs.Rows.{row_at}
use Rattle.qx_machine.proofs.NotifyLemmas.{settled-unchanged}
use Rattle.qx_notify.specs.Events.{events_of, with_events}
use Rattle.qx_shared.specs.Shared.{Shared, shared_after, state_after, with_pipes}
use Rattle.qx_resmgr.specs.Deeds.{Did}
use Rattle.qx_resmgr.specs.declared.functions.Done.{Done}
use Rattle.qx_resources.specs.State.{HasUser, Kept, state, told}
use Rattle.qx_resources.specs.Watching.{watched_call, watched_over, watched_settled}
use Rattle.qx_resources.specs.declared.tables.Tables.{Tables}
use Rattle.qx_resources.specs.declared.watching.Watched.{Watched}
use Rattle.qx_resources.proofs.WatchLemmas.{there-unstale, watched-cancelled, watched-same, watched-settled, watched-unchanged}
use Rattle.qx_chan.specs.Channel.{Channel}
use Rattle.qx_chan.specs.Serving.{PartServed, Serves, part_in}
use Rattle.qx_chan.specs.inner.Serving.{Comes, Leaves}
use Rattle.qx_chan.proofs.ServeLemmas.{left-same, nothing_done}

-- ---- the user is one of those who share still

pub fits-did : (k l : Kept) (w v : Tables) (bytes : List ℕ) (given : Result Done Errno) (r : Result (Deed Resources) Errno) → HasUser k w → Did state k w l v bytes given r → HasUser l v
fits-did k l w v bytes (Ok done) (Ok deed) fits did = record {
  pipes = rw (did.3, did.2, length-set w.shared.pipes k.user deed.state.pipes) fits.pipes;
  events = rw (did.3, did.2, length-set w.events.events k.user deed.state.events) fits.events;
}
fits-did k l w v bytes (Err error) (Err meant) fits did = rw (did.1, did.2) fits
fits-did k l w v bytes (Ok done) (Err meant) fits did = absurd did
fits-did k l w v bytes (Err error) (Ok deed) fits did = absurd did

length-after : (c : Shared) (user : ℕ) (r : Result (Deed Resources) Outcome) → length (shared_after c user r).pipes ≡ length c.pipes
length-after c user (Ok deed) = length-set c.pipes user deed.state.pipes
length-after c user (Err outcome) = refl

pub fits-cancelled : (k l : Kept) (w v : Tables) (r : Result (Deed Resources) Outcome) → HasUser k w → l.user ≡ k.user → v ≡ record w { shared = shared_after w.shared k.user r } → HasUser l v
fits-cancelled k l w v r fits user is = record { pipes = rw (user, is, length-after w.shared k.user r) fits.pipes; events = rw (user, is) fits.events }

-- ---- due events have given their pulses

-- what all share then, where a pipe was watched
abbrev pub triggered_in : (ℕ → Bool) → Kept → Tables → Option Watched → Tables
triggered_in lives l v watched = record v { events = with_events v.events l.user (watched_settled lives watched (told l v)) }

module _ (lives : ℕ → Bool) (k l : Kept) (w v : Tables) (watched : Option Watched) (deed : Deed Resources) (fits : HasUser l v) where
  leaves : told l v ≡ deed.state → v.shared ≡ with_pipes w.shared k.user deed.state.pipes deed.answers → v.mounts ≡ w.mounts → l.user ≡ k.user
      → ((e : Events) → slice_set v.events.events k.user e ≡ slice_set w.events.events k.user e)
      → watched_settled lives watched deed.state ≡ events_settled lives (told k w) deed.state → Leaves lives k w l (triggered_in lives l v watched) deed
  leaves told_is shared mounts user others due = record {
    told_is = ap (λ (e : Events). record (told l v) { events = e }) (get_or-set_same v.events.events l.user now no_events fits.events)
        ∙ ap (λ (r : Resources). record r { events = watched_settled lives watched r }) told_is ∙ ap (λ (e : Events). record deed.state { events = e }) due;
    shared = shared;
    events = ap (λ u. slice_set v.events.events u now) user ∙ others now ∙ ap (λ r. slice_set w.events.events k.user (watched_settled lives watched r)) told_is ∙ ap (slice_set w.events.events k.user) due;
    mounts = mounts;
    user = user;
  }
    where
      now : Events
      now = watched_settled lives watched (told l v)

-- nothing is due where nothing was done
same_room : (room count : ℕ) → room + count - count ≡ room
same_room room count = omega arith

none_due : (lives : ℕ → Bool) (k : Kept) (w : Tables) (watched : Option Watched) → watched_settled lives watched (told k w) ≡ events_of w.events k.user → triggered_in lives k w watched ≡ w
none_due lives k w watched due =
    ap (λ (e : Events). record w { events = with_events w.events k.user e }) due
    ∙ (λ i. record w { events = record { events = set-get_or w.events.events k.user no_events i; room = same_room w.events.room (event_count (events_of w.events k.user)) i } })

-- what is open is there
abbrev pub IsOpenThere : Kept → Type 0
IsOpenThere k = (number : ℕ) (block : Ocb) → row_at k.inodes.blocks number ≡ Some block → IsSome (row_at k.inodes.attributes block.inode)

-- a message was done
pub comes : (lives : ℕ → Bool) (k l : Kept) (w v now : Tables) (context : Context) (means : Meaning) (watched : Option Watched) (bytes : List ℕ) (given : Result Done Errno) (r : Result (Deed Resources) Errno)
    → HasUser k w → IsOpenThere k → deed_of (told k w) context means ≡ r → watched ≡ watched_over (told k w) means context.opened → now ≡ triggered_in lives l v watched → Did state k w l v bytes given r → Comes lives k w l now bytes given r
comes lives k l w v now context means watched bytes (Ok done) (Ok deed) fits there is watches triggers did = (
  did.0,
  subst (λ now. Leaves lives k w l now deed) (sym triggers) (leaves lives k l w v watched deed (fits-did k l w v bytes (Ok done) (Ok deed) fits did) did.1 (ap (λ (v : Tables). v.shared) did.2) (ap (λ (v : Tables). v.mounts) did.2) did.3
      (λ e. ap (λ (v : Tables). slice_set v.events.events k.user e) did.2 ∙ set-set w.events.events k.user deed.state.events e)
      (ap (λ watched. watched_settled lives watched deed.state) watches
      ∙ watched-settled lives (told k w) context means deed (there-unstale (told k w) there) is)),
)
comes lives k l w v now context means watched bytes (Err error) (Err meant) fits there is watches triggers did = (
  did.0,
  did.1,
  triggers ∙ ap (λ (l : Kept). triggered_in lives l v watched) did.1 ∙ ap (λ (v : Tables). triggered_in lives k v watched) did.2
      ∙ none_due lives k w watched (ap (λ watched. watched_settled lives watched (told k w)) watches ∙ watched-unchanged lives (told k w) means context.opened),
)
comes lives k l w v now context means watched bytes (Ok done) (Err meant) fits there is watches triggers did = absurd did
comes lives k l w v now context means watched bytes (Err error) (Ok deed) fits there is watches triggers did = absurd did

-- an unblock pulse was done: it leaves that, or nothing
abbrev pub Cancelled : (ℕ → Bool) → Kept → Tables → Kept → Tables → Result (Deed Resources) Outcome → Type 0
Cancelled lives k w l v (Ok deed) = Leaves lives k w l v deed
Cancelled lives k w l v (Err outcome) = Leaves lives k w l v (nothing_done (told k w))

module _ (lives : ℕ → Bool) (k l : Kept) (w v now : Tables) (process thread call moment : ℕ) (watched : Option Watched) (fits : HasUser l v) (user : l.user ≡ k.user)
    (watches : watched ≡ watched_call (told k w) process thread call) (triggers : now ≡ triggered_in lives l v watched) where
  pub cancelled : (r : Result (Deed Resources) Outcome) → cancel_call (told k w) process thread call moment ≡ r
      → told l v ≡ state_after (told k w) r → v ≡ record w { shared = shared_after w.shared k.user r } → Cancelled lives k w l now r
  cancelled (Ok deed) is told_is shared =
      subst (λ now. Leaves lives k w l now deed) (sym triggers) (leaves lives k l w v watched deed fits told_is (ap (λ (v : Tables). v.shared) shared) (ap (λ (v : Tables). v.mounts) shared) user
      (λ e. ap (λ (v : Tables). slice_set v.events.events k.user e) shared)
      (ap (λ watched. watched_settled lives watched deed.state) watches ∙ watched-cancelled lives (told k w) process thread call moment deed is))
  cancelled (Err outcome) is told_is shared =
      subst (λ now. Leaves lives k w l now (nothing_done (told k w))) (sym triggers) (leaves lives k l w v watched (nothing_done (told k w)) fits told_is (ap (λ (v : Tables). v.shared) shared ∙ (left-same lives k w).shared) (ap (λ (v : Tables). v.mounts) shared) user
      (λ e. ap (λ (v : Tables). slice_set v.events.events k.user e) shared)
      (ap (λ watched. watched_settled lives watched (told k w)) watches ∙ watched-same lives (told k w) process thread call ∙ sym (settled-unchanged lives (told k w) (told k w) refl refl)))

-- ---- who has a place for pipes has one for events still

pub places : (c d : Channel) (k l : Kept) (served : Part → Served) → Serves c d k l served → length c.events ≡ length c.pipes → length d.events ≡ length d.pipes
places c d k l served serves same = by_part (part_in c k) serves.did
  where
    by_part : (part : Option Part) → PartServed c d k l served part → length d.events ≡ length d.pipes
    by_part None did = ap (λ (d : Channel). length d.events) did.0 ∙ same ∙ sym (ap (λ (d : Channel). length d.pipes) did.0)
    by_part (Some part) did =
        ap (λ (d : Channel). length d.events) did.0 ∙ length-set c.events k.user (served part).part.resources.events ∙ same
        ∙ sym (ap (λ (d : Channel). length d.pipes) did.0 ∙ length-set c.pipes k.user (served part).part.resources.pipes)
