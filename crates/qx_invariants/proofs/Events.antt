-- A user's armed events and untaken pulses together are no more than there may be, and each process has a queue for its pulses, whatever happens.
use Rattle.std.proofs.Common.{◌≡◌, inl, inr, ℕ, zero, suc, ◌+◌, ◌<◌, ◌≤◌, ◌==◌, Bool, true, false, not, List, [], ◌∷◌, ◌++◌, length, map, drop, refl, sym, ap, ◌∙◌, subst, arith, length-append, length-drop}
use Rattle.std.specs.Prelude.{◌&&◌, filter, nat_lt, sum_by}
use Rattle.std.proofs.Math.ListN.{length-set}
use Rattle.std.proofs.lemmas.Bool.{cases_Bool, cases_eq, cond_both, eq-eqb, eqb-true, ltb-true, ne_eqb}
use Rattle.std.proofs.lemmas.List.{append_assoc, append-nil}
use Rattle.std.proofs.lemmas.List.Filters.{length-filter_both}
use Rattle.std.proofs.lemmas.List.Sums.{sum_by-cons}
use Rattle.qx_base.specs.declared.errno.Errno.TheVariants.{EAGAIN}
use Rattle.qx_types.specs.declared.fields.NotifyAction.{NotifyAction}
use Rattle.qx_types.specs.declared.fields.NotifyAction.TheVariants.{Poll, PollArm, TranArm}
use Rattle.qx_types.specs.UserLimits.{UserLimits}
use Rattle.qx_types.specs.declared.limits.TheConstants.Limits.{PROCESSES}
use Rattle.qx_machine.specs.declared.rows.Conditions.{Conditions}
use Rattle.qx_machine.specs.declared.rows.Event.{Event}
use Rattle.qx_machine.specs.declared.rows.Kind.{Kind}
use Rattle.qx_machine.specs.declared.rows.Pulse.{Pulse}
use Rattle.qx_machine.specs.Defaults.{without_block, without_unused}
use Rattle.qx_machine.specs.Events.{Events, Notified, arm_event, arming, disarmed, event_count, is_any, is_due, is_on, notified, pulse_of, triggered, wanted_of, with_pulse, with_pulses, without_first_pulse, without_pulses}
use Rattle.qx_machine.specs.Inodes.{new_attribute}
use Rattle.qx_isolation.specs.Judgements.{need}
use Rattle.qx_isolation.specs.Lines.{line_at, with_line}
use Rattle.qx_machine.specs.Names.{under}
use Rattle.qx_machine.specs.Resources.{Resources}
use Rattle.qx_process.proofs.ServerLemmas.{line_at-here, line_at-other}
use Rattle.qx_invariants.specs.Holds.{due_pulses}
use Rattle.qx_invariants.specs.Changes.{AreKept, Closes, Comes, MayHappen, Notifies, ResourceChange, Unlinks, with_change, with_named, with_unlinked}
use Rattle.qx_machine.proofs.Gives.{Gives, gives_by, gives_done, gives_on, need-true}
use Rattle.qx_invariants.proofs.Rooms.{limits_stay}
use Rattle.qx_invariants.proofs.Rows.{content_cases, empty_cases, freed, unused_cases}

-- ---- fewer events

filter-fewer : {A : Type 0} (which : A → Bool) (all : List A) → length (filter which all) ≤ length all
filter-fewer which all = let both = length-filter_both which (λ one. not (which one)) (λ one. refl) all in omega (arith, both)

-- a queue changes
line-count : (pulses : List (List Pulse)) (number : ℕ) (change : List Pulse → List Pulse) (more : ℕ) → ((queue : List Pulse) → length (change queue) ≤ length queue + more) → sum_by length (with_line pulses number change) ≤ sum_by length pulses + more
line-count [] number change more few = omega arith
line-count (queue ∷ queues) zero change more few =
    let now = sum_by-cons length (change queue) queues in
    let was = sum_by-cons length queue queues in
    let its = few queue in
    omega (arith, now, was, its)
line-count (queue ∷ queues) (suc number) change more few =
    let now = sum_by-cons length queue (with_line queues number change) in
    let was = sum_by-cons length queue queues in
    let rest = line-count queues number change more few in
    omega (arith, now, was, rest)

line-length : (pulses : List (List Pulse)) (number : ℕ) (change : List Pulse → List Pulse) → length (with_line pulses number change) ≡ length pulses
line-length pulses number change = length-set pulses number _

-- what a block had armed goes
pub disarmed-kept : (most block : ℕ) (events : Events) → AreKept most events (disarmed block events)
disarmed-kept most block events = record { few = inl (let fewer = filter-fewer (λ event. not (is_on block event)) events.armed in omega (arith, fewer)); queues = refl }

-- a process takes its first pulse
pub taken-kept : (most process : ℕ) (events : Events) → AreKept most events (without_first_pulse process events)
taken-kept most process events = record {
  few = inl (let fewer = line-count events.pulses process (drop 1) 0 (λ queue. let long = length-drop 1 queue in omega (arith, long)) in omega (arith, fewer));
  queues = line-length events.pulses process (drop 1);
}

-- a process has no pulses any more
pub ended-kept : (most process : ℕ) (events : Events) → AreKept most events (without_pulses process events)
ended-kept most process events = record {
  few = inl (let fewer = line-count events.pulses process (λ queue. []) 0 (λ queue. omega arith) in omega (arith, fewer));
  queues = line-length events.pulses process (λ queue. []);
}

-- ---- a notification

arming-kept : (most : ℕ) (event : Event) (events : Events) → Gives (λ (given : Notified). AreKept most events given.events) (arming most event events)
arming-kept most event events =
    gives_by (AreKept most events) _ (arm_event most event events) _
    (gives_on _ (need (nat_lt (event_count (disarmed event.block events)) most) EAGAIN) _ (λ few is_few.
    let room = ltb-true (event_count (disarmed event.block events)) most (need-true _ _ few is_few) in
    let longer = length-append (disarmed event.block events).armed (event ∷ []) in
    gives_done _ _ (record { few = inr (omega (arith, room, longer)); queues = refl })))
    (λ armed kept. gives_done _ _ kept)

pub notified-kept : (most : ℕ) (action : NotifyAction) (event : Event) (holding : Conditions) (events : Events) → Gives (λ (given : Notified). AreKept most events given.events) (notified most action event holding events)
notified-kept most Poll event holding events = gives_done _ _ (disarmed-kept most event.block events)
notified-kept most TranArm event holding events = arming-kept most event events
notified-kept most PollArm event holding events =
    cond_both (is_any (wanted_of event.conditions holding)) _ _ (Gives (λ (given : Notified). AreKept most events given.events)) (λ is. gives_done _ _ (disarmed-kept most event.block events)) (λ is. arming-kept most event events)

-- ---- the end of a step

module _ (due gives : Event → Bool) (only : (event : Event) → due event ≡ false → gives event ≡ false) (after : ℕ → Conditions) where
  -- each due event gives at most one pulse
  given-fewer : (events : List Event) (pulses : List (List Pulse)) → length (filter (λ event. not (due event)) events) + sum_by length (with_pulses gives after events pulses) ≤ length events + sum_by length pulses
  given-fewer [] pulses = omega arith
  given-fewer (event ∷ events) pulses = elim (cases_Bool (due event)) [
    | inl is ↦ elim (cases_Bool (gives event)) [
      | inl one_is ↦
          let new = pulse_of event (after event.block) in
          let one = line-count pulses event.process (λ queue. queue ++ new ∷ []) 1 (λ queue. let long = length-append queue (new ∷ []) in omega (arith, long)) in
          let rest = given-fewer events (with_pulse event.process new pulses) in
          rw (is, one_is) (omega (arith, one, rest))
      | inr none_is ↦ let rest = given-fewer events pulses in rw (is, none_is) (omega (arith, rest))
    ]
    | inr not_so ↦ let none_is = only event not_so in let rest = given-fewer events pulses in rw (not_so, none_is) (omega (arith, rest))
  ]

given-queues : (gives : Event → Bool) (after : ℕ → Conditions) (events : List Event) (pulses : List (List Pulse)) → length (with_pulses gives after events pulses) ≡ length pulses
given-queues gives after [] pulses = refl
given-queues gives after (event ∷ events) pulses = elim (cases_Bool (gives event)) [
  | inl is ↦ rw is (given-queues gives after events (with_pulse event.process (pulse_of event (after event.block)) pulses) ∙ line-length pulses event.process (λ queue. queue ++ pulse_of event (after event.block) ∷ []))
  | inr not_so ↦ rw not_so (given-queues gives after events pulses)
]

module _ (lives : ℕ → Bool) (before after : ℕ → Conditions) (events : Events) where
  pub triggered-fewer : event_count (triggered lives before after events) ≤ event_count events
  triggered-fewer = given-fewer (is_due before after) (λ event. is_due before after event && lives event.process) (λ event not_so. ap (λ b. b && lives event.process) not_so) after events.armed events.pulses

  pub triggered-kept : (most : ℕ) → AreKept most events (triggered lives before after events)
  triggered-kept most = record { few = inl triggered-fewer; queues = given-queues (λ event. is_due before after event && lives event.process) after events.armed events.pulses }

-- ---- whose pulses

abbrev its-pulse : (ℕ → Conditions) → Event → Pulse
its-pulse after event = pulse_of event (after event.block)

-- behind a process' queue come the pulses of its events that give some
given-queue : (gives : Event → Bool) (after : ℕ → Conditions) (process : ℕ) (events : List Event) (pulses : List (List Pulse)) → process < length pulses
    → line_at (with_pulses gives after events pulses) process ≡ line_at pulses process ++ map (its-pulse after) (filter (λ event. gives event && (event.process == process)) events)
given-queue gives after process [] pulses here = sym (append-nil (line_at pulses process))
given-queue gives after process (event ∷ events) pulses here = elim (cases_Bool (gives event)) [
  | inl is ↦
      let new = its-pulse after event in
      let more : List Pulse → List Pulse = λ queue. queue ++ new ∷ [] in
      let others = map (its-pulse after) (filter (λ other. gives other && (other.process == process)) events) in
      let long = line-length pulses event.process more in
      let rest = given-queue gives after process events (with_pulse event.process new pulses) (omega (arith, here, long)) in
      elim (cases_eq event.process process) [
        | inl same ↦
            let own : line_at (with_pulse event.process new pulses) process ≡ line_at pulses process ++ new ∷ [] =
            subst (λ number. line_at (with_pulse event.process new pulses) number ≡ line_at pulses number ++ new ∷ []) same (line_at-here pulses event.process more (omega (arith, here, same))) in
            rw (is, eq-eqb event.process process same) (rest ∙ (ap (λ queue. queue ++ others) own ∙ append_assoc (line_at pulses process) (new ∷ []) others))
        | inr apart ↦
            rw (is, ne_eqb event.process process apart) (rest ∙ ap (λ queue. queue ++ others) (line_at-other pulses event.process process more (λ same. apart (sym same))))
      ]
  | inr not_so ↦ rw not_so (given-queue gives after process events pulses here)
]

module _ (lives : ℕ → Bool) (before after : ℕ → Conditions) (events : Events) (process : ℕ) (here : process < length events.pulses) where
  all : line_at (triggered lives before after events).pulses process ≡ line_at events.pulses process ++ map (its-pulse after) (filter (λ event. (is_due before after event && lives event.process) && (event.process == process)) events.armed)
  all = given-queue (λ event. is_due before after event && lives event.process) after process events.armed events.pulses here

  pub living-queue : lives process ≡ true → line_at (triggered lives before after events).pulses process ≡ line_at events.pulses process ++ due_pulses before after process events.armed
  living-queue alive =
      all ∙ (λ i. line_at events.pulses process ++ map (its-pulse after) (filter (λ event. by (is_due before after event) (lives event.process) (event.process == process) (λ own. ap lives (eqb-true event.process process own) ∙ alive) i) events.armed))
    where
      by : (due alive own : Bool) → (own ≡ true → alive ≡ true) → ((due && alive) && own) ≡ (due && own)
      by false alive own follows = refl
      by true true own follows = refl
      by true false false follows = refl
      by true false true follows = let clash : false ≡ true = follows refl in absurd (cc)

  pub ended-queue : lives process ≡ false → line_at (triggered lives before after events).pulses process ≡ line_at events.pulses process
  ended-queue gone =
      all ∙ (ap (λ own. line_at events.pulses process ++ map (its-pulse after) own) (none events.armed) ∙ append-nil (line_at events.pulses process))
    where
      by : (due alive own : Bool) → (own ≡ true → alive ≡ false) → ((due && alive) && own) ≡ false
      by false alive own follows = refl
      by true false own follows = refl
      by true true false follows = refl
      by true true true follows = let clash : true ≡ false = follows refl in absurd (cc)

      none : (armed : List Event) → filter (λ event. (is_due before after event && lives event.process) && (event.process == process)) armed ≡ []
      none [] = refl
      none (event ∷ armed) = rw (by (is_due before after event) (lives event.process) (event.process == process) (λ own. ap lives (eqb-true event.process process own) ∙ gone)) (none armed)

-- ---- whatever happens

pub record HasEvents (r : Resources) : Type 0 where
  -- armed events and untaken pulses together are no more than may be
  pub few : event_count r.events ≤ r.limits.events
  -- there is a queue for the pulses of each process
  pub queues : length r.events.pulses ≡ PROCESSES + 1

unused-events : (own : Kind) (inode : ℕ) (r : Resources) → (without_unused own inode r).events ≡ r.events
unused-events own inode r = unused_cases (λ (s : Resources). s.events ≡ r.events) own inode r (λ gone. content_cases (λ (s : Resources). s.events ≡ r.events) own inode (freed inode r) (λ is. refl) (λ is. refl) (λ is. refl)) (λ stays. refl)

-- what a user's events are afterwards
abbrev events_after : ResourceChange → Events → Events
events_after (Notifies events) before = events
events_after _ before = before

now-events : (change : ResourceChange) (r : Resources) → (with_change change r).events ≡ events_after change r.events
now-events (Comes inode directory name which mode moment) r = empty_cases (λ (s : Resources). s.events ≡ r.events) which inode (with_named inode (under directory name) (new_attribute which mode r.user moment) r) (λ is. refl) (λ is. refl) (λ is. refl)
now-events (Unlinks own directory name inode mtime ctime) r = unused-events own inode (with_unlinked inode (under directory name) mtime ctime r)
now-events (Closes own number block parting) r = unused-events own block.inode (without_block number r)
now-events _ r = refl

kept-events : (change : ResourceChange) (r : Resources) → MayHappen change r → HasEvents r → HasEvents (record r { events = events_after change r.events })
kept-events (Notifies events) r may h = record {
  few = elim may.few [ inl fewer ↦ let few = h.few in omega (arith, fewer, few) | inr few ↦ few ];
  queues = may.queues ∙ h.queues;
}
kept-events _ r may h = record { few = h.few; queues = h.queues }

pub events-keep : (change : ResourceChange) (r : Resources) → MayHappen change r → HasEvents r → HasEvents (with_change change r)
events-keep change r may h =
    let now = kept-events change r may h in
    let few = subst (λ (events : Events). event_count events ≤ r.limits.events) (sym (now-events change r)) now.few in
    record { few = subst (λ (limits : UserLimits). event_count (with_change change r).events ≤ limits.events) (sym (limits_stay change r)) few; queues = ap (λ (events : Events). length events.pulses) (now-events change r) ∙ now.queues }
