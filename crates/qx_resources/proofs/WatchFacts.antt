-- Nothing is due where no condition comes to hold, and who watches one pipe is told all that is due by it.
use Rattle.std.proofs.Common.{◌≡◌, inl, inr, ℕ, Bool, true, false, not, ◌==◌, length, refl, sym, ap, subst, ◌∙◌, Option, Some, None, ◌≢◌, List, ◌∷◌, []}
use Rattle.std.proofs.Math.Bool.{and-false}
use Rattle.std.proofs.lemmas.Bool.{eq-eqb, eqb-true, true≢false, and_cases, cases_eq, cond-false, cond-true, ne_eqb}
use Rattle.std.specs.List.{AllByRecursion}
use Rattle.std.specs.Prelude.{◌&&◌, ◌||◌, filter, is_some, if◌then◌else◌}
use Rattle.qx_types.specs.declared.flags.TheConstants.Conds.{INPUT, OUTPUT}
use Rattle.qx_machine.specs.declared.rows.Conditions.{Conditions}
use Rattle.qx_machine.specs.declared.rows.Event.{Event}
use Rattle.qx_machine.specs.declared.rows.Ocb.{Ocb}
use Rattle.qx_machine.specs.declared.rows.Pulse.{Pulse}
use Rattle.qx_machine.specs.declared.rows.WaitingCall.{WaitingCall}
use Rattle.qx_machine.specs.Events.{Events, come_to_hold, is_any, is_due, is_wanted, triggered, wanted_of, with_pulses}
use Rattle.qx_machine.specs.Notification.{block_conditions, conditions_of, events_settled}
use Rattle.qx_machine.specs.Pipes.{Pipe}
use Rattle.qx_machine.specs.Resources.{Resources}
use Rattle.qx_isolation.specs.Rows.{row_at}
use Rattle.qx_machine.specs.Waiting.{sides_of}
use Rattle.qx_machine.proofs.EventFacts.{Agree, triggered-alike}
use Rattle.qx_resources.specs.declared.watching.Watched.{Watched}
use Rattle.qx_resources.proofs.WatchQuiet.{IsQuiet, inode_of, quiet-over, quiet-both, block-over}
use Rattle.qx_resources.specs.Watching.{pipe_conditions, unwatched, told_of, told_over, watch, watched_settled}

-- ---- of all events

module _ (P Q : Event → Type 0) where
  pub all-weaker : (events : List Event) → ((event : Event) → P event → Q event) → AllByRecursion P events → AllByRecursion Q events
  all-weaker [] more h = tt
  all-weaker (e ∷ es) more h = (more e h.0, all-weaker es more h.1)

pub all-events : (P : Event → Type 0) (events : List Event) → ((event : Event) → P event) → AllByRecursion P events
all-events P [] h = tt
all-events P (e ∷ es) h = (h e, all-events P es h)

-- ---- what is due

none-due : (wanted_input wanted_output input output : Bool) → input ≡ false → output ≡ false → ((wanted_input && input) || (wanted_output && output)) ≡ false
none-due wanted_input wanted_output input output no_input no_output = rw (no_input, no_output, and-false wanted_input, and-false wanted_output) refl

module _ (before after : ℕ → Conditions) where
  not-due : (event : Event) → IsQuiet (before event.block) (after event.block) → is_due before after event ≡ false
  not-due event quiet =
      none-due (is_wanted event.conditions INPUT) (is_wanted event.conditions OUTPUT) ((after event.block).input && not (before event.block).input) ((after event.block).output && not (before event.block).output) quiet.input quiet.output

  all-stay : (events : List Event) → AllByRecursion (λ event. is_due before after event ≡ false) events → filter (λ event. not (is_due before after event)) events ≡ events
  all-stay [] none = refl
  all-stay (e ∷ es) none = rw none.0 (ap (λ xs. e ∷ xs) (all-stay es none.1))

  none-given : (due : Event → Bool) (events : List Event) (pulses : List (List Pulse)) → AllByRecursion (λ event. due event ≡ false) events → with_pulses due after events pulses ≡ pulses
  none-given due [] pulses none = refl
  none-given due (e ∷ es) pulses none = rw none.0 (none-given due es pulses none.1)

  -- events of which none is due stay as they are
  pub triggered-still : (lives : ℕ → Bool) (events : Events) → AllByRecursion (λ event. is_due before after event ≡ false) events.armed → triggered lives before after events ≡ events
  triggered-still lives events none =
      let gives : Event → Bool = λ event. is_due before after event && lives event.process in
      let armed = all-stay events.armed none in
      let silent = all-weaker (λ event. is_due before after event ≡ false) (λ event. gives event ≡ false) events.armed (λ event due. ap (λ (due : Bool). due && lives event.process) due) none in
      let pulses = none-given gives events.armed events.pulses silent in
      λ i. record { armed = armed i; pulses = pulses i }

-- ---- what is told

-- what is told of a block, by its inode
abbrev told_in : Option ℕ → ℕ → Conditions → Conditions
told_in None inode these = unwatched
told_in (Some place) inode these = if place == inode then these else unwatched

told-is : (row : Option Ocb) (inode : ℕ) (these : Conditions) → told_of row inode these ≡ told_in (inode_of row) inode these
told-is None inode these = refl
told-is (Some block) inode these = refl

-- ---- what is settled

-- it is enough to watch this: it tells of each event that is due, whoever lives
abbrev pub IsEnough : Resources → Option Watched → Resources → Type 0
IsEnough r watched s = (lives : ℕ → Bool) → watched_settled lives watched s ≡ events_settled lives r s

module _ (r s : Resources) where
  -- nothing comes to hold of any block
  abbrev pub IsStill : Type 0
  IsStill = (number : ℕ) → IsQuiet (block_conditions r number) (block_conditions s number)

  abbrev Quiet : Event → Type 0
  Quiet event = IsQuiet (block_conditions r event.block) (block_conditions s event.block)

  quiet-settled : AllByRecursion Quiet s.events.armed → IsEnough r None s
  quiet-settled quiet lives =
      sym (triggered-still (block_conditions r) (block_conditions s) lives s.events
      (all-weaker Quiet (λ event. is_due (block_conditions r) (block_conditions s) event ≡ false) s.events.armed (not-due (block_conditions r) (block_conditions s)) quiet))

  -- where nothing is armed, nothing is due
  pub unarmed-settled : s.events.armed ≡ [] → IsEnough r None s
  unarmed-settled none = quiet-settled (subst (AllByRecursion Quiet) (sym none) tt)

  pub still-settled : IsStill → IsEnough r None s
  still-settled still = quiet-settled (all-events Quiet s.events.armed (λ event. still event.block))

  -- the block of an event has the same pipe open
  abbrev pub Stays : Event → Type 0
  Stays event = inode_of (row_at r.inodes.blocks event.block) ≡ inode_of (row_at s.inodes.blocks event.block)

  -- nothing comes to hold of a pipe but this one
  abbrev pub OthersAreStill : ℕ → Type 0
  OthersAreStill inode = (other : ℕ) → other ≢ inode → IsQuiet (pipe_conditions r other) (pipe_conditions s other)

  module _ (inode : ℕ) (others : OthersAreStill inode) where
    abbrev before_told : ℕ → Conditions
    before_told = told_over s inode (pipe_conditions r inode)

    abbrev after_told : ℕ → Conditions
    after_told = told_over s inode (pipe_conditions s inode)

    agree-quiet : (event : Event) → before_told event.block ≡ unwatched → Quiet event → Agree before_told after_told (block_conditions r) (block_conditions s) event
    agree-quiet event none quiet =
        let told = not-due before_told after_told event (quiet-both (before_told event.block) (after_told event.block) none) in
        record {
          due = told ∙ sym (not-due (block_conditions r) (block_conditions s) event quiet);
          holding = λ is. absurd (true≢false (sym is ∙ told));
        }

    agree-same : (event : Event) → before_told event.block ≡ block_conditions r event.block → after_told event.block ≡ block_conditions s event.block → Agree before_told after_told (block_conditions r) (block_conditions s) event
    agree-same event before after = record {
      due = λ i. is_any (wanted_of event.conditions (come_to_hold (before i) (after i)));
      holding = λ is. after;
    }

    told-own : (event : Event) (place : ℕ) → inode_of (row_at s.inodes.blocks event.block) ≡ Some place → place ≡ inode → (these : Conditions) → told_over s inode these event.block ≡ these
    told-own event place is same these =
        told-is (row_at s.inodes.blocks event.block) inode these ∙ (ap (λ place. told_in place inode these) is ∙ cond-true (place == inode) these unwatched (eq-eqb place inode same))

    by-place : (event : Event) (place : Option ℕ) → inode_of (row_at r.inodes.blocks event.block) ≡ place → inode_of (row_at s.inodes.blocks event.block) ≡ place → Agree before_told after_told (block_conditions r) (block_conditions s) event
    by-place event None was is =
        agree-quiet event (told-is (row_at s.inodes.blocks event.block) inode (pipe_conditions r inode) ∙ ap (λ place. told_in place inode (pipe_conditions r inode)) is)
        (quiet-both _ _ (block-over r event.block None was))
    by-place event (Some place) was is = elim (cases_eq place inode) [
      | inl same ↦
          agree-same event
          (told-own event place is same (pipe_conditions r inode) ∙ (ap (pipe_conditions r) (sym same) ∙ sym (block-over r event.block (Some place) was)))
          (told-own event place is same (pipe_conditions s inode) ∙ (ap (pipe_conditions s) (sym same) ∙ sym (block-over s event.block (Some place) is)))
      | inr apart ↦
          agree-quiet event
          (told-is (row_at s.inodes.blocks event.block) inode (pipe_conditions r inode) ∙ (ap (λ place. told_in place inode (pipe_conditions r inode)) is ∙ cond-false (place == inode) (pipe_conditions r inode) unwatched (ne_eqb place inode apart)))
          (quiet-over r s event.block (Some place) (Some place) was is (others place apart))
    ]

    -- where only the pipe of this inode may come to be ready, it is enough to tell of that
    pub told-settled : AllByRecursion Stays s.events.armed → IsEnough r (Some (record { inode = inode; before = pipe_conditions r inode })) s
    told-settled stay lives =
        triggered-alike before_told after_told (block_conditions r) (block_conditions s) lives s.events
        (all-weaker Stays (Agree before_told after_told (block_conditions r) (block_conditions s)) s.events.armed (λ event same. by-place event (inode_of (row_at s.inodes.blocks event.block)) same refl) stay)

    -- where no pipe is in this inode, nothing comes to hold of its blocks either
    unpiped-quiet : row_at r.pipes inode ≡ None → (event : Event) → Stays event → Quiet event
    unpiped-quiet none event same = by (inode_of (row_at s.inodes.blocks event.block)) same refl
      where
        by : (place : Option ℕ) → inode_of (row_at r.inodes.blocks event.block) ≡ place → inode_of (row_at s.inodes.blocks event.block) ≡ place → Quiet event
        by None was is = quiet-both _ _ (block-over r event.block None was)
        by (Some place) was is = elim (cases_eq place inode) [
          | inl own ↦ quiet-both _ _ (block-over r event.block (Some place) was ∙ (ap (pipe_conditions r) own ∙ ap (conditions_of (sides_of r.inodes inode)) none))
          | inr apart ↦ quiet-over r s event.block (Some place) (Some place) was is (others place apart)
        ]

    -- so it is enough to watch the pipe of this inode
    pub watch-settled : AllByRecursion Stays s.events.armed → (length r.events.armed ≡ 0 → s.events.armed ≡ []) → IsEnough r (watch r inode) s
    watch-settled stay unarmed = by (not (length r.events.armed == 0) && is_some (row_at r.pipes inode)) refl
      where
        unsome : (row : Option (Pipe WaitingCall)) → is_some row ≡ false → row ≡ None
        unsome None is = refl
        unsome (Some pipe) is = absurd (true≢false is)

        unnot : (test : Bool) → not test ≡ false → test ≡ true
        unnot true is = refl
        unnot false is = absurd (true≢false is)

        by : (test : Bool) → (not (length r.events.armed == 0) && is_some (row_at r.pipes inode)) ≡ test → IsEnough r (if test then Some (record { inode = inode; before = pipe_conditions r inode }) else None) s
        by true is = told-settled stay
        by false is = elim (and_cases (not (length r.events.armed == 0)) (is_some (row_at r.pipes inode)) is) [
          | inl empty ↦ unarmed-settled (unarmed (eqb-true (length r.events.armed) 0 (unnot _ empty)))
          | inr unpiped ↦ quiet-settled (all-weaker Stays Quiet s.events.armed (unpiped-quiet (unsome (row_at r.pipes inode) unpiped)) stay)
        ]
