-- With an open control block that is gone a client has the others still, and no events come by it.
use Rattle.std.proofs.Common.{◌≡◌, ◌∙◌, ◌≤◌, ◌==◌, inl, inr, ℕ, Bool, true, false, not, List, [], ◌∷◌, Option, None, Result, Ok, Err, length, slice_set, refl, sym, ap, ap₂, arith, subst}
use Rattle.std.specs.Prelude.{filter, sum_by}
use Rattle.std.proofs.lemmas.Bool.{cases_Bool, eq-eqb, false≢true}
use Rattle.qx_base.specs.declared.errno.Errno.{Errno}
use Rattle.qx_types.specs.declared.names.Manager.{Manager}
use Rattle.qx_machine.specs.declared.rows.Client.{Client}
use Rattle.qx_machine.specs.declared.rows.Event.{Event}
use Rattle.qx_machine.specs.declared.rows.Ocb.{Ocb}
use Rattle.qx_machine.specs.Defaults.{close_ocb, free_block}
use Rattle.qx_machine.specs.Events.{Events, disarmed, event_count, is_on}
use Rattle.qx_machine.specs.Functions.{Deed}
use Rattle.qx_machine.specs.Inodes.{blocks_of_client, is_clients}
use Rattle.qx_machine.specs.Managers.{close_all, or_unreplied, own_kind}
use Rattle.qx_machine.specs.Resources.{Resources}
use Rattle.qx_isolation.specs.Rows.{row_at}
use Rattle.qx_machine.proofs.Gives.{Gives, gives_by, gives_done, gives-value}
use Rattle.qx_isolation.proofs.Places.{row_at-set_other}
use Rattle.qx_resources.proofs.WatchCloses.{IsClosedAt, freed-gives}
use Rattle.std.proofs.lemmas.List.Sums.{count_by-le-length, length-filter}

-- ---- what else a client has once a block is gone

-- two filters, of which one tells what the other does of those that it lets pass
filters-swap : (p q r : ℕ → Bool) → ((n : ℕ) → q n ≡ true → r n ≡ p n) → (xs : List ℕ) → filter r (filter q xs) ≡ filter q (filter p xs)
filters-swap p q r same [] = refl
filters-swap p q r same (n ∷ xs) = elim (cases_Bool (q n)) [
  | inl passes ↦ elim (cases_Bool (p n)) [
    | inl own ↦ let also : r n ≡ true = same n passes ∙ own in simp (passes, own, also) (ap (λ l. n ∷ l) (filters-swap p q r same xs))
    | inr other ↦ let also : r n ≡ false = same n passes ∙ other in simp (passes, other, also) (filters-swap p q r same xs)
  ]
  | inr fails ↦ elim (cases_Bool (p n)) [
    | inl own ↦ simp (fails, own) (filters-swap p q r same xs)
    | inr other ↦ simp (fails, other) (filters-swap p q r same xs)
  ]
]

-- an open control block is gone, with its event
pub record IsGone (r : Resources) (number : ℕ) (s : Resources) : Type 0 where
  pub blocks : s.inodes.blocks ≡ slice_set r.inodes.blocks number None
  pub made : s.inodes.made ≡ filter (λ other. not (other == number)) r.inodes.made
  pub events : s.events ≡ disarmed number r.events

pub gone-gives : (manager : Manager) (r : Resources) (number moment : ℕ) → Gives (λ (deed : Deed Resources). IsGone r number deed.state) (close_ocb (own_kind manager) r number moment)
gone-gives manager r number moment =
    gives_by (λ (deed : Deed Resources). IsClosedAt r number deed.state) _ (free_block (own_kind manager) r number moment) _ (freed-gives (own_kind manager) r number moment)
    (λ deed h. gives_done _ _ (record { blocks = h.closed.blocks; made = h.closed.made; events = ap (disarmed number) h.closed.events }))

other-row : (client : Client) (blocks : List (Option Ocb)) (number other : ℕ) → not (other == number) ≡ true → is_clients client (row_at (slice_set blocks number None) other) ≡ is_clients client (row_at blocks other)
other-row client blocks number other is =
    ap (is_clients client) (row_at-set_other blocks number other None (λ same. let clash : false ≡ true = sym (ap not (eq-eqb other number same)) ∙ is in false≢true clash))

-- a client has all that it had but that
pub gone-blocks : (r s : Resources) (number : ℕ) (client : Client) → IsGone r number s → blocks_of_client s.inodes client ≡ filter (λ other. not (other == number)) (blocks_of_client r.inodes client)
gone-blocks r s number client gone =
    ap₂ (λ blocks made. filter (λ n. is_clients client (row_at blocks n)) made) gone.blocks gone.made
    ∙ filters-swap (λ n. is_clients client (row_at r.inodes.blocks n)) (λ other. not (other == number)) (λ n. is_clients client (row_at (slice_set r.inodes.blocks number None) n)) (other-row client r.inodes.blocks number) r.inodes.made

-- ---- no events come by it

pub record Fewer (before after : Events) : Type 0 where
  pub armed : length after.armed ≤ length before.armed
  pub pulses : after.pulses ≡ before.pulses

shorter : (p : Event → Bool) (events : List Event) → length (filter p events) ≤ length events
shorter p events = omega (arith, length-filter p events, count_by-le-length p events)

fewer-then : (one two three : Events) → Fewer one two → Fewer two three → Fewer one three
fewer-then one two three first second = record { armed = omega (arith, first.armed, second.armed); pulses = second.pulses ∙ first.pulses }

pub fewer-by : (r : Resources) (number : ℕ) (given : Result (Deed Resources) Errno) → Gives (λ (deed : Deed Resources). IsGone r number deed.state) given → Fewer r.events (or_unreplied r given).state.events
fewer-by r number (Ok deed) gives =
    let gone = gives-value (λ (deed : Deed Resources). IsGone r number deed.state) (Ok deed) deed refl gives in
    subst (Fewer r.events) (sym gone.events) (record { armed = shorter (λ event. not (is_on number event)) r.events.armed; pulses = refl })
fewer-by r number (Err error) gives = record { armed = omega arith; pulses = refl }

pub fewer-all : (manager : Manager) (moment : ℕ) (numbers : List ℕ) (r : Resources) → Fewer r.events (close_all manager moment numbers r).state.events
fewer-all manager moment [] r = record { armed = omega arith; pulses = refl }
fewer-all manager moment (number ∷ numbers) r =
    let first = or_unreplied r (close_ocb (own_kind manager) r number moment) in
    fewer-then r.events first.state.events (close_all manager moment numbers first.state).state.events
    (fewer-by r number (close_ocb (own_kind manager) r number moment) (gone-gives manager r number moment)) (fewer-all manager moment numbers first.state)

pub fewer-count : (before after : Events) → Fewer before after → event_count after ≤ event_count before
fewer-count before after fewer = let same = ap (sum_by length) fewer.pulses in omega (arith, fewer.armed, same)

-- where nothing was armed, nothing is
pub fewer-none : (before after : Events) → Fewer before after → length before.armed ≡ 0 → after.armed ≡ []
fewer-none before after fewer none = by after.armed (omega (arith, fewer.armed, none))
  where
    by : (events : List Event) → length events ≤ 0 → events ≡ []
    by [] few = refl
    by (event ∷ events) few = absurd (omega (arith, few))
