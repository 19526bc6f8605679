-- A run whose steps are taken at seats, with one seat more as it is made, and with one step more.
use Rattle.std.proofs.Common.{◌≡◌, ◌∙◌, ◌∷◌, ◌++◌, [], List, ℕ, zero, suc, map, ◌+◌, refl, ap, sym, subst, arith, add-one}
use Rattle.std.specs.List.{range_with_len}
use Rattle.std.proofs.lemmas.List.{map-append}
use Rattle.qx_types.specs.declared.outcome.Outcome.{Outcome}
use Rattle.qx_types.specs.declared.step.Step.{Step}
use Rattle.qx_machine.specs.Machine.{World, step}
use Rattle.qx_machine.specs.Runs as runs
use Rattle.qx_machine.specs.Runs.{world_after}
use Rattle.qx_machine.proofs.Runs.{step-config}
use Rattle.qx_running.specs.Running as running
use Rattle.qx_running.specs.Running.{CameBy, Now, world_by}
use Rattle.qx_tied.specs.declared.event.Event.{Event}
use Rattle.qx_tied.specs.declared.event.Event.TheVariants.{Tried}
use Rattle.qx_tied.specs.declared.event.Tagged.{Tagged}
use Rattle.qx_tied.specs.Run.{IsRunFrom, TiedRun, next}
use Rattle.qx_tied.specs.Tied.{Known, done_at, entry, own_from, steps_of, tagged, taken}
use Rattle.qx_tied.specs.inner.Counts.{IsIdle, Listed}
use Rattle.qx_tied.proofs.EventLemmas.{taken-append}
use Rattle.qx_tied.proofs.SeatLemmas.{own_more, whole}

-- the run, by its fields
abbrev pub tied_of : Now → Listed → TiedRun
tied_of now listed = record { run = now; steps = taken listed.events; seats = listed.seats }

-- one seat more

range_more : (first count : ℕ) → range_with_len first (suc count) ≡ range_with_len first count ++ (first + count) ∷ []
range_more first zero = ap (λ n. n ∷ []) (omega arith)
range_more first (suc count) = ap (λ l. first ∷ l) (range_more (first + 1) count ∙ ap (λ n. range_with_len (first + 1) count ++ n ∷ []) (omega arith))

pub seat_more : (made now : List Known) (number : ℕ) (events : List Event) → now ≡ made ++ record { seat = number; events = events } ∷ [] → map (λ s. s.seat) made ≡ range_with_len 0 number → map (λ s. s.seat) now ≡ range_with_len 0 (number + 1)
seat_more made now number events is numbers =
    let last : number ≡ 0 + number = omega arith in
    ap (map (λ s. s.seat)) is
    ∙ map-append (λ (s : Known). s.seat) made (record { seat = number; events = events } ∷ [])
    ∙ (λ i. numbers i ++ last i ∷ [])
    ∙ sym (range_more 0 number)
    ∙ ap (range_with_len 0) (sym (add-one number))

-- one step more

pub shown_next : (old new : Now) (listed kept : Listed) (front : List Event) (t : Tagged) → new ≡ running.next old t.step → front ≡ listed.events ++ Tried t ∷ [] → kept ≡ record { events = front; seats = listed.seats }
    → tied_of new kept ≡ next (tied_of old listed) t.seat t.step
shown_next old new listed kept front t new_is tried kept_is =
    let steps_are : taken front ≡ taken listed.events ++ t ∷ [] = ap taken tried ∙ taken-append listed.events t [] in
    (λ i. tied_of (new_is i) (kept_is i)) ∙ (λ i. record { run = running.next old t.step; steps = steps_are i; seats = listed.seats })

pub next_run : (began : World) (tied : TiedRun) (seat : ℕ) (e : Step) → IsRunFrom began tied → ((before since : List Step) → CameBy before since tied.run → CameBy before (since ++ e ∷ []) (running.next tied.run e)) → IsRunFrom began (next tied seat e)
next_run began tied seat e from more =
    let before = from.0 in (
      before,
      from.1 ∙ ap (λ config. (runs.run config before).world) (sym (step-config tied.run.world e)),
      subst (λ since. CameBy before since (running.next tied.run e)) (sym (map-append (λ t. t.step) tied.steps (tagged seat e ∷ []))) (more before (steps_of tied.steps) from.2),
    )

pub took : (began : World) (old new : Now) (listed kept : Listed) (front : List Event) (t : Tagged) → IsRunFrom began (tied_of old listed) → new ≡ running.next old t.step
    → ((before since : List Step) → CameBy before since old → CameBy before (since ++ t.step ∷ []) new) → front ≡ listed.events ++ Tried t ∷ [] → kept ≡ record { events = front; seats = listed.seats } → IsRunFrom began (tied_of new kept)
took began old new listed kept front t from new_is more tried kept_is =
    let came = subst (λ now. (before since : List Step) → CameBy before since old → CameBy before (since ++ t.step ∷ []) now) new_is more in
    subst (IsRunFrom began) (sym (shown_next old new listed kept front t new_is tried kept_is)) (next_run began (tied_of old listed) t.seat t.step from came)

-- the world by the steps that were taken
world_is : (began : World) (tied : TiedRun) → IsRunFrom began tied → tied.run.world ≡ world_after began (steps_of tied.steps)
world_is began tied from = from.2.world ∙ ap (λ w. world_after w (steps_of tied.steps)) (sym from.1)

-- what was done at the seat, with that step
pub done_more : (began : World) (old : Now) (listed : Listed) (known then : Known) (front : List Event) (t : Tagged) (outcome : Outcome) → IsRunFrom began (tied_of old listed) → IsIdle known.seat known.events listed.events → t.seat ≡ known.seat
    → front ≡ listed.events ++ Tried t ∷ [] → then ≡ record { seat = known.seat; events = front } → outcome ≡ (step old.world t.step).outcome → done_at began then ≡ done_at began known ++ entry t.step outcome ∷ []
done_more began old listed known then front t outcome from idle at tried then_is outcome_is =
    let n = known.seat in
    let steps = taken listed.events in
    let steps_are : taken front ≡ steps ++ t ∷ [] = ap taken tried ∙ taken-append listed.events t [] in
    let same : t ≡ tagged n t.step = (λ i. record { seat = at i; step = t.step }) in
    let told : (step (world_after began (steps_of steps)) t.step).outcome ≡ outcome = ap (λ w. (step w t.step).outcome) (sym (world_is began (tied_of old listed) from)) ∙ sym outcome_is in
    ap (done_at began) then_is
    ∙ ap (own_from n began) (steps_are ∙ ap (λ u. steps ++ u ∷ []) same)
    ∙ own_more n began steps t.step
    ∙ (λ i. whole n began known.events listed.events idle i ++ entry t.step (told i) ∷ [])
