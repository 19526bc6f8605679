-- A run, one step longer.
use Rattle.std.proofs.Common.{◌≡◌, ◌∙◌, ◌∷◌, ◌++◌, ◌+◌, ◌-◌, ◌^◌, [], List, ℕ, zero, suc, Option, Some, None, length, drop, min, replicate, refl, ap, sym, arith, length-append, length-drop, drop-drop}
use Rattle.std.specs.Prelude.{option_map}
use Rattle.std.proofs.lemmas.List.{drop-append-le}
use Rattle.circular_buffer.specs.Buffer.{Buffer, buffer, keep_last}
use Rattle.qx_types.specs.declared.names.User.{User}
use Rattle.qx_types.specs.declared.outcome.Outcome.{Outcome}
use Rattle.qx_types.specs.declared.step.Step.{Step}
use Rattle.qx_machine.specs.Machine as machine
use Rattle.qx_machine.specs.Machine.{World, step}
use Rattle.qx_machine.specs.Runs.{world_after}
use Rattle.qx_machine.proofs.Runs.{step-config, world_after-append}
use Rattle.qx_types.specs.Cut.{bytes_of_outcome, bytes_of_step, cut_outcome, cut_step}
use Rattle.qx_world.specs.Steps.{IsReached}
use Rattle.qx_running.specs.Running.{Now, CameBy, IsOfRun, next, recorded, recorded_from, turn_by, with_turn, world_by}
use Rattle.qx_running.specs.declared.running.Recorded.{Recorded}
use Rattle.qx_running.specs.declared.running.TheConstants.{URGENCIES}
use Rattle.qx_running.specs.inner.Running.{now_of}

-- no step yet

none_dropped : (n : ℕ) (none : List Recorded) → none ≡ [] → none ≡ drop n []
none_dropped zero none is = is
none_dropped (suc n) none is = is

pub run_begins : (world : World) (recorder : Buffer Recorded) → IsReached world → recorder.items ≡ [] → IsOfRun (now_of world recorder 0 (replicate URGENCIES 0))
run_begins world recorder reached empty = (reached.0, [], record { world = reached.1; last = none_dropped (0 - recorder.capacity) recorder.items empty; taken = refl })

-- one step more

recorded_from-append : (w : World) (steps : List Step) (e : Step) → recorded_from w (steps ++ e ∷ []) ≡ recorded_from w steps ++ recorded (world_after w steps) e ∷ []
recorded_from-append w [] e = refl
recorded_from-append w (first ∷ steps) e = ap (λ l. recorded w first ∷ l) (recorded_from-append (step w first).world steps e)

-- the last n of what was kept and of one more are the last n of all
keep_last-push : {X : Type 0} (n : ℕ) (xs : List X) (y : X) → keep_last n (keep_last n xs ++ y ∷ []) ≡ keep_last n (xs ++ y ∷ [])
keep_last-push n xs y =
    let k = length xs - n in
    let long = length-append xs (y ∷ []) in
    let short = length-append (drop k xs) (y ∷ []) in
    let left = length-drop k xs in
    ap (drop (length (drop k xs ++ y ∷ []) - n)) (sym (drop-append-le k xs (y ∷ []) (omega arith)))
    ∙ drop-drop (length (drop k xs ++ y ∷ []) - n) k (xs ++ y ∷ [])
    ∙ ap (λ m. drop m (xs ++ y ∷ [])) (omega arith)

-- of a run's steps and one more comes what is next
pub came_more : (before since : List Step) (now : Now) (e : Step) → CameBy before since now → CameBy before (since ++ e ∷ []) (next now e)
came_more before since now e came =
    let from = world_by now.world before in
    let long = length-append since (e ∷ []) in
    record {
      world = rw (step-config now.world e, world_after-append from since e) (ap (λ w. (step w e).world) came.world);
      last = rw (step-config now.world e, recorded_from-append from since e) ((λ i. keep_last now.room (came.last i ++ recorded (came.world i) e ∷ [])) ∙ keep_last-push now.room (recorded_from from since) (recorded (world_after from since) e));
      taken = let was = came.taken in omega (arith, was, long);
    }

-- an owner is known by its number
same_owner : (owner : Option User) (number : Option ℕ) → option_map (λ user. user.0) owner ≡ number → owner ≡ option_map (λ n. record { 0 = n }) number
same_owner None number is = ap (option_map (λ n. record { 0 = n })) is
same_owner (Some user) number is = ap (option_map (λ n. record { 0 = n })) is

-- what is kept of a step that was taken
abbrev pub kept_of : Option User → Step → Outcome → Recorded
kept_of owner e outcome = record { owner = owner; entry = record { step = cut_step e; outcome = cut_outcome outcome }; step_bytes = bytes_of_step e; outcome_bytes = bytes_of_outcome outcome }

-- a step that was taken and recorded makes the run that is next
pub is_next : (world : World) (recorder : Buffer Recorded) (taken : ℕ) (turns : List ℕ) (e : Step) (owner : Option User) (outcome : Outcome) (world_then : World) (recorder_then : Buffer Recorded) (taken_then : ℕ) (turns_then : List ℕ) →
    option_map (λ user. user.0) owner ≡ machine.owner world e → outcome ≡ (step world e).outcome → world_then ≡ (step world e).world →
    recorder_then ≡ buffer (keep_last recorder.capacity (recorder.items ++ kept_of owner e outcome ∷ [])) recorder.capacity → taken_then ≡ min (taken + 1) (2 ^ 64 - 1) → turns_then ≡ with_turn turns (turn_by world e) outcome →
    now_of world_then recorder_then taken_then turns_then ≡ next (now_of world recorder taken turns) e
is_next world recorder taken turns e owner outcome world_then recorder_then taken_then turns_then owner_is outcome_is world_is recorder_is taken_is turn_is =
    let kept : kept_of owner e outcome ≡ recorded world e = (λ i. kept_of (same_owner owner (machine.owner world e) owner_is i) e (outcome_is i)) in
    (λ i. now_of (world_is i) (recorder_is i) (taken_is i) (turn_is i)) ∙ (λ i. now_of (step world e).world (buffer (keep_last recorder.capacity (recorder.items ++ kept i ∷ [])) recorder.capacity) (min (taken + 1) (2 ^ 64 - 1)) (with_turn turns (turn_by world e) (outcome_is i)))
