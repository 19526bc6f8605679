-- After serving no item waits, whatever the first worker held.
use Rattle.std.proofs.Common.{◌≡◌, ℕ, ◌*◌, ◌≤◌, List, [], ◌∷◌, ◌++◌, Option, Some, None, ap, refl, ◌∙◌, if◌then◌else◌, is_some}
use Rattle.qx_types.specs.Configuration.{Configuration}
use Rattle.qx_types.specs.declared.step.Step.{Step}
use Rattle.qx_types.specs.declared.step.Step.TheVariants.{Perform}
use Rattle.qx_isolation.specs.declared.rows.Held.{Held}
use Rattle.qx_isolation.specs.Rows.{row_at}
use Rattle.qx_machine.specs.Machine.{boot, machine}
use Rattle.qx_live.specs.Chosen.{first_worker, items_waiting, served_steps}
use Rattle.qx_live.proofs.Emptied.{does_item, empties}
use Rattle.qx_live.proofs.Kept.{Keeps, kept_after, keeps_boot}
use Rattle.qx_live.proofs.Owned.{after_append}
use Rattle.qx_live.proofs.Weights.{waiting_weighs_at_most}
use Rattle.qx_play.specs.Play.{world_played, hand_emptied, all_served, with_lines_served}

keeps_all : (config : Configuration) (steps : List Step) → Keeps (world_played config steps) config.workers
keeps_all config steps = kept_after config.workers (boot config) steps (keeps_boot machine config)

hand_free : (config : Configuration) (moment : ℕ) (steps : List Step) (hand : Option Held) → 1 ≤ config.workers → row_at (world_played config steps).hands 1 ≡ hand
    → row_at (world_played config (hand_emptied config moment steps)).hands 1 ≡ None
unfolding hand_emptied
hand_free config moment steps None some e =
    ap (λ h. row_at (world_played config (if is_some h then steps ++ Perform first_worker moment ∷ [] else steps)).hands 1) e ∙ e
hand_free config moment steps (Some held) some e =
    ap (λ h. row_at (world_played config (if is_some h then steps ++ Perform first_worker moment ∷ [] else steps)).hands 1) e
    ∙ ap (λ w. row_at w.hands 1) (after_append (boot config) steps (Perform first_worker moment ∷ []))
    ∙ (does_item config.workers (world_played config steps) moment held some (keeps_all config steps) e).free

pub none_waits : (config : Configuration) (moment : ℕ) (steps : List Step) → 1 ≤ config.workers → items_waiting (world_played config (with_lines_served config moment steps)) ≡ 0
unfolding with_lines_served all_served served_steps
none_waits config moment steps some =
    let begun = hand_emptied config moment steps in
    let w = world_played config begun in
    ap items_waiting (after_append (boot config) begun (served_steps moment w))
    ∙ empties (2 * items_waiting w) config.workers moment w some (keeps_all config begun) (hand_free config moment steps (row_at (world_played config steps).hands 1) some refl) (waiting_weighs_at_most w)
