-- One more round of serving.
use Rattle.std.proofs.Common.{◌≡◌, ℕ, suc, ◌+◌, ◌-◌, ◌<◌, List, [], ◌∷◌, ◌++◌, Some, append_assoc, arith, ap, ◌∙◌, sym}
use Rattle.qx_types.specs.Configuration.{Configuration}
use Rattle.qx_types.specs.declared.names.Manager.{Manager}
use Rattle.qx_types.specs.declared.step.Step.{Step}
use Rattle.qx_types.specs.declared.step.Step.TheVariants.{Receive, Perform}
use Rattle.qx_machine.specs.Machine.{boot}
use Rattle.qx_machine.specs.Reads.{next_manager}
use Rattle.qx_machine.specs.Runs.{world_after}
use Rattle.qx_live.specs.Chosen.{first_worker, round_steps, rounds}
use Rattle.qx_live.proofs.Emptied.{turn}
use Rattle.qx_live.proofs.Owned.{after_append}
use Rattle.qx_play.specs.Play.{world_played}

pub round_done : (all counter : ℕ) (config : Configuration) (moment : ℕ) (steps after : List Step) (manager : Manager) → counter < all → next_manager (world_played config steps) ≡ Some manager → after ≡ (steps ++ Receive first_worker manager ∷ []) ++ Perform first_worker moment ∷ []
    → after ++ rounds (all - (counter + 1)) moment (world_played config after) ≡ steps ++ rounds (all - counter) moment (world_played config steps)
round_done all counter config moment steps after manager left next done =
    let w = world_played config steps in
    let left_now = all - (counter + 1) in
    let more : all - counter ≡ suc left_now = omega arith in
    let round = round_steps moment manager in
    let is : after ≡ steps ++ round = done ∙ append_assoc steps (Receive first_worker manager ∷ []) (Perform first_worker moment ∷ []) in
    let rest : steps ++ rounds (suc left_now) moment w ≡ (steps ++ round) ++ rounds left_now moment (world_after w round) =
    ap (λ l. steps ++ l) (turn left_now moment w manager next) ∙ sym (append_assoc steps round (rounds left_now moment (world_after w round))) in
    ap (λ l. l ++ rounds left_now moment (world_played config l)) is
    ∙ (ap (λ v. (steps ++ round) ++ rounds left_now moment v) (after_append (boot config) steps round)
    ∙ (sym rest ∙ ap (λ n. steps ++ rounds n moment w) (sym more)))
