use Rattle.std.proofs.Common.{◌∙◌, ◌++◌, ◌∷◌, [], ap, sym, subst, refl}
use Rattle.qx_running.specs.Running.{CameBy, next}
use Rattle.qx_running.proofs.RunLemmas.{came_more, is_next}
use Rattle.qx_types.specs.declared.step.Step.TheVariants.{Perform}
use Rattle.qx_running.proofs.running.Running.perform.Goals as goal

pub invariant_of-self-2 : goal.invariant_of-self-2
invariant_of-self-2 c =
    let run = c.self.invariant in
    (run.0, run.1 ++ (Perform c.args.worker c.args.moment) ∷ [], subst (CameBy run.0 (run.1 ++ (Perform c.args.worker c.args.moment) ∷ [])) (sym (is_next _ _ _ _ (Perform c.args.worker c.args.moment) _ _ _ _ _ _ c.owner-owner.ensures c.in_ok-outcome.ensures.outcome c.in_ok-outcome.ensures.world c.record.ensures c.saturating_add-self-inside.ensures refl)) (came_more run.0 run.1 _ (Perform c.args.worker c.args.moment) run.2))

pub returns-clause-next : goal.returns-clause-next
returns-clause-next c = is_next _ _ _ _ (Perform c.args.worker c.args.moment) _ _ _ _ _ _ c.owner-owner.ensures c.in_ok-outcome.ensures.outcome c.in_ok-outcome.ensures.world c.record.ensures c.saturating_add-self-inside.ensures refl ∙ ap (λ now. next now (Perform c.args.worker c.args.moment)) c.self.view_is

pub returns-clause-steps : goal.returns-clause-steps
returns-clause-steps c = λ before since came. subst (CameBy before (since ++ (Perform c.args.worker c.args.moment) ∷ [])) (sym (is_next _ _ _ _ (Perform c.args.worker c.args.moment) _ _ _ _ _ _ c.owner-owner.ensures c.in_ok-outcome.ensures.outcome c.in_ok-outcome.ensures.world c.record.ensures c.saturating_add-self-inside.ensures refl ∙ ap (λ now. next now (Perform c.args.worker c.args.moment)) c.self.view_is)) (came_more before since c.args.self.now (Perform c.args.worker c.args.moment) came)
