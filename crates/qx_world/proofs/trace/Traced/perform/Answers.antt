use Rattle.std.proofs.Common.{◌∙◌, ap, refl, rules}
use Rattle.qx_types.specs.declared.step.Step.TheVariants.{Perform}
use Rattle.qx_machine.specs.Machine.{boot, step}
use Rattle.qx_machine.specs.Runs.{world_after}
use Rattle.qx_world.proofs.TraceLemmas.{is_run-last}
use Rattle.qx_world.proofs.trace.Traced.perform.Goals as goal

pub returns : goal.returns
returns c =
    let after = rw (← c.self.view_is) at c.in_ok-store_work.ensures.after in
    let last = is_run-last _ _ _ _ (Perform c.args.worker c.args.moment) c.self.invariant after.steps in (
      (refl, (λ _. tt), after),
      record {
        after = tt;
        outcome = c.last_outcome.ensures _ _ (c.as_slice.ensures.value ∙ last) ∙ ap (λ config. (step (world_after (boot config) c.args.self.now.steps) (Perform c.args.worker c.args.moment)).outcome) after.config;
        stale = search rules;
        sure = λ room wants is. cc;
      },
    )
