use Rattle.std.proofs.Common.{[], ◌∷◌, ◌++◌, ◌∙◌, ap, rules}
use Rattle.std.proofs.lemmas.List.{map-append}
use Rattle.qx_types.specs.declared.step.Step.TheVariants.{Perform}
use Rattle.qx_machine.proofs.Runs.{step-config}
use Rattle.qx_world.proofs.TraceLemmas.{is_run-stored}
use Rattle.qx_world.proofs.trace.Traced.store_work.Goals as goal

pub invariant_of-self-2 : goal.invariant_of-self-2
invariant_of-self-2 c = rw (c.in_ok-outcome.ensures.world, c.push_reserved.ensures.items, c.push_reserved-2.ensures.items, c.in_ok-outcome.ensures.outcome) (is_run-stored _ _ _ _ _ c.self.invariant c.owner-owner.ensures)

pub returns-clause-after : goal.returns-clause-after
returns-clause-after c = record {
  config = rw (c.in_ok-outcome.ensures.world, step-config c.self.inside.world (Perform c.args.worker c.args.moment)) (ap (λ trace. trace.config) c.self.view_is ∙ c.reserve.ensures.config);
  steps = rw (c.push_reserved.ensures.items, map-append (λ entry. entry.step) c.self.inside.entries.items (record { step = Perform c.args.worker c.args.moment; outcome = c.in_ok-outcome.outcome } ∷ [])) (ap (λ steps. steps ++ Perform c.args.worker c.args.moment ∷ []) (ap (λ trace. trace.steps) c.self.view_is ∙ c.reserve.ensures.steps));
  room = search rules;
}
