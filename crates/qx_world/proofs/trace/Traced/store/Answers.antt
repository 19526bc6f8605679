use Rattle.std.proofs.Common.{[], ◌∷◌, ◌++◌, ◌∙◌, ap, rules}
use Rattle.std.proofs.lemmas.List.{map-append}
use Rattle.qx_machine.proofs.Runs.{step-config}
use Rattle.qx_world.proofs.TraceLemmas.{is_run-stored}
use Rattle.qx_world.proofs.trace.Traced.store.Goals as goal

pub invariant_of-self-2 : goal.invariant_of-self-2
invariant_of-self-2 c = rw (c.in-Ok.ensures.world, c.push_reserved.ensures.items, c.push_reserved-2.ensures.items, c.in-Ok.ensures.outcome) (is_run-stored _ _ _ _ _ c.self.invariant c.owner-owner.ensures)

pub returns-clause-after : goal.returns-clause-after
returns-clause-after c = record {
  config = rw (c.in-Ok.ensures.world, step-config c.self.inside.world c.args.step) (ap (λ trace. trace.config) c.self.view_is ∙ c.reserve.ensures.config);
  steps = rw (c.push_reserved.ensures.items, map-append (λ entry. entry.step) c.self.inside.entries.items (record { step = c.args.step; outcome = c.in-Ok.outcome } ∷ [])) (ap (λ steps. steps ++ c.args.step ∷ []) (ap (λ trace. trace.steps) c.self.view_is ∙ c.reserve.ensures.steps));
  room = search rules;
}
