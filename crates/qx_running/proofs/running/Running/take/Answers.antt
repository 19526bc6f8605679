use Rattle.std.proofs.Common.{◌∙◌, ◌++◌, ◌∷◌, [], ap, sym, subst}
use Rattle.qx_running.specs.Running.{CameBy, next, with_turn}
use Rattle.qx_running.proofs.RunLemmas.{came_more, is_next}
use Rattle.qx_running.proofs.running.Running.take.Goals as goal

pub invariant_of-self-2 : goal.invariant_of-self-2
invariant_of-self-2 c =
    let run = c.self.invariant in
    (run.0, run.1 ++ c.args.step ∷ [], subst (CameBy run.0 (run.1 ++ c.args.step ∷ [])) (sym (is_next _ _ _ _ c.args.step _ _ _ _ _ _ c.owner-owner.ensures c.in-Ok.ensures.outcome c.in-Ok.ensures.world c.record.ensures c.saturating_add-self-inside.ensures (c.set_turn.ensures ∙ ap (λ by. with_turn c.self.inside.turns by c.in-Ok.outcome) c.turn_by-turn.ensures))) (came_more run.0 run.1 _ c.args.step run.2))

pub returns-clause-next : goal.returns-clause-next
returns-clause-next c = is_next _ _ _ _ c.args.step _ _ _ _ _ _ c.owner-owner.ensures c.in-Ok.ensures.outcome c.in-Ok.ensures.world c.record.ensures c.saturating_add-self-inside.ensures (c.set_turn.ensures ∙ ap (λ by. with_turn c.self.inside.turns by c.in-Ok.outcome) c.turn_by-turn.ensures) ∙ ap (λ now. next now c.args.step) c.self.view_is

pub returns-clause-steps : goal.returns-clause-steps
returns-clause-steps c = λ before since came. subst (CameBy before (since ++ c.args.step ∷ [])) (sym (is_next _ _ _ _ c.args.step _ _ _ _ _ _ c.owner-owner.ensures c.in-Ok.ensures.outcome c.in-Ok.ensures.world c.record.ensures c.saturating_add-self-inside.ensures (c.set_turn.ensures ∙ ap (λ by. with_turn c.self.inside.turns by c.in-Ok.outcome) c.turn_by-turn.ensures) ∙ ap (λ now. next now c.args.step) c.self.view_is)) (came_more before since c.args.self.now c.args.step came)
