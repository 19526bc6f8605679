use Rattle.std.proofs.Common.{◌∙◌, ap, get_or, is_some, sym}
use Rattle.qx_types.specs.Managers.{managers}
use Rattle.qx_running.specs.Running.{greatest_urgency}
use Rattle.qx_running.proofs.NextLemmas.{next_before, next_behind, next_some}
use Rattle.qx_running.proofs.running.Running.next_manager.Goals as goal

pub returns-in-Some-clause-next : goal.returns-in-Some-clause-next
returns-in-Some-clause-next c = next_behind c.args.self.now.world c.greatest_urgency-most.result c.turn.result (get_or c.args.self.now.turns (greatest_urgency c.args.self.now.world managers) 0) c.in-Some.manager c.greatest_urgency-most.ensures (c.turn.ensures ∙ ap (λ most. get_or c.args.self.now.turns most 0) c.greatest_urgency-most.ensures) (sym c.in-Some.is ∙ c.first_urgent.ensures)

pub returns-in-Some-clause-some : goal.returns-in-Some-clause-some
returns-in-Some-clause-some c = ap is_some (next_behind c.args.self.now.world c.greatest_urgency-most.result c.turn.result (get_or c.args.self.now.turns (greatest_urgency c.args.self.now.world managers) 0) c.in-Some.manager c.greatest_urgency-most.ensures (c.turn.ensures ∙ ap (λ most. get_or c.args.self.now.turns most 0) c.greatest_urgency-most.ensures) (sym c.in-Some.is ∙ c.first_urgent.ensures)) ∙ next_some c.args.self.now.world (get_or c.args.self.now.turns (greatest_urgency c.args.self.now.world managers) 0)

pub returns-in-None-clause-next : goal.returns-in-None-clause-next
returns-in-None-clause-next c = next_before c.args.self.now.world c.greatest_urgency-most.result c.turn.result (get_or c.args.self.now.turns (greatest_urgency c.args.self.now.world managers) 0) c.first_urgent-in-None.result c.greatest_urgency-most.ensures (c.turn.ensures ∙ ap (λ most. get_or c.args.self.now.turns most 0) c.greatest_urgency-most.ensures) (sym c.in-None.is ∙ c.first_urgent.ensures) c.first_urgent-in-None.ensures

pub returns-in-None-clause-some : goal.returns-in-None-clause-some
returns-in-None-clause-some c = ap is_some (next_before c.args.self.now.world c.greatest_urgency-most.result c.turn.result (get_or c.args.self.now.turns (greatest_urgency c.args.self.now.world managers) 0) c.first_urgent-in-None.result c.greatest_urgency-most.ensures (c.turn.ensures ∙ ap (λ most. get_or c.args.self.now.turns most 0) c.greatest_urgency-most.ensures) (sym c.in-None.is ∙ c.first_urgent.ensures) c.first_urgent-in-None.ensures) ∙ next_some c.args.self.now.world (get_or c.args.self.now.turns (greatest_urgency c.args.self.now.world managers) 0)
