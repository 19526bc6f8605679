use Rattle.std.proofs.Common.{◌≡◌, ◌+◌, ◌-◌, ◌*◌, ◌++◌, ◌∙◌, ap, rules, arith, Some}
use Rattle.qx_machine.specs.Reads.{next_manager}
use Rattle.qx_live.specs.Chosen.{rounds}
use Rattle.qx_play.specs.Play.{world_played}
use Rattle.qx_play.proofs.Rounds.{round_done}
use Rattle.qx_play.proofs.play.serve_waiting.Goals as goal

pub rounds-preserved : goal.rounds-preserved
rounds-preserved c =
    let all = 2 * c.waiting-most.result in
    let after = c.store-in-rounds.new.traced.steps in
    let next : next_manager (world_played c.rounds.traced.config c.rounds.traced.steps) ≡ Some c.in-Some.manager = search rules in
    let done = round_done all c.rounds.counter c.rounds.traced.config c.args.moment c.rounds.traced.steps after c.in-Some.manager (omega arith) next (search rules) in
    record {
      config = search rules;
      steps = ap (λ config. after ++ rounds (all - (c.rounds.counter + 1)) c.args.moment (world_played config after)) (search rules) ∙ done ∙ c.rounds.invariant.steps;
    }
