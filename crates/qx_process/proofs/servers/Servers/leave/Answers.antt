use Rattle.std.proofs.Common.{◌≡◌, ◌≤◌, length, map, option_map, sym, ◌∙◌, ap, arith}
use Rattle.std.proofs.lemmas.Grind.{common_steps}
use Rattle.qx_machine.specs.Servers.{in_use, leaving}
use Rattle.qx_process.proofs.ServerLemmas.{none-left}
use Rattle.qx_process.proofs.servers.Servers.leave.Goals as goal

pub invariant_of-self : goal.invariant_of-self
invariant_of-self c =
    let places = c.loop-number.self-inside.places.items in
    let all : length places ≤ c.loop-number.number = grind (arith, common_steps, ap length c.loop-number.invariant) in
    let left : places ≡ map (option_map leaving) c.self.inside.places.items = grind (arith, common_steps, c.loop-number.invariant, all) in
    sym (ap in_use left ∙ none-left c.self.inside.places.items)
