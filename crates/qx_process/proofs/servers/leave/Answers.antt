use Rattle.std.proofs.Common.{◌≤◌, length, ap, arith}
use Rattle.std.proofs.lemmas.Grind.{common_steps}
use Rattle.qx_process.proofs.servers.leave.Goals as goal

pub returns : goal.returns
returns c =
    let servers = c.loop-number.servers.items in
    let all : length servers ≤ c.loop-number.number = grind (arith, common_steps, ap length c.loop-number.invariant) in
    record { left = grind (arith, common_steps, c.loop-number.invariant, all) }
