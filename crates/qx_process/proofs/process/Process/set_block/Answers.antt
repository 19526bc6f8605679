use Rattle.std.proofs.Common.{sym}
use Rattle.qx_machine.specs.Servers.{is_attached}
use Rattle.qx_process.proofs.ServerLemmas.{attached-with_block, servers_from_same}
use Rattle.qx_process.proofs.process.Process.set_block.Goals as goal

pub invariant_of-self : goal.invariant_of-self
invariant_of-self c = rw c.set_block.ensures.block (
  sym (servers_from_same _ (λ number. is_attached number c.self.inside.connections.items c.self.inside.sides) 0 c.self.inside.servers.items
      (λ number from. attached-with_block number c.args.coid.0 c.args.block c.self.inside.connections.items c.self.inside.sides) c.self.invariant.0),
  c.self.invariant.1,
)
