use Rattle.std.proofs.Common.{rules, ◌≡◌, ◌+◌, length, arith}
use Rattle.qx_fuse_wire.proofs.PairLemmas.{number_left}
use Rattle.qx_fuse_wire.proofs.forgets.ForgetsIterator.next.Goals as goal

pub invariant_of-self : goal.invariant_of-self
invariant_of-self c =
    let first : length c.self.inside.bytes.now ≡ 8 + length c.in_ok-node.rest.now = number_left c.self.inside.bytes.now c.in_ok-node.rest.now c.in_ok-node.node (search rules) in
    let second : length c.in_ok-node.rest.now ≡ 8 + length c.in_ok-lookups.rest.now = number_left c.in_ok-node.rest.now c.in_ok-lookups.rest.now c.in_ok-lookups.lookups (search rules) in
    omega (arith, first, second, c.self.invariant, c.if-self-eq0.false)
