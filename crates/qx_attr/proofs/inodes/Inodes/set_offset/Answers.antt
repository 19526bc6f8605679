use Rattle.std.proofs.Common.{arith}
use Rattle.std.specs.Prelude.{option_map}
use Rattle.std.proofs.Math.ListN.{length-set}
use Rattle.qx_machine.specs.Inodes.{moved_to}
use Rattle.qx_isolation.specs.Rows.{row_at}
use Rattle.qx_attr.proofs.CountLemmas.{counted_moved}
use Rattle.qx_attr.proofs.inodes.Inodes.set_offset.Goals as goal

pub invariant_of-self : goal.invariant_of-self
invariant_of-self c =
    let rows = c.self.inside.blocks.rows in
    let long = length-set rows c.args.number (option_map (moved_to c.args.offset) (row_at rows c.args.number)) in
    let few = c.self.invariant.few in
    rw c.set_offset.ensures.moved (record {
      counted = counted_moved c.self.inside.attrs.items rows c.args.number c.args.offset c.self.invariant.counted;
      few = omega (arith, long, few);
      few_inodes = c.self.invariant.few_inodes;
      own_inodes = c.self.invariant.own_inodes;
      own_blocks = c.self.invariant.own_blocks;
      numbers = c.self.invariant.numbers;
      no_more = c.self.invariant.no_more;
    })
