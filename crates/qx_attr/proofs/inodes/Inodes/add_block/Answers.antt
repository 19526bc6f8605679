use Rattle.std.proofs.Common.{arith}
use Rattle.qx_isolation.specs.Rows.{lowest_from}
use Rattle.qx_attr.proofs.TableLemmas.{number_given}
use Rattle.qx_attr.proofs.inodes.Inodes.add_block.Goals as goal

pub put_block-requires-clause-few : goal.put_block-requires-clause-few
put_block-requires-clause-few c =
    let given = number_given c.args.self.now.inodes.most_blocks (lowest_from 1 c.args.self.now.inodes.blocks) _ c.args.number c.requires.number in
    let below = given.1 in
    omega (arith, below, c.numbered.ensures.most_blocks)
