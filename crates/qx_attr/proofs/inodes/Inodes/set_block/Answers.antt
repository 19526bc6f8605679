use Rattle.std.proofs.Common.{arith, ap, ◌∙◌}
use Rattle.std.specs.Prelude.{option_map}
use Rattle.std.proofs.Math.ListN.{length-set}
use Rattle.qx_isolation.specs.Rows.{row_at}
use Rattle.qx_attr.specs.Counts.{Reserved}
use Rattle.qx_attr.proofs.CountLemmas.{counted_kept}
use Rattle.qx_attr.proofs.inodes.Inodes.set_block.Goals as goal

pub invariant_of-self : goal.invariant_of-self
invariant_of-self c =
    let rows = c.self.inside.blocks.rows in
    let same_inode = ap (λ (all : Reserved). option_map (λ was. was.inode) (row_at all.inodes.blocks c.args.number)) c.self.view_is ∙ c.requires.inode in
    let same_flags = ap (λ (all : Reserved). option_map (λ was. was.flags) (row_at all.inodes.blocks c.args.number)) c.self.view_is ∙ c.requires.flags in
    let long = length-set rows c.args.number (option_map (λ _. c.args.block) (row_at rows c.args.number)) in
    let few = c.self.invariant.few in
    rw c.set.ensures.row (record {
      counted = counted_kept c.self.inside.attrs.items rows c.args.number c.args.block same_inode same_flags c.self.invariant.counted;
      few = omega (arith, long, few);
      few_inodes = c.self.invariant.few_inodes;
      own_inodes = c.self.invariant.own_inodes;
      own_blocks = c.self.invariant.own_blocks;
      numbers = c.self.invariant.numbers;
      no_more = c.self.invariant.no_more;
    })
