use Rattle.std.proofs.Common.{None, ap, arith, ◌∙◌}
use Rattle.std.proofs.Math.ListN.{length-set}
use Rattle.std.proofs.lemmas.List.{map-set}
use Rattle.qx_machine.specs.Inodes.{blocks_of}
use Rattle.qx_attr.specs.Counts.{Reserved}
use Rattle.qx_attr.specs.inner.Counts.{attribute_of}
use Rattle.qx_attr.proofs.CountLemmas.{counted_free}
use Rattle.qx_attr.proofs.inodes.Inodes.take_inode.Goals as goal

pub invariant_of-self : goal.invariant_of-self
invariant_of-self c =
    let none = ap (λ (all : Reserved). blocks_of all.inodes c.args.inode) c.self.view_is ∙ c.requires.unopened in
    let long = length-set c.self.inside.attrs.items c.args.inode None in
    rw c.free.ensures.freed (record {
      counted = counted_free c.self.inside.attrs.items c.self.inside.blocks.rows c.args.inode c.self.invariant.counted none;
      few = c.self.invariant.few;
      few_inodes = omega (arith, long);
      own_inodes = c.self.invariant.own_inodes;
      own_blocks = c.self.invariant.own_blocks;
      numbers = omega arith;
      no_more = omega (arith, long);
    })

pub returns : goal.returns
returns c =
    let set = map-set attribute_of c.self.inside.attrs.items c.args.inode None in
    rw (c.free.ensures.freed, ← c.self.view_is) (λ i. record { inodes = record { attributes = set i; blocks = c.self.inside.blocks.rows; made = c.self.inside.blocks.made; most_inodes = c.self.inside.most_inodes; most_blocks = c.self.inside.most_blocks }; room = c.self.inside.blocks.room })
