use Rattle.std.proofs.Common.{◌≡◌, ℕ, None, Ok, ap, arith, refl, ◌∙◌}
use Rattle.qx_types.specs.declared.limits.TheConstants.Limits.{INODES}
use Rattle.qx_isolation.proofs.Places.{lowest_from_free}
use Rattle.qx_machine.specs.declared.rows.Attribute.{Attribute}
use Rattle.qx_machine.specs.Inodes.{Inodes, inode_number, new_inode}
use Rattle.qx_isolation.specs.Rows.{lowest_from, put_row, row_at}
use Rattle.qx_attr.specs.Counts.{Reserved, with_number}
use Rattle.qx_attr.specs.inner.Counts.{attribute_of, unopened}
use Rattle.qx_attr.proofs.CountLemmas.{counted_inode, few_rows}
use Rattle.qx_attr.proofs.TableLemmas.{longer_put, none_before, number_given, rows_put}
use Rattle.qx_attr.proofs.inodes.Inodes.add_inode.Goals as goal

pub invariant_of-self : goal.invariant_of-self
invariant_of-self c =
    let attrs = c.self.inside.attrs.items in
    let inodes = c.args.self.now.inodes in
    let given = number_given inodes.most_inodes (lowest_from 1 inodes.attributes) _ c.args.number c.requires.number in
    let unused : row_at inodes.attributes c.args.number ≡ None = ap (row_at inodes.attributes) given.0 ∙ lowest_from_free 1 inodes.attributes in
    let free : row_at attrs c.args.number ≡ None = none_before attribute_of attrs c.args.number (λ attr e. cc) (ap (λ (all : Reserved). row_at all.inodes.attributes c.args.number) c.self.view_is ∙ unused) in
    let longer = longer_put attrs c.args.number (unopened c.args.attribute) in
    rw (c.put_reserved.ensures.row, c.new.ensures, c.give_up_room.ensures.room) (record {
      counted = counted_inode attrs c.self.inside.blocks.rows c.args.number (unopened c.args.attribute) refl refl refl free c.self.invariant.counted;
      few = c.self.invariant.few;
      few_inodes = few_rows attrs c.args.number INODES (unopened c.args.attribute) (let own = c.self.invariant.own_inodes in let is = ap (λ (all : Reserved). all.inodes.most_inodes) c.self.view_is in let below = given.1 in omega (arith, own, is, below)) c.self.invariant.few_inodes;
      own_inodes = c.self.invariant.own_inodes;
      own_blocks = c.self.invariant.own_blocks;
      numbers = omega arith;
      no_more = omega (arith, longer);
    })

-- under the number that is given
made : (inodes : Inodes) (number : ℕ) (attribute : Attribute) → inode_number inodes ≡ Ok number → with_number (record inodes { attributes = put_row inodes.attributes number attribute }) (Ok number) ≡ new_inode inodes attribute
made inodes number attribute is = rw is refl

pub returns : goal.returns
returns c =
    let blocks = c.self.inside.blocks in
    let put = rows_put attribute_of c.self.inside.attrs.items c.args.number (unopened c.args.attribute) c.args.attribute refl in
    let number = c.args.number in
    rw (c.put_reserved.ensures.row, c.new.ensures, c.give_up_room.ensures.room) (record {
      made = (λ i. with_number (record { attributes = put i; blocks = blocks.rows; made = blocks.made; most_inodes = c.self.inside.most_inodes; most_blocks = c.self.inside.most_blocks }) (Ok number)) ∙ rw (← c.self.view_is) (made _ number c.args.attribute (rw (← c.self.view_is) at c.requires.number));
      room = rw (← c.self.view_is) refl;
    })
