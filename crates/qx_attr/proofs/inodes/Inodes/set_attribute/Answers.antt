use Rattle.std.proofs.Common.{◌≡◌, None, Some, ap, arith, length, refl, ◌∙◌}
use Rattle.std.specs.Prelude.{unwrap_or}
use Rattle.std.proofs.lemmas.Option.{slice_get_read}
use Rattle.std.proofs.Math.ListN.{length-set}
use Rattle.std.proofs.lemmas.List.{map-set}
use Rattle.qx_isolation.specs.Rows.{row_at}
use Rattle.qx_attr.specs.inner.Counts.{attribute_of}
use Rattle.qx_attr.specs.declared.attr.Attr.{Attr}
use Rattle.qx_attr.proofs.CountLemmas.{counted_same, within-attributes}
use Rattle.qx_attr.proofs.inodes.Inodes.set_attribute.Goals as goal

pub invariant_of-self : goal.invariant_of-self
invariant_of-self c =
    let attrs = c.self.inside.attrs.items in
    let attr = c.as_mut_unchecked.result.now in
    let within = within-attributes attrs c.args.inode (rw (← c.self.view_is) at c.requires.there) in
    let read = slice_get_read attrs (length attrs) c.args.inode c.index_mut.result.now refl within c.index_mut.ensures.value in
    let there : row_at attrs c.args.inode ≡ Some attr = ap (λ place. unwrap_or place None) read ∙ c.as_mut_unchecked.ensures.value in
    let now : Attr = record attr { attribute = c.args.attribute } in
    let long = length-set attrs c.args.inode (Some now) in
    record {
      counted = counted_same attrs c.self.inside.blocks.rows c.args.inode c.self.invariant.counted attr now there refl refl refl;
      few = c.self.invariant.few;
      few_inodes = omega (arith, long);
      own_inodes = c.self.invariant.own_inodes;
      own_blocks = c.self.invariant.own_blocks;
      numbers = c.self.invariant.numbers;
      no_more = omega (arith, long);
    }

pub returns : goal.returns
returns c =
    let now : Attr = record c.as_mut_unchecked.result.now { attribute = c.args.attribute } in
    let set = map-set attribute_of c.self.inside.attrs.items c.args.inode (Some now) in
    rw (← c.self.view_is) (record { set = λ i. record { inodes = record { attributes = set i; blocks = c.self.inside.blocks.rows; made = c.self.inside.blocks.made; most_inodes = c.self.inside.most_inodes; most_blocks = c.self.inside.most_blocks }; room = c.self.inside.blocks.room } })
