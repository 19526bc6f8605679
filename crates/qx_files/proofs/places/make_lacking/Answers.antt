use Rattle.std.proofs.Common.{ap, ◌∙◌, arith, is_some}
use Rattle.qx_isolation.specs.Rows.{row_at}
use Rattle.qx_files.specs.inner.Places.{there}
use Rattle.qx_files.proofs.BlockLemmas.{with-all, with-padded}
use Rattle.qx_files.proofs.places.make_lacking.Goals as goal

pub returns-then-end-in_order-clause-made : goal.returns-then-end-in_order-clause-made
returns-then-end-in_order-clause-made c = with-all c.args.places.now.items c.args.first c.args.end c.requires.order (λ n less. ap is_some (c.requires.ordered n (omega (arith, less, c.if-end-in_order.true))))

pub blocks_in_order-requires : goal.blocks_in_order-requires
blocks_in_order-requires c = record { ordered = λ n less. ap (λ rows. row_at rows n) c.as_slice.ensures.value ∙ c.in_ok-make_blocks.ensures.stay n n (c.requires.ordered n less) }

pub returns-clause-made : goal.returns-clause-made
returns-clause-made c = c.in_ok-make_blocks.ensures.made ∙ with-padded (there c.args.places.now.items) c.args.first c.args.end c.requires.order
