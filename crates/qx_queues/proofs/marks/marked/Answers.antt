use Rattle.std.proofs.Common.{◌==◌, ◌∙◌, ap, arith, sym}
use Rattle.std.specs.Int.{w64}
use Rattle.std.proofs.lemmas.Nat.Bits.{bit_at_set_same, bit_at_set_other, bit_at_clear_same, bit_at_clear_other}
use Rattle.qx_queues.specs.inner.Marks.{is_marked}
use Rattle.qx_queues.proofs.marks.marked.Goals as goal

pub returns-then-has_items-clause-set : goal.returns-then-has_items-clause-set
unfolding is_marked
returns-then-has_items-clause-set c = ap (λ b. b == 1) (bit_at_set_same w64 _ _ (omega (arith, c.requires))) ∙ sym c.if-has_items.true

pub returns-then-has_items-clause-others : goal.returns-then-has_items-clause-others
unfolding is_marked
returns-then-has_items-clause-others c = λ other within differs. ap (λ b. b == 1) (bit_at_set_other w64 _ _ (omega (arith, c.requires)) other differs)

pub returns-else-has_items-clause-set : goal.returns-else-has_items-clause-set
unfolding is_marked
returns-else-has_items-clause-set c = ap (λ b. b == 1) (bit_at_clear_same w64 _ _ (omega (arith, c.requires))) ∙ sym c.if-has_items.false

pub returns-else-has_items-clause-others : goal.returns-else-has_items-clause-others
unfolding is_marked
returns-else-has_items-clause-others c = λ other within differs. ap (λ b. b == 1) (bit_at_clear_other w64 _ _ (omega (arith, c.requires)) other (omega (arith, within)) differs)
