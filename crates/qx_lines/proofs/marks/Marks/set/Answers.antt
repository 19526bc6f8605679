use Rattle.std.proofs.Common.{◌%◌, ◌/◌, ◌<◌, ◌==◌, length, w64, ap, arith}
use Rattle.std.proofs.lemmas.Nat.Bits.{bit_at_set_same, bit_at_set_other, bit_at_clear_same, bit_at_clear_other}
use Rattle.qx_lines.proofs.MarkLemmas.{marked-set, marked-others}
use Rattle.qx_lines.proofs.marks.Marks.set.Goals as goal
use Rattle.qx_lines.proofs.marks.Marks.set.Goals.{then-has_items, else-has_items}

pub returns-clause-set : goal.returns-clause-set
returns-clause-set g c =
    let within : c.args.priority / 64 < length c.args.self.now.words = omega (arith, c.requires) in
    let place : c.args.priority % 64 < 64 = omega arith in
    elim c.if-has_items.branch [
      | then-has_items w ↦ marked-set c.args.self.now.words c.args.priority _ within _ (rw (w.self-is, w.if-has_items.true) (ap (λ b. b == 1) (bit_at_set_same w64 _ _ place)))
      | else-has_items w ↦ marked-set c.args.self.now.words c.args.priority _ within _ (rw (w.self-is, w.if-has_items.false) (ap (λ b. b == 1) (bit_at_clear_same w64 _ _ place)))
    ]

pub returns-clause-others : goal.returns-clause-others
returns-clause-others g c =
    let within : c.args.priority / 64 < length c.args.self.now.words = omega (arith, c.requires) in
    let place : c.args.priority % 64 < 64 = omega arith in
    elim c.if-has_items.branch [
      | then-has_items w ↦ marked-others c.args.self.now.words c.args.priority _ within (λ i inside differs. rw w.self-is (bit_at_set_other w64 _ _ place i differs))
      | else-has_items w ↦ marked-others c.args.self.now.words c.args.priority _ within (λ i inside differs. rw w.self-is (bit_at_clear_other w64 _ _ place i inside differs))
    ]
