use Rattle.std.proofs.Common.{◌-◌, arith}
use Rattle.qx_lines.specs.declared.marks.TheConstants.{WORDS}
use Rattle.qx_lines.proofs.MarkLemmas.{highest_is, marked_past, marked_none}
use Rattle.qx_lines.proofs.marks.Marks.highest.Goals as goal

pub words-init : goal.words-init
words-init g c = record { none = marked_past c.args.self.now.words WORDS (omega arith); looked = omega arith }

pub returns-in-Some-clause-highest : goal.returns-in-Some-clause-highest
returns-in-Some-clause-highest g c =
    highest_is c.args.self.now.words WORDS (c.words.word - 1) c.in-Some.place (omega (arith, c.words.auto.word, c.words-test.true)) (omega (arith, c.in-Some.ensures.bound)) c.in-Some.ensures.power_le c.in-Some.ensures.next_power_gt
    (λ priority from. c.words.invariant.none priority (omega (arith, from, c.words-test.true)))

pub words-preserved : goal.words-preserved
words-preserved g c = record {
  none = marked_none c.args.self.now.words (c.words.word - 1) c.in_default.ensures.none (λ priority from. c.words.invariant.none priority (omega (arith, from, c.words-test.true)));
  looked = omega (arith, c.words.invariant.looked, c.tick.ensures, c.words-test.true);
}
