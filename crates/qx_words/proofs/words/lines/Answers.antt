use Rattle.std.proofs.Common.{eqb, rules}
use borrow.Author.Tests.{tests}
use Rattle.std.proofs.lemmas.Iterator.Consumers.{map_from_collect}
use Rattle.std.proofs.lemmas.Iterator.Splits.{YieldsList-from_slice_split}
use Rattle.qx_words.proofs.words.lines.Goals as goal

pub returns : goal.returns
returns c = record {
  lines =
      map_from_collect _ c.collect.ensures.ran
      (YieldsList-from_slice_split _ (λ byte. eqb byte 10) c.args.text.now c.split.ensures.rest c.split.ensures.done c.split.ensures.closure (λ x b q k. search (rules, tests)));
}
