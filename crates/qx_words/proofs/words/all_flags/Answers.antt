use Rattle.std.proofs.Common.{sym, ◌∙◌}
use Rattle.qx_words.proofs.Flags.{flags_more}
use Rattle.qx_words.proofs.words.all_flags.Goals as goal

pub letters-preserved : goal.letters-preserved
letters-preserved c =
    sym (flags_more c.letters.flags c.in_ok-flag.flag c.args.word.now c.letters.letter-index c.letters-test.true (sym c.in_ok-flag.ensures.flag) c.if-flags-flag-ne0.false) ∙ c.letters.invariant
