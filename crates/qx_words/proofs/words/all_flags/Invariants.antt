use Rattle.std.proofs.Common.{◌≡◌, drop}
use Rattle.qx_words.specs.Words.{flags_after}
use Rattle.qx_words.proofs.words.all_flags.Given as goal

abbrev pub invariant-letters : goal.invariant-letters
invariant-letters l = flags_after l.flags (drop l.letter-index l.word) ≡ flags_after 0 l.word
