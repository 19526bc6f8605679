use Rattle.std.proofs.Common.{◌≡◌, ◌++◌, take, filter}
use Rattle.qx_words.specs.WordText.{is_given}
use Rattle.qx_words.proofs.text.push_given.Given as goal

abbrev pub invariant-letters : goal.invariant-letters
invariant-letters l = l.text.items ≡ l.initial.text.items ++ filter (is_given l.flags.0) (take l.letter-index l.letters)
