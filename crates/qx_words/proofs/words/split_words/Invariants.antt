use Rattle.std.proofs.Common.{◌≡◌, ◌==◌, filter, length, map, not}
use Rattle.qx_words.proofs.words.split_words.Given as goal

-- the words so far are the pieces so far that are not empty
abbrev pub invariant-loop-word : goal.invariant-loop-word
invariant-loop-word l = map (λ word. word.now) l.words.items ≡ filter (λ word. not (length word == 0)) (map (λ word. word.now) l.yielded)
