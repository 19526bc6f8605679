-- One more letter of flags.
use Rattle.std.proofs.Common.{◌≡◌, ℕ, suc, ◌+◌, ◌<◌, List, ◌∷◌, Some, length, get_or, drop, arith, drop-cons, add-one}
use Rattle.std.specs.Prelude.{bit_and, bit_or}
use Rattle.std.proofs.lemmas.Grind.{common_steps}
use Rattle.qx_words.specs.Words.{flag_of, flags_after}

one_more : (flags flag letter : ℕ) (letters : List ℕ) → flag_of letter ≡ Some flag → bit_and flags flag ≡ 0 → flags_after flags (letter ∷ letters) ≡ flags_after (bit_or flags flag) letters
one_more flags flag letter letters known free = grind (arith, common_steps)

pub flags_more : (flags flag : ℕ) (word : List ℕ) (i : ℕ) → i < length word → flag_of (get_or word i 0) ≡ Some flag → bit_and flags flag ≡ 0 → flags_after flags (drop i word) ≡ flags_after (bit_or flags flag) (drop (i + 1) word)
flags_more flags flag word i below known free = rw (add-one, drop-cons word i 0) (one_more flags flag (get_or word i 0) (drop (suc i) word) known free)
