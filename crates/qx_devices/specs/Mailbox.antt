-- A mailbox for one message: a write puts one in, and waits while one is there; a read takes it, and waits until one is there.
use Rattle.std.specs.Prelude.{ℕ, List, [], ◌∷◌, ◌==◌, Bool, not, length, min, take}
use Rattle.qx_base.specs.declared.errno.Errno.TheVariants.{EINVAL}
use Rattle.qx_base.specs.Verdict.{Verdict, Waits, Gives, Fails}

-- a read of at most so many bytes takes the message, and what doesn't fit is lost
unfoldable pub read_verdict : ℕ → List ℕ → Verdict
read_verdict count [] = Waits
read_verdict count (first ∷ rest) = Gives (min count (length (first ∷ rest))) (take count (first ∷ rest)) []

-- a write of these bytes; a message has some
unfoldable pub write_verdict : List ℕ → List ℕ → Verdict
write_verdict [] state = Fails EINVAL
write_verdict (first ∷ rest) [] = Gives (length (first ∷ rest)) [] (first ∷ rest)
write_verdict (first ∷ rest) (there ∷ more) = Waits

-- whether a read, and whether a write, would not wait (C Library Reference: ionotify)
unfoldable pub has_input : List ℕ → Bool
has_input state = not (length state == 0)

unfoldable pub has_output : List ℕ → Bool
has_output state = length state == 0
