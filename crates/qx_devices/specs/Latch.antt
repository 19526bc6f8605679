-- A latch: a write sets it, a read waits until it is set, and a write of no bytes takes what is set away.
use Rattle.std.specs.Prelude.{ℕ, List, [], ◌∷◌, ◌==◌, Bool, true, not, length, min, take}
use Rattle.qx_base.specs.Verdict.{Verdict, Waits, Gives}

-- a read of at most so many bytes, where these are set; they stay
unfoldable pub read_verdict : ℕ → List ℕ → Verdict
read_verdict count [] = Waits
read_verdict count (first ∷ rest) = Gives (min count (length (first ∷ rest))) (take count (first ∷ rest)) (first ∷ rest)

-- a write of these bytes, whatever is set
unfoldable pub write_verdict : List ℕ → List ℕ → Verdict
write_verdict bytes state = Gives (length bytes) [] bytes

-- whether a read, and whether a write, would not wait (C Library Reference: ionotify)
unfoldable pub has_input : List ℕ → Bool
has_input state = not (length state == 0)

unfoldable pub has_output : List ℕ → Bool
has_output state = true
