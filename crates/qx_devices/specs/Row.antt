-- What is listed of a device.
use Rattle.std.specs.Prelude.{ℕ, List, [], Bool, false}
use Rattle.qx_base.specs.Verdict.{Verdict, Waits}

-- the word by which a script names it, and what a call to it comes to: a read of at most so many bytes, a write of bytes; the last
-- two say whether a read, and whether a write, would not wait
pub record Row : Type 0 where
  pub word : List ℕ
  pub read : ℕ → List ℕ → Verdict
  pub write : List ℕ → List ℕ → Verdict
  pub has_input : List ℕ → Bool
  pub has_output : List ℕ → Bool

-- what stands under no number
abbrev pub no_row : Row
no_row = record { word = []; read = λ _ _. Waits; write = λ _ _. Waits; has_input = λ _. false; has_output = λ _. false }
