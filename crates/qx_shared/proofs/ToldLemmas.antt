-- What a device was told, once its limits are kept.
use Rattle.std.proofs.Common.{◌≡◌, ◌≤◌, ℕ, true, List, length, take, ap, ◌∙◌}
use Rattle.std.specs.Prelude.{nat_le}
use Rattle.std.proofs.Math.Seq.{take-nil}
use Rattle.std.proofs.lemmas.Bool.{le-leb}
use Rattle.qx_base.specs.Verdict.{Left, Verdict, Waits, Gives, Fails, left_by}
use Rattle.qx_base.specs.declared.device.Told.{Told}
use Rattle.qx_base.specs.declared.device.Told.TheVariants as told
use Rattle.qx_base.specs.declared.device.TheConstants.{STATE}
use Rattle.qx_machine.specs.Verdicts.{within}

abbrev left : Told → List ℕ → List ℕ → Left
left told bytes state = record { told = told; bytes = bytes; state = state }

cut : (most : ℕ) {one other : Left} → one ≡ other → left one.told (take most one.bytes) one.state ≡ left other.told (take most other.bytes) other.state
cut most is = ap (λ (l : Left). left l.told (take most l.bytes) l.state) is

-- what was given is cut, and what the device has is within its limit
pub left-within : (most : ℕ) (before : List ℕ) (verdict : Verdict) (is_told : Told) (bytes state : List ℕ) → length state ≤ STATE → left is_told bytes state ≡ left_by before verdict → left is_told (take most bytes) state ≡ left_by before (within most verdict)
left-within most before Waits is_told bytes state few is = cut most is ∙ ap (λ given. left told.Waits given before) (take-nil most)
left-within most before (Fails error) is_told bytes state few is = cut most is ∙ ap (λ given. left (told.Fails error) given before) (take-nil most)
left-within most before (Gives status given after) is_told bytes state few is =
    let same : state ≡ after = ap (λ (l : Left). l.state) is in
    let fits : nat_le (length after) STATE ≡ true = le-leb _ _ (rw same at few) in
    rw fits (cut most is)
