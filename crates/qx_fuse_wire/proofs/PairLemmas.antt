-- The first of some pairs.
use Rattle.std.proofs.Common.{◌≡◌, ℕ, zero, suc, ◌<◌, ◌≤◌, ◌+◌, ◌-◌, ltb, List, ◌∷◌, length, take, drop, Some, refl, ap, arith, length-drop}
use Rattle.std.proofs.lemmas.Bool.{ltb-false}
use Rattle.qx_wire.specs.Reading.{number_at}
use Rattle.qx_wire.proofs.FieldLemmas.{none_else_some}
use Rattle.std.specs.Int.{w64, from_le_bytes}
use Rattle.qx_fuse_wire.specs.Forms.{pairs}

pub pairs_next : (count : ℕ) (bytes : List ℕ) → 0 < count
    → pairs count bytes ≡ (from_le_bytes w64 (take 8 bytes), from_le_bytes w64 (take 8 (drop 8 bytes))) ∷ pairs (count - 1) (drop 8 (drop 8 bytes))
pairs_next zero bytes some = absurd (omega arith)
pairs_next (suc count) bytes some = let e : suc count - 1 ≡ count = omega arith in rw e refl

-- a number takes 8 bytes
pub number_left : (bytes rest : List ℕ) (n : ℕ) → number_at w64 bytes ≡ Some (n, rest) → length bytes ≡ 8 + length rest
number_left bytes rest n e =
    let g = none_else_some (ltb (length bytes) 8) (from_le_bytes w64 (take 8 bytes), drop 8 bytes) (n, rest) e in
    let long : 8 ≤ length bytes = ltb-false _ _ g.0 in
    let same : drop 8 bytes ≡ rest = ap (λ (x : ℕ × List ℕ). x.1) g.1 in
    let left = length-drop 8 bytes in
    let lengths : length (drop 8 bytes) ≡ length rest = ap length same in
    omega (arith, long, left, lengths)
