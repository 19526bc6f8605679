-- How large ends are, and that they rise.
use Rattle.std.proofs.Common.{arith, zero, suc, inl, inr, ◌⊎◌, ℕ, ◌^◌, ◌<◌, ◌≤◌, ◌≡◌}
use Rattle.std.proofs.lemmas.Grind.{pow_more}
use Rattle.std.proofs.Math.Nat.{pow-le-pow_right}
use Rattle.bench_threads.specs.Ends.{end_of}

pub lt_or_le : (n m : ℕ) → (n < m) ⊎ (m ≤ n)
lt_or_le n m = grind (arith)

-- each is at least 1, and at most twice the one before
end_doubles : (k : ℕ) → (1 ≤ end_of k) × (end_of k ≤ 2 ^ k)
end_doubles zero = (omega arith, omega arith)
end_doubles (suc k) =
    let h = end_doubles k in
    (omega arith, grind (arith, h.0, h.1, pow_more 2 k))

pub end_small : (k : ℕ) → k < 120 → end_of k ≤ 2 ^ 119
end_small k less = grind (arith, end_doubles k, pow-le-pow_right {n = 2} (omega arith) {i = k} {j = 119} (omega (arith, less)))

pub end_rises : (i k : ℕ) → i ≤ k → end_of i ≤ end_of k
end_rises i zero at_most =
    let e : i ≡ 0 = omega (arith, at_most) in
    rw e (omega arith)
end_rises i (suc k) at_most = elim (lt_or_le k i) [
  | inl last ↦
      let e : i ≡ suc k = omega (arith, at_most, last) in
      rw e (omega arith)
  | inr before ↦ omega (arith, end_rises i k before)
]
