use Rattle.std.proofs.Common.{◌≡◌, ◌≤◌, ℕ, List, ◌++◌, ◌∙◌, ap, arith, take, replicate}
use Rattle.std.proofs.lemmas.List.{take-replicate}
use Rattle.qx_fuse_wire.proofs.names.put_zeros.Goals as goal

pub returns : goal.returns
returns c =
    let few : c.args.count ≤ 8 = omega (arith, c.requires.few) in
    let taken : take {A = ℕ} c.args.count (replicate {A = ℕ} 8 0) ≡ replicate {A = ℕ} c.args.count 0 = take-replicate {X = ℕ} c.args.count 8 0 few in
    record { zeros = c.put_bytes.ensures.bytes ∙ ap (λ (zeros : List ℕ). c.args.out.now.items ++ zeros) taken }
