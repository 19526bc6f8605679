use Rattle.std.proofs.Common.{◌≡◌, ◌++◌, ap, ◌∙◌, arith, replicate}
use Rattle.qx_files.proofs.places.with_zeros.Goals as goal

pub returns-clause-zeros : goal.returns-clause-zeros
returns-clause-zeros c =
    let all : c.loop.counter ≡ 512 = grind arith in
    c.loop.invariant.added ∙ ap (λ k. c.args.bytes.items ++ replicate k 0) all
