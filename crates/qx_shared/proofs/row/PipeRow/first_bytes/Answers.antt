use Rattle.std.proofs.Common.{◌≡◌, ◌+◌, ◌-◌, ◌++◌, ◌∙◌, ap, arith, length, sym, take}
use Rattle.std.proofs.Math.Seq.{take-append-add}
use Rattle.qx_shared.proofs.row.PipeRow.first_bytes.Goals as goal

pub returns-clause-bytes : goal.returns-clause-bytes
returns-clause-bytes c =
    let first = c.as_slices.result.0.now in
    let second = c.as_slices.result.1.now in
    let count : length first + (c.args.count - length first) ≡ c.args.count = omega (arith, c.if-count-first.false) in
    rw (← c.as_slices.ensures.bytes) (sym (take-append-add first second (c.args.count - length first)) ∙ ap (λ n. take n (first ++ second)) count)
