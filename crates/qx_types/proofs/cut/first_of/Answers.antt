use Rattle.std.proofs.Common.{◌≤◌, ◌∙◌, sym, length, take, take_all, length-take, length-take-le, arith}
use Rattle.qx_types.proofs.cut.first_of.Goals as goal

pub returns-then-bytes-le-KEPT : goal.returns-then-bytes-le-KEPT
returns-then-bytes-le-KEPT c = c.inline.ensures.bytes ∙ sym (take_all 40 c.args.bytes.now c.if-bytes-le-KEPT.true)

pub slice_bounds-inline-end : goal.slice_bounds-inline-end
slice_bounds-inline-end c = let more = c.if-bytes-le-KEPT.false in sym (length-take-le 40 c.args.bytes.now (omega (arith, more)))

pub inline-requires-2 : goal.inline-requires-2
inline-requires-2 c =
    let len = length-take 40 c.args.bytes.now in
    let few : length (take 40 c.args.bytes.now) ≤ 40 = omega (arith, len) in
    record { few = few }
