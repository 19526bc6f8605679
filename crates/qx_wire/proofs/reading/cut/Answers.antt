use Rattle.std.proofs.Common.{rules, arith, refl, ◌≡◌}
use Rattle.qx_wire.specs.Reading.{body_cut, cut, frame_at}
use Rattle.qx_wire.proofs.TableLemmas.{cut_spelled, judged_where-kept}
use Rattle.qx_wire.proofs.reading.cut.Goals as goal

pub returns-clause-cut : goal.returns-clause-cut
unfolding cut frame_at
returns-clause-cut c =
    let found : cut c.args.bytes.now ≡ body_cut c.in-Some.kind c.in-Some-u16_at.subtype c.in-Some-u32_at.body.now = search rules in
    rw found c.body_cut.ensures

pub returns-clause-spelled : goal.returns-clause-spelled
returns-clause-spelled c = rw (returns-clause-cut c) (judged_where-kept _ c.args.judges (cut c.args.bytes.now) (cut_spelled c.args.bytes.now (λ i. omega (arith, c.type_inv.bytes i)) (cut c.args.bytes.now) refl))
