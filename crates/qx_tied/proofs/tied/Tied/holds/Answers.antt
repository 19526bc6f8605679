use Rattle.std.proofs.Common.{◌∙◌, ap, sym}
use Rattle.qx_tied.specs.Tied.{own_from}
use Rattle.qx_tied.proofs.SeatLemmas.{whole}
use Rattle.qx_tied.proofs.tied.Tied.holds.Goals as goal

pub returns-clause-holds : goal.returns-clause-holds
returns-clause-holds g c = λ is.
    let known = c.args.seat.now in
    ap (λ r. own_from known.seat g.J.OfRun.began r.steps) (sym c.self.view_is) ∙ whole known.seat g.J.OfRun.began known.events c.self.inside.ties.events (c.are_known.ensures.idle is)
