use Rattle.qx_storing.proofs.MarkLemmas.{seat_agrees, seat_disagrees, seats_end}
use Rattle.qx_storing.proofs.agreement.agree.Goals as goal

pub returns-then-not-fit : goal.returns-then-not-fit
returns-then-not-fit g c = seat_disagrees _ _ c.args.seats.now c.loop-seat.seat-index _ c.seat-item.result c.notes.result.now c.loop-seat-test.true c.seat-item.is c.notes.ensures c.loop-seat.invariant c.if-not-fit.ensures.fit

pub loop-seat-preserved : goal.loop-seat-preserved
loop-seat-preserved g c = seat_agrees _ _ c.args.seats.now c.loop-seat.seat-index _ _ c.seat-item.result c.notes.result.now c.loop-seat-test.true c.seat-item.is c.notes.ensures c.loop-seat.invariant c.fit.ensures.len c.if-not-fit.ensures.fit

pub returns : goal.returns
returns g c = seats_end _ _ c.args.seats.now c.loop-seat.seat-index _ _ c.loop-seat-test.false c.loop-seat.invariant c.are_all.ensures
