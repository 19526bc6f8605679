use Rattle.std.proofs.Common.{◌≡◌, ◌∙◌, ◌+◌, ◌<◌, ap, arith, length, lit<, subst, sym}
use Rattle.qx_tied.specs.Tied.{Known}
use Rattle.qx_tied.specs.inner.Counts.{GoesOn, Listed, tries_at}
use Rattle.qx_tied.proofs.SeatLemmas.{kept_count, kept_counts, tries-length}
use Rattle.qx_tied.proofs.ties.Ties.keep.Goals as goal

pub overflow_add-seat : goal.overflow_add-seat
overflow_add-seat g c =
    let count : c.seat.inside.count + c.args.count ≡ tries_at c.seat.inside.number c.args.front = kept_count c.seat.inside.number c.args.count c.seat.inside.count _ _ c.args.front _ c.seat.view_is c.seat.invariant c.requires.idle c.requires.more in
    let few = tries-length c.seat.inside.number c.args.front in
    let room = c.requires.room in
    record { fits = omega (arith, count, few, room) }

pub invariant_of-self : goal.invariant_of-self
invariant_of-self g c =
    let within : c.seat.inside.number < length c.self.inside.counts.items = subst (λ (known : Known). known.seat < length c.self.inside.counts.items) (sym c.seat.view_is) (subst (λ (l : Listed). c.args.seat.now.seat < l.seats) (sym c.self.view_is) c.requires.within) in
    let more : GoesOn c.seat.inside.number c.args.count c.self.inside.front c.args.front = subst (λ (known : Known). GoesOn known.seat c.args.count c.self.inside.front c.args.front) (sym c.seat.view_is) (subst (λ (l : Listed). GoesOn c.args.seat.now.seat c.args.count l.events c.args.front) (sym c.self.view_is) c.requires.more) in
    kept_counts c.self.inside.counts.items c.seat.inside.number c.args.count _ c.self.inside.front c.args.front within c.self.invariant (kept_count c.seat.inside.number c.args.count c.seat.inside.count _ _ c.args.front _ c.seat.view_is c.seat.invariant c.requires.idle c.requires.more) more

pub invariant_of-seat : goal.invariant_of-seat
invariant_of-seat g c = kept_count c.seat.inside.number c.args.count c.seat.inside.count _ _ c.args.front _ c.seat.view_is c.seat.invariant c.requires.idle c.requires.more ∙ ap (tries_at c.seat.inside.number) (sym c.again.ensures)
