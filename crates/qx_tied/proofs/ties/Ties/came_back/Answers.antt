use Rattle.std.proofs.Common.{◌∙◌, ap, subst, sym}
use Rattle.qx_tied.specs.Tied.{done_at, own_from, taken}
use Rattle.qx_tied.specs.inner.Counts.{GoesOn}
use Rattle.qx_tied.proofs.EventLemmas.{back_list, back_taken}
use Rattle.qx_tied.proofs.SeatLemmas.{goes_back, whole}
use Rattle.qx_tied.proofs.ties.Ties.came_back.Goals as goal

pub keep-requires-clause-more : goal.keep-requires-clause-more
keep-requires-clause-more g c =
    let tried = c.requires.tried in
    let events = c.args.self.now.events in
    let list = back_list events tried.0 c.seat.inside.number c.args.front c.add.new.self (tried.1 ∙ sym (ap (λ k. k.seat) c.seat.view_is)) tried.2 c.if-add.ensures in
    subst (λ n. GoesOn n 2 events c.add.new.self) tried.1 (subst (GoesOn tried.0.seat 2 events) (sym list) (goes_back events tried.0))

pub returns-then-add-clause-list : goal.returns-then-add-clause-list
returns-then-add-clause-list g c =
    let tried = c.requires.tried in
    ap (λ l. taken l.events) c.keep.ensures.list ∙ back_taken c.args.self.now.events tried.0 c.seat.inside.number c.args.front c.add.new.self (tried.1 ∙ sym (ap (λ k. k.seat) c.seat.view_is)) tried.2 c.if-add.ensures

pub returns-then-add-clause-done : goal.returns-then-add-clause-done
returns-then-add-clause-done g c = λ began.
    let tried = c.requires.tried in
    let n = c.args.seat.now.seat in
    let same = back_taken c.args.self.now.events tried.0 c.seat.inside.number c.args.front c.add.new.self (tried.1 ∙ sym (ap (λ k. k.seat) c.seat.view_is)) tried.2 c.if-add.ensures in
    ap (done_at began) c.keep.ensures.seat ∙ ap (own_from n began) same ∙ whole n began c.args.seat.now.events c.args.self.now.events c.requires.idle
