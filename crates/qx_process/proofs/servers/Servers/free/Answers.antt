use Rattle.std.proofs.Common.{◌≡◌, None, get_or, sym, ◌∙◌, ap, true, false}
use Rattle.qx_machine.specs.Servers.{is_left}
use Rattle.qx_rows.proofs.RowLemmas.{refill-set}
use Rattle.qx_process.proofs.ServerLemmas.{left_freed, used_kept}
use Rattle.qx_process.proofs.servers.Servers.free.Goals as goal

pub returns-then-is_left : goal.returns-then-is_left
returns-then-is_left c =
    let places = c.self.inside.places.items in
    let left : is_left (get_or places c.args.number None) ≡ true = ap (λ all. is_left (get_or all c.args.number None)) (sym c.deref.ensures.0) ∙ sym c.is_left.ensures ∙ c.if-is_left.true in
    record { freed = rw (c.deref_mut.ensures.value, refill-set places c.args.number None, ← c.self.view_is) (left_freed places c.args.number left) }

pub returns-else-is_left : goal.returns-else-is_left
returns-else-is_left c =
    let places = c.self.inside.places.items in
    let used : is_left (get_or places c.args.number None) ≡ false = ap (λ all. is_left (get_or all c.args.number None)) (sym c.deref.ensures.0) ∙ sym c.is_left.ensures ∙ c.if-is_left.false in
    record { freed = rw (← c.self.view_is) (used_kept places c.args.number used) }
