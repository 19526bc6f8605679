use Rattle.std.proofs.Common.{◌≡◌, ◌<◌, ◌∙◌, sym, length, get_or}
use Rattle.qx_world.proofs.TraceLemmas.{erased-kept, erased-left}
use Rattle.qx_world.proofs.trace.Traced.erased.Goals as goal
use Rattle.qx_world.proofs.trace.Traced.erased.Goals.{then-is_owned+in_ok-store_copy, else-is_owned}

pub loop-place-preserved : goal.loop-place-preserved
loop-place-preserved c =
    let lt : c.loop-place.place < length c.self.inside.entries.items = rw (← c.deref-entry-items.ensures.value) c.loop-place-test.true in
    let read : c.entry-item.result ≡ get_or c.self.inside.entries.items c.loop-place.place c.entry-item.result = rw (← c.deref-entry-items.ensures.value) c.entry-item.is in
    let owned = rw (← c.self.view_is) at c.is_owned.ensures in
    elim c.if-is_owned.branch [
      | then-is_owned+in_ok-store_copy w ↦ record {
        config = rw (w.erased-is, w.in_ok-store_copy.ensures.config) c.loop-place.invariant.config;
        steps = rw (w.erased-is, w.in_ok-store_copy.ensures.steps, c.loop-place.invariant.steps, ← c.self.view_is) (erased-kept _ _ _ _ _ lt read (sym owned ∙ w.if-is_owned.true));
      }
      | else-is_owned w ↦ record {
        config = rw w.erased-is c.loop-place.invariant.config;
        steps = rw (w.erased-is, c.loop-place.invariant.steps, ← c.self.view_is) (erased-left _ _ _ _ _ lt read (sym owned ∙ w.if-is_owned.false));
      }
    ]
