use Rattle.std.proofs.Common.{[], ◌∷◌, ◌∙◌, sym}
use Rattle.std.proofs.lemmas.List.{append-nil}
use Rattle.qx_world.proofs.TraceLemmas.{received-next}
use Rattle.qx_world.proofs.trace.transcript_of.Goals as goal
use Rattle.qx_world.proofs.trace.transcript_of.Goals.{in-Some+in_ok-push, in_default}

pub loop-entry-preserved : goal.loop-entry-preserved
loop-entry-preserved c = elim c.match-branch-2.branch [
  | in-Some+in_ok-push w ↦ rw (w.transcript-is, w.in_ok-push.ensures.items, c.loop-entry.invariant) (received-next _ _ _ _ (w.in-Some.seen ∷ []) c.loop-entry-test.true c.entry-item.is (rw w.in-Some.is at c.in_ok-seen.ensures))
  | in_default w ↦ rw (w.transcript-is, c.loop-entry.invariant) (sym (append-nil _) ∙ received-next _ _ _ _ [] c.loop-entry-test.true c.entry-item.is (rw w.in_default.is at c.in_ok-seen.ensures))
]
