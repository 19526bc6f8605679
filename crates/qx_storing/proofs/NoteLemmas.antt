-- What a step adds to the notes of a seat, and to what was stored.
use Rattle.std.proofs.Common.{◌≡◌, ◌∷◌, [], Bool, List, true, false, ap, length, refl, suc, sym}
use Rattle.std.proofs.lemmas.Bool.{false≢true}
use Rattle.qx_types.specs.declared.outcome.Outcome.{Outcome}
use Rattle.qx_types.specs.declared.outcome.Outcome.TheVariants.{Reply}
use Rattle.qx_types.specs.declared.step.Step.{Step}
use Rattle.qx_machine.specs.Machine.{World, boot, step}
use Rattle.qx_machine.specs.Runs.{entries_from}
use Rattle.qx_machine.proofs.Runs.{world_after-append}
use Rattle.qx_world.specs.Trace.{IsAfter, Trace, run_of}
use Rattle.qx_types.specs.Cut.{cut_outcome}
use Rattle.qx_world.specs.Outcomes.{is_reply}
use Rattle.qx_world.specs.Seats.{world_then}

entries_from-length : (w : World) (steps : List Step) → length (entries_from w steps) ≡ length steps
entries_from-length w [] = refl
entries_from-length w (e ∷ steps) = ap suc (entries_from-length (step w e).world steps)

-- there is an entry for each step
pub entries_length : (trace : Trace) → length (run_of trace).entries ≡ length trace.steps
entries_length trace = entries_from-length (boot trace.config) trace.steps

-- the world that the steps come to, after a step that was stored, or was not
pub world_stored : (before after : Trace) (e : Step) (stored : Bool) → IsAfter before e stored after → (run_of after).world ≡ world_then (run_of before).world e stored
world_stored before after e true is = rw (is.config, is.steps) (world_after-append (boot before.config) before.steps e)
world_stored before after e false is = rw (is.config, is.steps) refl

-- a recorder keeps all of what is no reply
pub uncut : (o : Outcome) → is_reply o ≡ false → cut_outcome o ≡ o
uncut (Reply status bytes) plain = absurd (false≢true (sym plain))
uncut _ plain = refl
