use Rattle.std.proofs.Common.{◌<◌, ◌∙◌, ap, length}
use Rattle.std.proofs.lemmas.List.{length-map}
use Rattle.qx_machine.specs.Runs.{is_owner}
use Rattle.qx_world.proofs.TraceLemmas.{is_run-length, is_run-owner}
use Rattle.qx_world.proofs.trace.Traced.is_owned.Goals as goal

pub bounds-as_slice-place : goal.bounds-as_slice-place
bounds-as_slice-place c =
    rw (c.as_slice.ensures.value, is_run-length _ _ _ c.self.invariant, ← length-map c.self.inside.entries.items (λ entry. entry.step)) (rw (← c.self.view_is) at c.requires)

pub returns : goal.returns
returns c =
    let here : c.args.place < length c.self.inside.entries.items = rw (← length-map c.self.inside.entries.items (λ entry. entry.step)) (rw (← c.self.view_is) at c.requires) in
    rw (← c.self.view_is) ((rw c.as_slice.ensures.value at c.is_owner.ensures) ∙ ap (is_owner c.args.user.0) (is_run-owner _ _ _ _ c.self.invariant here))
