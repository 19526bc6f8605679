use Rattle.std.proofs.Common.{sym, ◌∙◌}
use Rattle.qx_monitor.proofs.ReleasedLemmas.{released_none, released_too, not_released, released_all}
use Rattle.qx_monitor.proofs.locked.Locked.came.Goals as goal

pub looking-init : goal.looking-init
looking-init g c = released_none _ _ _ (c.new-came.ensures.user ∙ c.user.ensures) c.new-came.ensures.none

pub insert-requires-clause-user : goal.insert-requires-clause-user
insert-requires-clause-user g c = c.in-Some.ensures.of_user ∙ c.looking.invariant.waiting_user ∙ sym c.looking.invariant.released_user

pub looking-preserved-then-not-is_to_come : goal.looking-preserved-then-not-is_to_come
looking-preserved-then-not-is_to_come g c =
    let popped = c.in-Some.ensures in
    released_too _ _ _ _ _ c.in-Some.thread c.looking.invariant popped.user popped.possible popped.was_in popped.left popped.others (sym c.is_to_come.ensures ∙ c.if-not-is_to_come.true) _ c.insert.ensures.user c.insert.ensures.joined c.insert.ensures.others

pub looking-preserved : goal.looking-preserved
looking-preserved g c =
    let popped = c.in-Some.ensures in
    not_released _ _ _ _ _ c.in-Some.thread c.looking.invariant popped.user popped.possible popped.was_in popped.left popped.others (sym c.is_to_come.ensures ∙ c.if-not-is_to_come.false)

pub returns : goal.returns
returns g c = λ thread is. released_all _ _ _ _ c.looking.invariant c.in_default.ensures.none thread is
