use Rattle.std.proofs.Common.{◌≡◌, ◌-◌, ◌≤◌, ◌∙◌, suc, Some, set, slice_get, unwrap_or, refl, sym, ap, ap₂, arith}
use Rattle.qx_types.specs.declared.limits.TheConstants.Limits.{PROCESSES}
use Rattle.qx_machine.specs.Events.{come_to_hold, is_any, is_due, wanted_of}
use Rattle.qx_notify.specs.inner.Kept.{event_at, lists_at, no_event}
use Rattle.qx_notify.proofs.KeptLemmas.{ArmedList, armed-list, process-within}
use Rattle.qx_notify.proofs.TriggerLemmas.{Left, Stands, count-taken, counted-here, given-gone, left-all, left-given, left-passed, left-taken-out, node-process, node-there, pulse-told, taken-gone, triggers, walk-gone, walk-passed}
use Rattle.qx_notify.proofs.all.AllEvents.trigger.Given.{Over}
use Rattle.qx_notify.proofs.all.AllEvents.trigger.Goals as goal
use Rattle.qx_notify.proofs.all.AllEvents.trigger.Goals.{After-armed_of-armed, After-is_any, After-know-in-Some, After-lives, After-pulses_of-queue, After-value-event}

-- ---- what is known as the walk begins, and at a node

own_list : (g : Over) (c : After-armed_of-armed g) → ArmedList c.self.inside.table c.self.inside.lists.items c.args.user.0 c.armed_of-armed.result
own_list g c = armed-list c.self.inside.table c.self.inside.lists.items c.self.inside.counts.items c.self.invariant c.args.user.0 c.args.self.now c.self.view_is c.requires.user c.deref.result.now c.deref.ensures.value c.armed_of-armed.result c.armed_of-armed.ensures

left_here : (g : Over) (c : After-know-in-Some g)
    → Left (g.C.Changes.lives c.args.changes.now) (g.C.Changes.before c.args.changes.now) (g.C.Changes.after c.args.changes.now) c.self.inside.table c.events.self-inside.table c.self.inside.counts.items c.events.self-inside.counts.items c.self.inside.lists.items c.args.user.0 c.armed_of-armed.result (Some c.in-Some.node)
left_here g c = rw c.in-Some.is at c.events.invariant.left

stand_here : (g : Over) (c : After-know-in-Some g) → Stands c.events.self-inside.table c.self.inside.lists.items c.args.user.0 c.armed_of-armed.result
stand_here g c =
    let own = armed-list c.self.inside.table c.self.inside.lists.items c.self.inside.counts.items c.self.invariant c.args.user.0 c.args.self.now c.self.view_is c.requires.user c.deref.result.now c.deref.ensures.value c.armed_of-armed.result c.armed_of-armed.ensures in
    record { within = own.within; is = own.is; apart = c.self.invariant.apart; distinct = c.know-in-Some.ensures.distinct; alone = c.know-in-Some.ensures.apart }

event_is : (g : Over) (c : After-value-event g) → event_at c.events.self-inside.table c.in-Some.node ≡ c.value-event.result.now
event_is g c = ap (λ o. unwrap_or o no_event) c.value-event.ensures

due : (g : Over) (c : After-is_any g) → is_due (g.C.Changes.before c.args.changes.now) (g.C.Changes.after c.args.changes.now) (event_at c.events.self-inside.table c.in-Some.node) ≡ c.is_any.result
due g c =
    ap (λ o. is_due (g.C.Changes.before c.args.changes.now) (g.C.Changes.after c.args.changes.now) (unwrap_or o no_event)) c.value-event.ensures
    ∙ sym (c.is_any.ensures ∙ ap is_any (c.wanted_of.ensures ∙ ap (wanted_of c.value-event.result.now.conditions) (c.come_to_hold.ensures ∙ ap₂ come_to_hold c.of-change.ensures.before c.of-change.ensures.after)))

lives : (g : Over) (c : After-lives g) → g.C.Changes.lives c.args.changes.now (event_at c.events.self-inside.table c.in-Some.node).process ≡ c.lives.result
lives g c = ap (λ o. g.C.Changes.lives c.args.changes.now (unwrap_or o no_event).process) c.value-event.ensures ∙ sym c.lives.ensures.lives

queue_is : (g : Over) (c : After-pulses_of-queue g) → slice_get (lists_at c.self.inside.lists.items c.args.user.0).pulses (event_at c.events.self-inside.table c.in-Some.node).process ≡ Some c.pulses_of-queue.result
queue_is g c =
    ap₂ (λ l o. slice_get (lists_at l c.args.user.0).pulses (unwrap_or o no_event).process) (sym (c.deref-then-lives.ensures.value ∙ ap (λ l. l.items) c.events.invariant.lists)) c.value-event.ensures
    ∙ c.pulses_of-queue.ensures

-- ---- the goals

pub first-next-requires : goal.first-next-requires
first-next-requires g c = (own_list g (goal.at.first-next-requires g c).After-armed_of-armed).there

pub events-init : goal.events-init
events-init g c =
    let own = own_list g (goal.at.events-init g c).After-armed_of-armed in
    record { lists = refl; left = left-all _ _ _ c.first-next.result c.self.invariant own c.first-next.ensures }

pub next-next-requires : goal.next-next-requires
next-next-requires g c =
    let here = (goal.at.next-next-requires g c).After-know-in-Some in
    node-there (left_here g here) (stand_here g here)

pub value-event-requires : goal.value-event-requires
value-event-requires g c =
    let here = (goal.at.value-event-requires g c).After-know-in-Some in
    c.know-in-Some.ensures.there c.armed_of-armed.result c.in-Some.node (node-there (left_here g here) (stand_here g here))

pub events-smaller-then-not-is_any : goal.events-smaller-then-not-is_any
events-smaller-then-not-is_any g c =
    let here = (goal.at.events-smaller-then-not-is_any g c).After-know-in-Some in
    rw c.in-Some.is (walk-passed (left_here g here) (stand_here g here) c.next-next.result c.next-next.ensures)

pub events-preserved-then-not-is_any : goal.events-preserved-then-not-is_any
events-preserved-then-not-is_any g c =
    let at = goal.at.events-preserved-then-not-is_any g c in
    record {
      lists = c.events.invariant.lists;
      left = left-passed (left_here g at.After-know-in-Some) (stand_here g at.After-know-in-Some) c.next-next.result (due g at.After-is_any ∙ c.if-not-is_any.true) c.next-next.ensures;
    }

pub pulses_of-queue-requires-clause-process : goal.pulses_of-queue-requires-clause-process
pulses_of-queue-requires-clause-process g c =
    let at = goal.at.pulses_of-queue-requires-clause-process g c in
    let lists = c.deref-then-lives.ensures.value ∙ ap (λ l. l.items) c.events.invariant.lists in
    let few : c.value-event.result.now.process ≤ PROCESSES = rw (event_is g at.After-value-event) at (node-process (left_here g at.After-know-in-Some) (stand_here g at.After-know-in-Some)) in
    rw lists (process-within c.self.inside.table c.self.inside.lists.items c.self.inside.counts.items c.self.invariant c.args.user.0 (stand_here g at.After-know-in-Some).within c.value-event.result.now.process few)

pub move_to-requires-clause-node : goal.move_to-requires-clause-node
move_to-requires-clause-node g c =
    let here = (goal.at.move_to-requires-clause-node g c).After-know-in-Some in
    node-there (left_here g here) (stand_here g here)

pub move_to-requires-clause-to : goal.move_to-requires-clause-to
move_to-requires-clause-to g c =
    let at = goal.at.move_to-requires-clause-to g c in
    (left_here g at.After-know-in-Some).changed.there c.pulses_of-queue.result
    (c.self.invariant.there c.args.user.0 (suc (event_at c.events.self-inside.table c.in-Some.node).process) c.pulses_of-queue.result
    (record { within = (stand_here g at.After-know-in-Some).within; is = queue_is g at.After-pulses_of-queue }))

pub events-smaller-then-lives : goal.events-smaller-then-lives
events-smaller-then-lives g c =
    let at = goal.at.events-smaller-then-lives g c in
    let left = left_here g at.After-know-in-Some in
    let stand = stand_here g at.After-know-in-Some in
    rw c.in-Some.is (walk-gone left stand c.move_to.new.table
    (given-gone left stand c.pulses_of-queue.result (queue_is g at.After-pulses_of-queue) _ c.move_to.new.table c.move_to.ensures.put) c.next-next.result c.next-next.ensures)

pub events-preserved-then-lives : goal.events-preserved-then-lives
events-preserved-then-lives g c =
    let at = goal.at.events-preserved-then-lives g c in
    record {
      lists = c.events.invariant.lists;
      left = left-given (left_here g at.After-know-in-Some) (stand_here g at.After-know-in-Some) c.pulses_of-queue.result (queue_is g at.After-pulses_of-queue) _ c.move_to.new.table c.move_to.ensures.put c.next-next.result
          (due g at.After-is_any ∙ c.if-not-is_any.false) (lives g at.After-lives ∙ c.if-lives.true)
          (pulse-told (g.C.Changes.after c.args.changes.now) (event_at c.events.self-inside.table c.in-Some.node) c.value-event.result.now c.of-change.result.after c.pulse_value.result (event_is g at.After-value-event) c.pulse_value.ensures c.of-change.ensures.after)
          c.next-next.ensures c.move_to.ensures.room;
    }

pub take_out-requires : goal.take_out-requires
take_out-requires g c =
    let here = (goal.at.take_out-requires g c).After-know-in-Some in
    record { node = node-there (left_here g here) (stand_here g here) }

pub overflow_sub-index_mut : goal.overflow_sub-index_mut
overflow_sub-index_mut g c =
    let here = (goal.at.overflow_sub-index_mut g c).After-know-in-Some in
    let left = left_here g here in
    let stand = stand_here g here in
    let counted = counted-here left stand c.self.invariant c.index_mut.result.now c.index_mut.ensures.value in
    let one_more = count-taken left stand in
    omega (arith, counted, one_more)

pub events-smaller : goal.events-smaller
events-smaller g c =
    let at = goal.at.events-smaller g c in
    let left = left_here g at.After-know-in-Some in
    let stand = stand_here g at.After-know-in-Some in
    rw (c.in-Some.is, c.take_out.ensures.taken) (walk-gone left stand _ (taken-gone left stand) c.next-next.result c.next-next.ensures)

pub events-preserved : goal.events-preserved
events-preserved g c =
    let at = goal.at.events-preserved g c in
    let left = left_here g at.After-know-in-Some in
    let stand = stand_here g at.After-know-in-Some in
    let counted = counted-here left stand c.self.invariant c.index_mut.result.now c.index_mut.ensures.value in
    rw c.take_out.ensures.taken (record {
      lists = c.events.invariant.lists;
      left = left-taken-out left stand c.next-next.result (set c.events.self-inside.counts.items c.args.user.0 (c.index_mut.result.now - 1)) (due g at.After-is_any ∙ c.if-not-is_any.false) (lives g at.After-lives ∙ c.if-lives.false) c.next-next.ensures
          (ap (λ n. set c.events.self-inside.counts.items c.args.user.0 (n - 1)) counted);
    })

pub invariant_of-self : goal.invariant_of-self
invariant_of-self g c =
    let own = own_list g (goal.at.invariant_of-self g c).After-armed_of-armed in
    rw c.events.invariant.lists (triggers c.self.invariant own (rw c.in_default.is at c.events.invariant.left)).kept_is

pub returns : goal.returns
returns g c =
    let own = own_list g (goal.at.returns g c).After-armed_of-armed in
    rw (c.events.invariant.lists, ← c.self.view_is) (triggers c.self.invariant own (rw c.in_default.is at c.events.invariant.left)).told_is
