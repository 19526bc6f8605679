use Rattle.std.proofs.Common.{◌≡◌, length}
use Rattle.qx_lists.specs.Table.{nodes_of}
use Rattle.qx_lists.proofs.WalkLemmas.{nodes_from}
use Rattle.qx_notify.proofs.TriggerLemmas.{Left}
use Rattle.qx_notify.proofs.all.AllEvents.trigger.Given as goal

abbrev pub invariant-events : goal.invariant-events
invariant-events g l = record {
  lists : l.self-inside.lists ≡ l.initial.self-inside.lists;
  left : Left (g.C.Changes.lives l.changes) (g.C.Changes.before l.changes) (g.C.Changes.after l.changes) l.initial.self-inside.table l.self-inside.table l.initial.self-inside.counts.items l.self-inside.counts.items l.initial.self-inside.lists.items l.user.0 l.armed l.next;
}

abbrev pub decreases-events : goal.decreases-events
decreases-events g l = length (nodes_from l.next (nodes_of l.self-inside.table l.armed))
