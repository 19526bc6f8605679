use Rattle.std.proofs.Common.{◌∙◌, ap, is_some, map, sym}
use Rattle.qx_lists.proofs.RingLemmas.{is_some-option_map}
use Rattle.qx_lists.specs.Table.{nodes_of}
use Rattle.qx_queues.specs.inner.Kept.{call_at}
use Rattle.qx_queues.specs.Queues.{UsersCall}
use Rattle.qx_queues.specs.Waits.{leaves}
use Rattle.qx_queues.proofs.BesideLemmas.{list_shown}
use Rattle.qx_queues.proofs.WaitLemmas.{carries-call, waiting-are}
use Rattle.qx_queues.proofs.WalkLemmas.{any-first, first-mapped}
use Rattle.qx_queues.proofs.queues.Queues.is_waiting.Goals as goal

pub first_leaving-requires-clause-list : goal.first_leaving-requires-clause-list
first_leaving-requires-clause-list c = (list_shown c.self.inside.table _ _ _ (rw (← c.self.view_is) at c.requires.list)).1

pub first_leaving-requires-clause-wait : goal.first_leaving-requires-clause-wait
first_leaving-requires-clause-wait c = λ node at. (carries-call c.self.inside.table _ _ c.self.invariant.1 c.args.list (list_shown c.self.inside.table _ _ _ (rw (← c.self.view_is) at c.requires.list)).0 node at).load

pub returns : goal.returns
returns c =
    let table = c.self.inside.table in
    let pipes = (list_shown table _ _ _ (rw (← c.self.view_is) at c.requires.list)).0 in
    let test = λ (own : UsersCall). leaves c.args.which own.call in
    rw (← c.self.view_is, waiting-are table _ _ c.self.invariant.1 c.args.list pipes)
    (c.is_some.ensures ∙ ap is_some c.first_leaving.ensures ∙ sym (any-first test (map (call_at table) (nodes_of table c.args.list)) ∙ ap is_some (sym (first-mapped (call_at table) test (nodes_of table c.args.list))) ∙ is_some-option_map (call_at table) _))
