use Rattle.std.proofs.Common.{◌≡◌, length}
use Rattle.qx_queues.specs.Queues.{HasList, waiting_in_list}
use Rattle.qx_queues.specs.Waits.{leaves}
use Rattle.qx_queues.proofs.LeavingLemmas.{taken}
use Rattle.qx_queues.proofs.queues.Queues.take_out.Given as goal

abbrev pub invariant-leaving : goal.invariant-leaving
invariant-leaving l = record {
  list : HasList l.self l.list;
  same : taken (λ own. leaves l.which own.call) l.list l.self ≡ taken (λ own. leaves l.which own.call) l.list l.initial.self;
}

abbrev pub decreases-leaving : goal.decreases-leaving
decreases-leaving l = length (waiting_in_list l.self l.list)
