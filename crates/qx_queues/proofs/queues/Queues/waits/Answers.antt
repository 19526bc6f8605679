use Rattle.std.proofs.Common.{◌≡◌, ◌∙◌, ap, option_map, unwrap_or, sym}
use Rattle.qx_queues.specs.inner.Kept.{nobodys}
use Rattle.qx_queues.specs.Nodes.{Message, node_of}
use Rattle.qx_queues.specs.Waiting.{waits_in}
use Rattle.qx_queues.proofs.TableLemmas.{none_some, some_same}
use Rattle.qx_queues.proofs.WaitLemmas.{if_none, waits-nowhere}
use Rattle.qx_queues.proofs.queues.Queues.waits.Goals as goal

pub value-requires : goal.value-requires
value-requires c = c.self.invariant.1.there (Message c.args.thread) c.in_ok-own.own.message (ap (option_map (λ own. own.message)) (sym c.at.ensures.own ∙ c.in_ok-own.was))

pub returns : goal.returns
returns c = record {
  nowhere = if_none _ c.waits.result (λ none. rw (← c.self.view_is) (waits-nowhere c.self.inside.table c.self.inside.lines.items _ c.self.invariant.1 c.args.thread c.args.call (λ node has.
      let same : node ≡ c.in_ok-own.own.message = some_same _ _ (node_of c.self.inside.nodes (Message c.args.thread)) has (ap (option_map (λ own. own.message)) (sym c.at.ensures.own ∙ c.in_ok-own.was)) in
      rw same (ap (λ o. waits_in c.args.call (unwrap_or o nobodys).load) c.value.ensures ∙ sym c.waits.ensures.waits ∙ none))));
}

pub returns-in_err-own : goal.returns-in_err-own
returns-in_err-own c = rw c.from_residual.ensures (record {
  nowhere = rw (← c.self.view_is) (waits-nowhere c.self.inside.table c.self.inside.lines.items _ c.self.invariant.1 c.args.thread c.args.call (λ node has.
      absurd (none_some node (node_of c.self.inside.nodes (Message c.args.thread)) (ap (option_map (λ own. own.message)) (sym c.at.ensures.own ∙ c.in_err-own.was)) has)));
})
