use Rattle.std.proofs.Common.{◌≡◌, ◌∙◌, ℕ, Some, ap, ap₂, option_map, unwrap_or, refl, sym}
use Rattle.std.specs.FinMap as maps
use Rattle.qx_lists.specs.Table.{Table, nodes_of}
use Rattle.qx_isolation.specs.declared.rows.Queued.{Queued}
use Rattle.qx_machine.specs.declared.rows.WaitingCall.{WaitingCall}
use Rattle.qx_queues.specs.inner.Kept.{call_at, nobodys, users_call_carried as call_with, waiting_of_node}
use Rattle.qx_queues.specs.Nodes.{Message, node_of}
use Rattle.qx_queues.specs.Queues.{UsersCall, caller}
use Rattle.qx_queues.specs.Waiting.{Waiting, Waits, carried, no_call}
use Rattle.qx_queues.specs.Waits.{leaves, users_call}
use Rattle.qx_queues.proofs.BesideLemmas.{list_shown, pipes_apart}
use Rattle.qx_queues.proofs.CallLemmas.{Kept-out, Moved-out, left-out, pulses-moved, value-moved}
use Rattle.qx_queues.proofs.PresenceLemmas.{nodes-some, threads-nodes}
use Rattle.qx_queues.proofs.WaitLemmas.{caller-owns, carries-call, received-answered, received-idle, received-waits, waiting-are}
use Rattle.qx_queues.proofs.WalkLemmas.{first-mapped, leads}
use Rattle.qx_queues.proofs.queues.Queues.take_first.Goals as goal

-- the call that a node carried, with its user
own-call : (t : Table Waiting) (node : ℕ) (value : Waiting) (queued : Queued) (call : WaitingCall) → maps.get t.values node ≡ Some value → queued ≡ value.queued → Waits call ≡ (waiting_of_node t node).load → call_at t node ≡ users_call queued.user.0 call
own-call t node value queued call at entry load = ap₂ users_call (ap (λ o. (unwrap_or o nobodys).queued.user.0) at ∙ sym (ap (λ q. q.user.0) entry)) (ap (λ l. unwrap_or (carried l) no_call) (sym load))

pub first_leaving-requires-clause-list : goal.first_leaving-requires-clause-list
first_leaving-requires-clause-list c = (list_shown c.self.inside.table _ _ _ (rw (← c.self.view_is) at c.requires.list)).1

pub first_leaving-requires-clause-wait : goal.first_leaving-requires-clause-wait
first_leaving-requires-clause-wait c = λ node at. (carries-call c.self.inside.table _ _ c.self.invariant.1 c.args.list (list_shown c.self.inside.table _ _ _ (rw (← c.self.view_is) at c.requires.list)).0 node at).load

pub returns-in_err-node-clause-first : goal.returns-in_err-node-clause-first
returns-in_err-node-clause-first c =
    let table = c.self.inside.table in
    let pipes = (list_shown table _ _ _ (rw (← c.self.view_is) at c.requires.list)).0 in
    let test = λ (own : UsersCall). leaves c.args.which own.call in
    rw (c.from_residual.ensures, ← c.self.view_is, waiting-are table _ _ c.self.invariant.1 c.args.list pipes) (ap (option_map (call_at table)) (sym c.in_err-node.was ∙ c.first_leaving.ensures) ∙ first-mapped (call_at table) test (nodes_of table c.args.list))

pub value-requires : goal.value-requires
value-requires c =
    let lead = leads (call_at c.self.inside.table) (λ own. leaves c.args.which own.call) (nodes_of c.self.inside.table c.args.list) c.in_ok-node.node (c.know.ensures.distinct c.args.list) (sym c.first_leaving.ensures ∙ c.in_ok-node.was) in
    c.know.ensures.there c.args.list c.in_ok-node.node lead.there

pub take_slot-requires-clause-in_list : goal.take_slot-requires-clause-in_list
take_slot-requires-clause-in_list c = (leads (call_at c.self.inside.table) (λ own. leaves c.args.which own.call) (nodes_of c.self.inside.table c.args.list) c.in_ok-node.node (c.know.ensures.distinct c.args.list) (sym c.first_leaving.ensures ∙ c.in_ok-node.was)).there

pub into_call-call-requires : goal.into_call-call-requires
into_call-call-requires c =
    let pipes = (list_shown c.self.inside.table _ _ _ (rw (← c.self.view_is) at c.requires.list)).0 in
    let lead = leads (call_at c.self.inside.table) (λ own. leaves c.args.which own.call) (nodes_of c.self.inside.table c.args.list) c.in_ok-node.node (c.know.ensures.distinct c.args.list) (sym c.first_leaving.ensures ∙ c.in_ok-node.was) in
    record { waits = rw c.take_slot.ensures.carried (carries-call c.self.inside.table _ _ c.self.invariant.1 c.args.list pipes c.in_ok-node.node lead.there).load }

pub invariant_of-self : goal.invariant_of-self
invariant_of-self c =
    let off = pipes_apart c.self.inside.lines.items c.self.inside.answered c.args.list (list_shown c.self.inside.table _ _ _ (rw (← c.self.view_is) at c.requires.list)).0 in
    let lead = leads (call_at c.self.inside.table) (λ own. leaves c.args.which own.call) (nodes_of c.self.inside.table c.args.list) c.in_ok-node.node (c.know.ensures.distinct c.args.list) (sym c.first_leaving.ensures ∙ c.in_ok-node.was) in
    let there = c.know.ensures.there c.args.list c.in_ok-node.node lead.there in
    let kept = c.self.invariant.1 in (
      c.self.invariant.0,
      Kept-out c.self.inside.table _ _ _ _ _ kept c.take_slot.ensures.taken lead.there there c.know.ensures.apart off.0,
      pulses-moved c.self.inside.table _ _ _ _ _ kept (Moved-out c.self.inside.table _ _ _ _ _ kept c.take_slot.ensures.taken lead.there there c.know.ensures.apart) off.0 _ c.self.invariant.2,
      c.self.invariant.3,
    )

pub returns-clause-first : goal.returns-clause-first
returns-clause-first c =
    let table = c.self.inside.table in
    let pipes = (list_shown table _ _ _ (rw (← c.self.view_is) at c.requires.list)).0 in
    let test = λ (own : UsersCall). leaves c.args.which own.call in
    let own = own-call table c.in_ok-node.node _ _ _ c.value.ensures c.queued.ensures.entry (sym c.into_call-call.ensures.call ∙ c.take_slot.ensures.carried) in
    rw (← c.self.view_is, waiting-are table _ _ c.self.invariant.1 c.args.list pipes) (ap Some (sym own) ∙ ap (option_map (call_at table)) (sym c.in_ok-node.was ∙ c.first_leaving.ensures) ∙ first-mapped (call_at table) test (nodes_of table c.args.list))

pub returns-clause-taken : goal.returns-clause-taken
returns-clause-taken c =
    let table = c.self.inside.table in
    let pipes = (list_shown table _ _ _ (rw (← c.self.view_is) at c.requires.list)).0 in
    let off = pipes_apart c.self.inside.lines.items c.self.inside.answered c.args.list pipes in
    let kept = c.self.invariant.1 in
    let test = λ (own : UsersCall). leaves c.args.which own.call in
    let lead = leads (call_at table) test (nodes_of table c.args.list) c.in_ok-node.node (c.know.ensures.distinct c.args.list) (sym c.first_leaving.ensures ∙ c.in_ok-node.was) in
    let there = c.know.ensures.there c.args.list c.in_ok-node.node lead.there in
    let moved = Moved-out table _ _ _ _ _ kept c.take_slot.ensures.taken lead.there there c.know.ensures.apart in
    let left = left-out table _ _ _ _ _ kept c.take_slot.ensures.taken lead.there there c.know.ensures.apart call_with ∙ lead.rest in
    rw (← c.self.view_is, waiting-are table _ _ kept c.args.list pipes, ← left) (value-moved table _ _ _ _ _ kept moved off.0 off.1 c.self.inside.nodes _ refl)

pub returns-clause-received : goal.returns-clause-received
returns-clause-received c =
    let table = c.self.inside.table in
    let pipes = (list_shown table _ _ _ (rw (← c.self.view_is) at c.requires.list)).0 in
    let lead = leads (call_at table) (λ own. leaves c.args.which own.call) (nodes_of table c.args.list) c.in_ok-node.node (c.know.ensures.distinct c.args.list) (sym c.first_leaving.ensures ∙ c.in_ok-node.was) in
    let there = c.know.ensures.there c.args.list c.in_ok-node.node lead.there in
    let kept = Kept-out table _ _ _ _ _ c.self.invariant.1 c.take_slot.ensures.taken lead.there there c.know.ensures.apart (pipes_apart c.self.inside.lines.items c.self.inside.answered c.args.list pipes).0 in
    let own = own-call table c.in_ok-node.node _ _ _ c.value.ensures c.queued.ensures.entry (sym c.into_call-call.ensures.call ∙ c.take_slot.ensures.carried) in
    let has : node_of c.self.inside.nodes (Message (caller (users_call c.queued.result.user.0 c.into_call-call.result))) ≡ Some c.in_ok-node.node = ap (λ one. node_of c.self.inside.nodes (Message (caller one))) (sym own) ∙ caller-owns table _ _ c.self.invariant.1 c.args.list pipes c.in_ok-node.node lead.there in
    record {
      own = threads-nodes c.self.inside.nodes _ ∙ nodes-some (λ own. own.message) _ _ has;
      idle = received-idle c.take_slot.new.table _ _ kept _ _ has c.take_slot.ensures.free;
      no_call = record { waiting = received-waits c.take_slot.new.table _ _ kept _ _ has c.take_slot.ensures.free; answered = received-answered c.take_slot.new.table _ _ kept _ _ has c.take_slot.ensures.free };
    }
