use Rattle.std.proofs.Common.{◌≡◌, ◌≤◌, get_or, length, ◌∙◌, sym}
use Rattle.qx_rows.proofs.RowLemmas.{same_default}
use Rattle.qx_queues.specs.Nodes.{no_process_nodes}
use Rattle.qx_queues.proofs.NodesLemmas.{disconnect_at-no_process, disconnect_at-no_user}
use Rattle.qx_queues.proofs.nodes.Nodes.disconnect.Goals as goal

pub returns-in_err-of_user : goal.returns-in_err-of_user
returns-in_err-of_user c =
    let past : length c.args.self.now ≤ c.args.proc.user.0 = rw (c.deref.ensures.value, c.self.view_is) at c.in_err-of_user.ensures.lookup.3 in
    record { node = c.from_residual.ensures ∙ sym (disconnect_at-no_user c.args.self.now c.args.proc _ past) }

pub returns-in_err-get : goal.returns-in_err-get
returns-in_err-get c =
    let user = c.in_ok-of_user.ensures.lookup in
    let of_user = c.in_ok-of_user.of_user.now in
    let read = same_default c.deref.result.now c.args.proc.user.0 no_process_nodes of_user user.3.0 ∙ sym user.1 in
    let is : get_or c.args.self.now c.args.proc.user.0 no_process_nodes ≡ of_user = rw (c.deref.ensures.value, c.self.view_is) at read in
    record { node = c.from_residual-in_err-get.ensures ∙ sym (disconnect_at-no_process c.args.self.now c.args.proc _ of_user is c.in_err-get.ensures.lookup.3) }
