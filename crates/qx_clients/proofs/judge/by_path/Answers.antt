use Rattle.std.proofs.Common.{IfOk, subst}
use Rattle.qx_machine.specs.Processes.{servers_at}
use Rattle.qx_isolation.specs.Rows.{row_at}
use Rattle.qx_process.specs.Reads.{CanAttach, HasPlace}
use Rattle.qx_clients.specs.Calls.{CanAttachAt}
use Rattle.qx_clients.proofs.SendLemmas.{place_attaches}
use Rattle.qx_clients.proofs.judge.by_path.Goals as goal
use Rattle.qx_clients.proofs.judge.by_path.Goals.{then-is_opened+in_ok-free_connection, else-is_opened}

pub returns-clause-place : goal.returns-clause-place
returns-clause-place c =
    let attaches : HasPlace (servers_at c.in_ok-place.place.manager c.args.process.now) → CanAttach c.args.process.now c.in_ok-place.place.manager c.if-is_opened.over =
    elim c.if-is_opened.branch [ then-is_opened+in_ok-free_connection w ↦ λ place. rw (w.over-is) (w.in_ok-free_connection.ensures.unused, place) | else-is_opened w ↦ λ place. rw (w.over-is) place ] in
    let attached = place_attaches c.get-servers.result c.args.processes.now c.args.process.now c.in_ok-place.place _ c.if-is_opened.over _ _ c.to_place.ensures c.get-servers.ensures.few c.args.thread.proc.num c.requires.there attaches in
    subst (λ given. IfOk given (λ addressed. CanAttachAt (row_at c.args.processes.now c.args.thread.proc.num) addressed.target)) c.in_ok-to_place.was attached
