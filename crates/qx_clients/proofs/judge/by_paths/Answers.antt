use Rattle.std.proofs.Common.{IfOk, subst}
use Rattle.qx_isolation.specs.Rows.{row_at}
use Rattle.qx_clients.specs.Calls.{CanAttachAt}
use Rattle.qx_clients.proofs.SendLemmas.{place_attaches}
use Rattle.qx_clients.proofs.judge.by_paths.Goals as goal

pub returns-clause-place : goal.returns-clause-place
returns-clause-place c =
    let attached = place_attaches c.get-servers.result c.args.processes.now c.args.process.now c.in_ok-place.place _ _ _ _ c.to_place.ensures c.get-servers.ensures.few c.args.thread.proc.num c.requires.there (λ place. place) in
    subst (λ given. IfOk given (λ addressed. CanAttachAt (row_at c.args.processes.now c.args.thread.proc.num) addressed.target)) c.in_ok-to_place.was attached
