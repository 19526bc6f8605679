-- What is judged can be sent: what the message goes over can be attached.
use Rattle.std.specs.Prelude.{IfOk, Ok, Option, Result, Some}
use Rattle.std.proofs.Common.{◌≡◌, ◌≤◌, ℕ, Bool, true, false, List, refl, sym}
use Rattle.qx_types.specs.declared.limits.TheConstants.Limits.{SERVERS}
use Rattle.qx_types.specs.declared.names.Prio.{Prio}
use Rattle.qx_base.specs.declared.errno.Errno.TheVariants.{EAGAIN}
use Rattle.qx_types.specs.declared.outcome.Outcome.{Outcome}
use Rattle.qx_types.specs.declared.outcome.Outcome.TheVariants.{Refused}
use Rattle.qx_paths.specs.declared.resolved.Resolved.{Resolved}
use Rattle.qx_machine.specs.declared.rows.Addressed.{Addressed}
use Rattle.qx_machine.specs.declared.rows.Over.{Over}
use Rattle.qx_machine.specs.Calls.{to_place}
use Rattle.qx_isolation.specs.Judgements.{◌>>=◌, need}
use Rattle.qx_machine.specs.Processes.{Process, servers_at}
use Rattle.qx_isolation.specs.Rows.{row_at}
use Rattle.qx_process.specs.Reads.{CanAttach, HasPlace}
use Rattle.qx_clients.specs.Calls.{CanAttachAt}
use Rattle.qx_clients.proofs.ServeLemmas.{can_attach}

-- a message to where a path leads is as it is to be, if that holds where the process can be served there
placed : (P : Addressed → Type 0) (serves : Bool) (addressed : Addressed) → (serves ≡ true → P addressed) → IfOk (need serves (Refused EAGAIN) >>= λ _. Ok addressed) P
placed P true addressed p = p refl
placed P false addressed p = tt

pub place_attaches : (servers : ℕ) (processes : List (Option Process)) (process : Process) (place : Resolved) (to : List (List ℕ)) (over : Over) (prio : Prio) (given : Result Addressed Outcome) → given ≡ to_place servers processes process place to over prio → servers ≤ SERVERS
    → (number : ℕ) → Some process ≡ row_at processes number → (HasPlace (servers_at place.manager process) → CanAttach process place.manager over) → IfOk given (λ addressed. CanAttachAt (row_at processes number) addressed.target)
place_attaches servers processes process place to over prio given is few number there attaches =
    rw (is, ← there) (placed (λ addressed. CanAttachAt (Some process) addressed.target) _ _ (λ serves. attaches (can_attach servers processes number process place.manager few (sym there) serves)))
