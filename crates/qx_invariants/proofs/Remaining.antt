-- What remains of a process that has ended: a call of it that waits is over what a server connection of it has open.
use Rattle.std.proofs.Common.{◌≡◌, inl, inr, ℕ, ◌==◌, Bool, true, false, List, [], ◌∷◌, refl, sym, ap, ◌∙◌, arith}
use Rattle.std.specs.Prelude.{◌||◌, not, Option, Some, None, is_some}
use Rattle.std.specs.List.{count_by, list_any}
use Rattle.std.proofs.lemmas.Bool.{cases_Bool, eqb-true}
use Rattle.std.proofs.lemmas.List.Sums.{sum_by-cons}
use Rattle.std.proofs.lemmas.Option.{same_Some}
use Rattle.qx_types.specs.Managers.{manager_number}
use Rattle.qx_machine.specs.declared.rows.Ocb.{Ocb}
use Rattle.qx_machine.specs.declared.rows.WaitingCall.{WaitingCall}
use Rattle.qx_machine.specs.Parts.{Part}
use Rattle.qx_machine.specs.Pipes.{Pipe}
use Rattle.qx_machine.specs.Processes.{Process, has_server, servers_at}
use Rattle.qx_isolation.specs.Rows.{row_at}
use Rattle.qx_machine.specs.Settling.{has_waiting}
use Rattle.qx_machine.specs.Waiting.{Pipes, holds, is_of_process}
use Rattle.qx_attr.specs.inner.Counts.{one}
use Rattle.qx_invariants.specs.Holds.{HasClients, HasOwnWaiters}
use Rattle.qx_invariants.specs.Waits.{count_waiting, count_waiting_in, is_foreign, is_of_client}
use Rattle.qx_invariants.proofs.Clients.{any_server}
use Rattle.qx_invariants.proofs.Counts.{count-cons}

-- ---- one of those who wait

-- a call that is such waits, and none that is such as well: what follows from one that is such alone
module _ (which other : WaitingCall → Bool) (P : Type 0) (follows : (call : WaitingCall) → which call ≡ true → other call ≡ false → P) where
  none_false : (b : Bool) → one b ≡ 0 → b ≡ false
  none_false true none = absurd (omega (arith, none))
  none_false false none = refl

  in_calls : (calls : List WaitingCall) → list_any which calls ≡ true → count_by other calls ≡ 0 → P
  in_calls [] some none = absurd (cc)
  in_calls (call ∷ calls) some none =
      let parts = count-cons other call calls in
      elim (cases_Bool (which call)) [
        | inl is ↦ follows call is (none_false (other call) (omega (arith, parts, none)))
        | inr is_not ↦ in_calls calls (sym (ap (λ b. b || list_any which calls) is_not) ∙ some) (omega (arith, parts, none))
      ]

  in_place : (row : Option (Pipe WaitingCall)) → holds which row ≡ true → count_waiting_in other row ≡ 0 → P
  in_place None some none = absurd (cc)
  in_place (Some pipe) some none = elim (cases_Bool (list_any which pipe.readers)) [
    | inl is ↦ in_calls pipe.readers is (omega (arith, none))
    | inr is_not ↦ in_calls pipe.writers (sym (ap (λ b. b || list_any which pipe.writers) is_not) ∙ some) (omega (arith, none))
  ]

  in_pipes : (pipes : Pipes) → list_any (holds which) pipes ≡ true → count_waiting other pipes ≡ 0 → P
  in_pipes [] some none = absurd (cc)
  in_pipes (row ∷ pipes) some none =
      let parts = sum_by-cons (count_waiting_in other) row pipes in
      elim (cases_Bool (holds which row)) [
        | inl is ↦ in_place row is (omega (arith, parts, none))
        | inr is_not ↦ in_pipes pipes (sym (ap (λ b. b || list_any (holds which) pipes) is_not) ∙ some) (omega (arith, parts, none))
      ]

-- ---- its server connection

module _ (part : Part) (clients : HasClients part) (waiters : HasOwnWaiters part.resources) (number : ℕ) (process : Process) (there : row_at part.processes number ≡ Some process) where
  own_served : (call : WaitingCall) → is_of_process number call ≡ true → is_foreign part.resources.inodes.blocks call ≡ false → has_server process ≡ true
  own_served call its own = by (row_at part.resources.inodes.blocks call.block) refl own
    where
      not_not : (b : Bool) → not b ≡ false → b ≡ true
      not_not true is = refl
      not_not false is = absurd (cc)

      by : (row : Option Ocb) → row_at part.resources.inodes.blocks call.block ≡ row → not (is_of_client call.process row) ≡ false → has_server process ≡ true
      by None none is = absurd (cc)
      by (Some block) at is =
          let of_process : block.client.process ≡ number = eqb-true block.client.process call.process (not_not (block.client.process == call.process) is) ∙ eqb-true call.process number its in
          let server = clients.clients call.block block at in
          let same : server.process ≡ process = same_Some _ _ (sym server.there ∙ (ap (row_at part.processes) of_process ∙ there)) in
          any_server process.servers (manager_number block.client.server.manager) block.client.server.number
          (ap (λ (p : Process). is_some (row_at (servers_at block.client.server.manager p) block.client.server.number)) (sym same) ∙ server.server)

  -- a process of which a call waits has a server connection
  pub waiting_served : has_waiting part.resources.pipes number ≡ true → has_server process ≡ true
  waiting_served some = in_pipes (is_of_process number) (is_foreign part.resources.inodes.blocks) (has_server process ≡ true) own_served part.resources.pipes some waiters.none_foreign

-- so what is kept of a process that has ended has a server connection, or is held
pub served_or_held : (served held waits : Bool) → ((served || held) || waits) ≡ true → (waits ≡ true → served ≡ true) → (served || held) ≡ true
served_or_held true held waits kept follows = refl
served_or_held false true waits kept follows = refl
served_or_held false false true kept follows = follows refl
served_or_held false false false kept follows = kept
