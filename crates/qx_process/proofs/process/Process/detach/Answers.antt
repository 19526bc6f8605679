use Rattle.std.specs.Prelude.{slice_set}
use Rattle.std.specs.Option.{option_copied}
use Rattle.std.proofs.Common.{◌≡◌, ◌≢◌, ℕ, Bool, List, Option, Some, None, refl, sym, ap, ◌∙◌}
use Rattle.qx_types.specs.Managers.{manager_number}
use Rattle.qx_types.specs.declared.names.Manager.{Manager}
use Rattle.qx_machine.specs.declared.rows.Connection.{Connection}
use Rattle.qx_isolation.specs.Lines.{with_line}
use Rattle.qx_isolation.specs.Rows.{row_at}
use Rattle.qx_machine.specs.Servers.{is_attached, servers_from, servers_while}
use Rattle.qx_process.proofs.AttachLemmas.{freed_elsewhere, freed_fewer, loses, loses-none, nothing_freed, one_changes, stays_settled}
use Rattle.qx_process.proofs.process.Process.detach.Goals as goal

pub returns-in_err-manager-clause-process : goal.returns-in_err-manager-clause-process
returns-in_err-manager-clause-process c =
    let none : row_at c.self.inside.connections.items c.args.coid.0 ≡ None = ap (λ process. row_at process.connections c.args.coid.0) c.self.view_is ∙ sym c.conn_of.ensures.row ∙ ap option_copied c.in_err-manager.was in
    rw (← c.self.view_is, nothing_freed c.self.inside.connections.items c.args.coid.0 none, ← c.self.invariant.0) refl

pub returns-in_err-manager-clause-lost : goal.returns-in_err-manager-clause-lost
returns-in_err-manager-clause-lost c = rw c.from_residual.ensures (loses-none c.args.self.now c.args.self.now refl)

module _ (c : goal.After-settle) where
  abbrev connection : Connection
  connection = c.in_ok-manager.field-0.now

  abbrev manager : Manager
  manager = connection.manager

  abbrev connections : List (Option Connection)
  connections = slice_set c.self.inside.connections.items c.args.coid.0 None

  abbrev before : ℕ → Bool
  before number = is_attached number c.self.inside.connections.items c.self.inside.sides

  abbrev after : ℕ → Bool
  after number = is_attached number connections c.self.inside.sides

  there : row_at c.self.inside.connections.items c.args.coid.0 ≡ Some connection
  there = ap (λ process. row_at process.connections c.args.coid.0) c.self.view_is ∙ sym c.conn_of.ensures.row ∙ ap option_copied c.in_ok-manager.was

  elsewhere : (number : ℕ) → number ≢ manager_number manager → after number ≡ before number
  elsewhere number differs = freed_elsewhere c.self.inside.connections.items c.self.inside.sides c.args.coid.0 connection there number differs

  servers : c.settle.new.servers.items ≡ with_line c.self.inside.servers.items (manager_number manager) (servers_while (after (manager_number manager)))
  servers = c.settle.ensures.servers ∙ ap (λ attached. with_line c.self.inside.servers.items (manager_number manager) (servers_while attached))
      (c.is_attached-is_attached.ensures.attached ∙ ap (λ all. is_attached (manager_number manager) all c.self.inside.sides) (c.as_slice.ensures.value ∙ c.free.ensures.freed))

pub invariant_of-self : goal.invariant_of-self
invariant_of-self c = rw c.free.ensures.freed (stays_settled (manager c) c.self.inside.servers.items (before c) (after c) c.self.invariant.1 c.self.invariant.0 (elsewhere c) c.settle.new.servers.items (servers c))

pub returns-clause-process : goal.returns-clause-process
returns-clause-process c =
    let same : c.settle.new.servers.items ≡ servers_from (after c) 0 c.self.inside.servers.items = servers c ∙ sym (one_changes (manager c) c.self.inside.servers.items (before c) (after c) c.self.invariant.1 c.self.invariant.0 (elsewhere c)) in
    rw (← c.self.view_is, c.free.ensures.freed, same) refl

pub returns-clause-lost : goal.returns-clause-lost
returns-clause-lost c = rw (← c.self.view_is)
    (loses (manager c) c.self.inside.servers.items (before c) (after c) c.self.invariant.1 c.self.invariant.0 (elsewhere c) _ _ c.settle.result refl (servers c) c.settle.ensures.lost
    (freed_fewer c.self.inside.connections.items c.self.inside.sides c.args.coid.0 (manager_number (manager c))))
