use Rattle.std.specs.Prelude.{slice_set}
use Rattle.std.proofs.Common.{◌≡◌, ◌≢◌, ℕ, Bool, List, Option, Some, None, refl, sym, ap, ◌∙◌}
use Rattle.qx_types.specs.Managers.{manager_number}
use Rattle.qx_types.specs.declared.names.Manager.{Manager}
use Rattle.qx_isolation.specs.Lines.{with_line}
use Rattle.qx_isolation.specs.Rows.{row_at}
use Rattle.qx_machine.specs.Servers.{is_attached, servers_from, servers_while}
use Rattle.qx_process.proofs.AttachLemmas.{loses, loses-none, nothing_freed, one_changes, side_fewer, side_freed_elsewhere, stays_settled}
use Rattle.qx_process.proofs.process.Process.detach_side.Goals as goal

pub returns-in_err-manager-clause-process : goal.returns-in_err-manager-clause-process
returns-in_err-manager-clause-process c =
    let none : row_at c.self.inside.sides c.args.thread ≡ None = ap (λ process. row_at process.sides c.args.thread) c.self.view_is ∙ sym c.side.ensures.side ∙ c.in_err-manager.was in
    rw (← c.self.view_is, nothing_freed c.self.inside.sides c.args.thread none, ← c.self.invariant.0) refl

pub returns-in_err-manager-clause-lost : goal.returns-in_err-manager-clause-lost
returns-in_err-manager-clause-lost c = rw c.from_residual.ensures (loses-none c.args.self.now c.args.self.now refl)

module _ (c : goal.After-settle) where
  abbrev manager : Manager
  manager = c.in_ok-manager.manager

  abbrev sides : List (Option Manager)
  sides = slice_set c.self.inside.sides c.args.thread None

  abbrev before : ℕ → Bool
  before number = is_attached number c.self.inside.connections.items c.self.inside.sides

  abbrev after : ℕ → Bool
  after number = is_attached number c.self.inside.connections.items sides

  there : row_at c.self.inside.sides c.args.thread ≡ Some manager
  there = ap (λ process. row_at process.sides c.args.thread) c.self.view_is ∙ sym c.side.ensures.side ∙ c.in_ok-manager.was

  elsewhere : (number : ℕ) → number ≢ manager_number manager → after number ≡ before number
  elsewhere number differs = side_freed_elsewhere c.self.inside.connections.items c.self.inside.sides c.args.thread manager there number differs

  servers : c.settle.new.servers.items ≡ with_line c.self.inside.servers.items (manager_number manager) (servers_while (after (manager_number manager)))
  servers = c.settle.ensures.servers ∙ ap (λ attached. with_line c.self.inside.servers.items (manager_number manager) (servers_while attached))
      (c.is_attached-is_attached.ensures.attached ∙ ap (λ all. is_attached (manager_number manager) all c.set_side.new.sides) c.as_slice.ensures.value ∙ ap (λ all. is_attached (manager_number manager) c.self.inside.connections.items all) c.set_side.ensures.side)

pub invariant_of-self : goal.invariant_of-self
invariant_of-self c = rw c.set_side.ensures.side (stays_settled (manager c) c.self.inside.servers.items (before c) (after c) c.self.invariant.1 c.self.invariant.0 (elsewhere c) c.settle.new.servers.items (servers c))

pub returns-clause-process : goal.returns-clause-process
returns-clause-process c =
    let same : c.settle.new.servers.items ≡ servers_from (after c) 0 c.self.inside.servers.items = servers c ∙ sym (one_changes (manager c) c.self.inside.servers.items (before c) (after c) c.self.invariant.1 c.self.invariant.0 (elsewhere c)) in
    rw (← c.self.view_is, c.set_side.ensures.side, same) refl

pub returns-clause-lost : goal.returns-clause-lost
returns-clause-lost c = rw (← c.self.view_is)
    (loses (manager c) c.self.inside.servers.items (before c) (after c) c.self.invariant.1 c.self.invariant.0 (elsewhere c) _ _ c.settle.result refl (servers c) c.settle.ensures.lost
    (side_fewer c.self.inside.connections.items c.self.inside.sides c.args.thread (manager_number (manager c))))
