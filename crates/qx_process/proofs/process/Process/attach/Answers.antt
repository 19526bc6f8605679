use Rattle.std.proofs.Common.{◌≡◌, ◌≢◌, ℕ, Bool, List, Option, None, true, refl, sym, ap, ◌∙◌}
use Rattle.qx_types.specs.Managers.{manager_number}
use Rattle.qx_types.specs.declared.names.Manager.{Manager}
use Rattle.qx_machine.specs.declared.rows.Connection.{Connection}
use Rattle.qx_isolation.specs.Lines.{with_line}
use Rattle.qx_isolation.specs.Rows.{put_row, row_at}
use Rattle.qx_machine.specs.Servers.{is_attached, servers_from, servers_while}
use Rattle.qx_process.proofs.AttachLemmas.{one_changes, put_elsewhere, put_here, stays_settled, uses}
use Rattle.qx_process.proofs.process.Process.attach.Goals as goal

module _ (c : goal.After-settle) where
  abbrev manager : Manager
  manager = c.args.manager

  abbrev connections : List (Option Connection)
  connections = put_row c.self.inside.connections.items c.args.coid.0 (record { manager = manager; block = None })

  abbrev before : ℕ → Bool
  before number = is_attached number c.self.inside.connections.items c.self.inside.sides

  abbrev after : ℕ → Bool
  after number = is_attached number connections c.self.inside.sides

  free : row_at c.self.inside.connections.items c.args.coid.0 ≡ None
  free = ap (λ process. row_at process.connections c.args.coid.0) c.self.view_is ∙ c.requires.free

  elsewhere : (number : ℕ) → number ≢ manager_number manager → after number ≡ before number
  elsewhere number differs = put_elsewhere c.self.inside.connections.items c.self.inside.sides c.args.coid.0 (record { manager = manager; block = None }) free number differs

  attached : after (manager_number manager) ≡ true
  attached = put_here c.self.inside.connections.items c.self.inside.sides c.args.coid.0 (record { manager = manager; block = None })

  servers : c.settle.new.servers.items ≡ with_line c.self.inside.servers.items (manager_number manager) (servers_while (after (manager_number manager)))
  servers = c.settle.ensures.servers ∙ ap (λ attached. with_line c.self.inside.servers.items (manager_number manager) (servers_while attached))
      (sym attached)

pub invariant_of-self : goal.invariant_of-self
invariant_of-self c = rw c.put_within.ensures.row (stays_settled (manager c) c.self.inside.servers.items (before c) (after c) c.self.invariant.1 c.self.invariant.0 (elsewhere c) c.settle.new.servers.items (servers c))

pub returns-clause-process : goal.returns-clause-process
returns-clause-process c =
    let same : c.settle.new.servers.items ≡ servers_from (after c) 0 c.self.inside.servers.items = servers c ∙ sym (one_changes (manager c) c.self.inside.servers.items (before c) (after c) c.self.invariant.1 c.self.invariant.0 (elsewhere c)) in
    rw (← c.self.view_is, c.put_within.ensures.row, same) refl

pub returns-clause-uses : goal.returns-clause-uses
returns-clause-uses c = rw (← c.self.view_is)
    (uses (manager c) c.self.inside.servers.items (before c) (after c) c.self.invariant.1 c.self.invariant.0 (elsewhere c) _ _ refl (servers c)
    (λ was. attached c))
