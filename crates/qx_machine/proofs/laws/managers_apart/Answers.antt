use Rattle.qx_types.proofs.Managers.{count_managers, manager_at, same_manager}
use Rattle.qx_machine.proofs.laws.managers_apart.Goals as goal

pub returns : goal.returns
returns c = record { there = manager_at; apart = same_manager; all = count_managers }
