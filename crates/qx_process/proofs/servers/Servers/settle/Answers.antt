use Rattle.std.proofs.Common.{◌≡◌, ℕ, Option, Some, None, map, refl}
use Rattle.std.specs.Option.{option_to_list}
use Rattle.qx_machine.specs.Servers.{in_use, lost_by}
use Rattle.qx_process.specs.Reads.{named}
use Rattle.qx_process.proofs.ServerLemmas.{none-left}
use Rattle.qx_process.proofs.servers.Servers.settle.Goals as goal

pub returns-then-not-is_attached-clause-lost : goal.returns-then-not-is_attached-clause-lost
returns-then-not-is_attached-clause-lost c manager = rw (c.leave.ensures.left, none-left c.args.self.now, c.in_use-in_use.ensures.number) (by_number (in_use c.args.self.now))
  where
    by_number : (number : Option ℕ) → lost_by manager number None ≡ map (named manager) (option_to_list number)
    by_number None = refl
    by_number (Some number) = refl
