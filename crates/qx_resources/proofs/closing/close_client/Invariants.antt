use Rattle.std.proofs.Common.{◌-◌, length}
use Rattle.qx_machine.specs.Inodes.{blocks_of_client}
use Rattle.qx_machine.specs.Managers.{close_client}
use Rattle.qx_resources.proofs.DisconnectLemmas.{LeadsTo, left_to}
use Rattle.qx_resources.specs.State.{HasUser, told}
use Rattle.qx_resources.proofs.closing.close_client.Given as goal

-- those before the place stay, and what is done from there on leads to what was to be done
abbrev pub invariant-numbers : goal.invariant-numbers
invariant-numbers l = record {
  has : HasUser l.state l.tables;
  leads : LeadsTo l.initial.state l.initial.tables (close_client (told l.initial.state l.initial.tables) l.client l.moment) l.state l.tables (left_to l.client l.moment l.kept l.state l.tables);
}

abbrev pub decreases-numbers : goal.decreases-numbers
decreases-numbers l = length (blocks_of_client l.state.inodes l.client) - l.kept
