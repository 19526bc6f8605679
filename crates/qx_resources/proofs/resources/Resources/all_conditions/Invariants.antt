use Rattle.std.proofs.Common.{◌≡◌, ◌<◌, ℕ, length}
use Rattle.qx_machine.specs.Notification.{block_conditions}
use Rattle.qx_resources.specs.State.{told}
use Rattle.qx_resources.specs.declared.conditions.TheConstants.{PLACES}
use Rattle.qx_resources.specs.inner.Conditions.{conditions_in}
use Rattle.qx_resources.proofs.resources.Resources.all_conditions.Given as goal

-- the conditions of the blocks that were passed are noted
abbrev pub invariant-loop-number : goal.invariant-loop-number
invariant-loop-number l = record {
  places : length l.all ≡ PLACES;
  noted : (k : ℕ) → k < l.number → conditions_in l.all k ≡ block_conditions (told l.self l.tables) k;
}
