-- What the end of a step settles, where the step makes nothing due and no process is to be freed: the rows are as they were left.
use Rattle.std.proofs.Common.{◌≡◌, List, Option, Some, None, refl}
use Rattle.qx_paths.specs.Prefixes.{MountPoint}
use Rattle.qx_machine.specs.declared.rows.Ocb.{Ocb}
use Rattle.qx_isolation.specs.declared.rows.OwnItem.{OwnItem}
use Rattle.qx_machine.specs.Mounting.{with_mount}
use Rattle.qx_machine.specs.Notification.{conditions_at, events_settled}
use Rattle.qx_machine.specs.Parts.{Part}
use Rattle.qx_machine.specs.Processes.{Process}
use Rattle.qx_machine.specs.Resources.{Resources}
use Rattle.qx_isolation.specs.Rows.{row_at}
use Rattle.qx_machine.specs.Settling.{is_living}
use Rattle.qx_machine.specs.Users.{settle_part}
use Rattle.qx_machine.proofs.NotifyLemmas.{settled-alike, settled-unchanged}
use Rattle.qx_steps.proofs.LeftLemmas.{AreLeft}

-- no process is to be freed, and no event is due
settled-by : (before after : Part) (held : List OwnItem) → AreLeft held after.resources.pipes 0 after.processes → events_settled (is_living after.processes) before.resources after.resources ≡ after.resources.events → settle_part before held after ≡ after
unfolding settle_part
settled-by before after held left none = λ i. record { processes = left i; resources = record after.resources { events = none i } }

-- inodes and pipes are as before
pub settled-same : (before after : Part) (held : List OwnItem) → AreLeft held after.resources.pipes 0 after.processes → after.resources.inodes ≡ before.resources.inodes → after.resources.pipes ≡ before.resources.pipes → settle_part before held after ≡ after
settled-same before after held left inodes pipes = settled-by before after held left (settled-unchanged (is_living after.processes) before.resources after.resources inodes pipes)

-- nothing but processes is different
pub settled-processes : (ps qs : List (Option Process)) (r : Resources) (held : List OwnItem) → AreLeft held r.pipes 0 qs → settle_part (record { processes = ps; resources = r }) held (record { processes = qs; resources = r }) ≡ record { processes = qs; resources = r }
settled-processes ps qs r held left = settled-same (record { processes = ps; resources = r }) (record { processes = qs; resources = r }) held left refl refl

-- a mount adds an inode, and none of the conditions rests on that
mounted-conditions : (mount : MountPoint) (r : Resources) (block : Option Ocb) → conditions_at r block ≡ conditions_at (with_mount mount r) block
mounted-conditions mount r None = refl
mounted-conditions mount r (Some block) = refl

pub settled-mount : (mount : MountPoint) (part : Part) (held : List OwnItem) → AreLeft held part.resources.pipes 0 part.processes → settle_part part held (record part { resources = with_mount mount part.resources }) ≡ record part { resources = with_mount mount part.resources }
settled-mount mount part held left =
    settled-by part (record part { resources = with_mount mount part.resources }) held left
    (settled-alike (is_living part.processes) part.resources (with_mount mount part.resources) (λ number. mounted-conditions mount part.resources (row_at part.resources.inodes.blocks number)))
