-- Which manager it is that serves pipes and devices, and what a message to it is told at once.
use Rattle.std.specs.Prelude.{ℕ, Option, Some, None}
use Rattle.qx_devices.specs.declared.Device.{Device}
use Rattle.qx_types.specs.declared.names.Manager.{Manager}
use Rattle.qx_types.specs.declared.names.Manager.TheVariants as manager
use Rattle.qx_machine.specs.declared.rows.Effect.TheVariants.{Keeps}
use Rattle.qx_resmgr.specs.declared.functions.Done.{Done}
use Rattle.qx_resmgr.specs.declared.functions.Done.TheVariants.{NoReply, Reply}

-- the pipe manager, or a device's
abbrev pub manager_with : Option Device → Manager
manager_with None = manager.Pipe
manager_with (Some device) = manager.Device device

-- what a message came to that is told this status at once, or is left without a reply
abbrev pub done_at_once : Option ℕ → Done
done_at_once (Some status) = Reply status Keeps
done_at_once None = NoReply
