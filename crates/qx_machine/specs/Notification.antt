-- Notification: which conditions hold of what is open, and what a message that asks for it does (C Library Reference: ionotify; Writing a
-- Resource Manager: iofunc_notify; that files and directories always have both is this profile).
use Rattle.std.specs.Prelude.{ℕ, Bool, true, Option, Some, None, Result, Ok, []}
use Rattle.qx_base.specs.declared.errno.Errno.{Errno}
use Rattle.qx_base.specs.declared.errno.Errno.TheVariants.{EBADF}
use Rattle.qx_types.specs.declared.fields.NotifyAction.{NotifyAction}
use Rattle.qx_machine.specs.declared.rows.Conditions.{Conditions}
use Rattle.qx_machine.specs.declared.rows.Effect.TheVariants.{Keeps}
use Rattle.qx_machine.specs.declared.rows.Event.{Event}
use Rattle.qx_machine.specs.declared.rows.Ocb.{Ocb}
use Rattle.qx_machine.specs.declared.rows.Opened.{Opened}
use Rattle.qx_machine.specs.declared.rows.PulseWish.{PulseWish}
use Rattle.qx_machine.specs.declared.rows.Sides.{Sides}
use Rattle.qx_machine.specs.declared.rows.WaitingCall.{WaitingCall}
use Rattle.qx_machine.specs.Events.{Events, notified, triggered}
use Rattle.qx_machine.specs.Functions.{Deed, reply_alone}
use Rattle.qx_isolation.specs.Judgements.{◌>>=◌, found}
use Rattle.qx_machine.specs.Pipes.{Pipe}
use Rattle.qx_machine.specs.Resources.{Resources}
use Rattle.qx_isolation.specs.Rows.{row_at}
use Rattle.qx_machine.specs.Verdicts.{may_read, may_write}
use Rattle.qx_machine.specs.Waiting.{sides_of}

-- a pipe and a device have what a read and a write would not wait for; whatever else is open has both always
abbrev pub conditions_of : Sides → Option (Pipe WaitingCall) → Conditions
conditions_of sides None = record { input = true; output = true }
conditions_of sides (Some pipe) = record {
  input = may_read pipe.device sides pipe.bytes;
  output = may_write pipe.device sides pipe.bytes;
}

-- of what a block has open
abbrev pub conditions_at : Resources → Option Ocb → Conditions
conditions_at r None = record { input = true; output = true }
conditions_at r (Some block) = conditions_of (sides_of r.inodes block.inode) (row_at r.pipes block.inode)

-- of what the block of that number has open
abbrev pub block_conditions : Resources → ℕ → Conditions
block_conditions r number = conditions_at r (row_at r.inodes.blocks number)

-- the event that a message over a block asks for
abbrev pub event_of : Opened → PulseWish → Event
event_of opened wish = record { process = opened.process; block = opened.number; conditions = wish.conditions; code = wish.code; value = wish.value }

-- a notification tells which of the wanted conditions hold, and arms or takes away the event of its block
abbrev pub notify_block : Resources → Opened → NotifyAction → PulseWish → Result (Deed Resources) Errno
notify_block r opened action wish = do
  block ← found (row_at r.inodes.blocks opened.number) EBADF
  given ← notified r.limits.events action (event_of opened wish) (conditions_at r (Some block)) r.events
  Ok (reply_alone given.status [] Keeps (record r { events = given.events }))

-- after a step of the user, events whose wanted conditions have come to hold since before it give their pulses to the processes that live
abbrev pub events_settled : (ℕ → Bool) → Resources → Resources → Events
events_settled lives before after = triggered lives (block_conditions before) (block_conditions after) after.events
