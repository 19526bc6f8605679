use Rattle.std.specs.Prelude.{◌≡◌, take}
use Rattle.std.specs.List.{flat_map}
use Rattle.std.specs.Option.{option_to_list}
use Rattle.qx_types.specs.Configuration.{limits_of}
use Rattle.qx_process.specs.Reads.{used_servers}
use Rattle.qx_chan.specs.inner.Kept.{with_lost}
use Rattle.qx_chan.proofs.servers.disconnect_all.Given as goal

-- the pulses of those before it stand in their lines
abbrev pub invariant-loop-number : goal.invariant-loop-number
invariant-loop-number l = l.queues ≡ with_lost (limits_of l.config l.proc.user.0).disconnect l.proc (flat_map option_to_list (take l.number (used_servers l.process))) l.initial.queues
