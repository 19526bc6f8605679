-- By computation, over as many lines as there are managers.
use Rattle.std.proofs.Common.{refl}
use Rattle.std.proofs.Math.Decide.{dec_lt}
use Rattle.qx_devices.specs.Devices.{device_of, devices}
use Rattle.qx_devices.specs.Count.{device_count}
use Rattle.qx_devices.specs.Listed.{listed}
use Rattle.qx_types.specs.Configuration.{limits_of}
use Rattle.qx_wire.specs.Reading.{body_cut, cut, frame_at, meaning, open_at}
use Rattle.qx_wire.specs.Rests.{components_of}
use Rattle.qx_wire.specs.Table.{spelling}
use Rattle.qx_paths.specs.Paths.{path_components}
use Rattle.qx_machine.specs.Attributes.{stat_bytes}
use Rattle.qx_machine.specs.Clients.{may_give}
use Rattle.qx_machine.specs.Machine.{step}
use Rattle.qx_isolation.specs.System as system
use Rattle.qx_machine.specs.Users.{boot_part, client, serve, settle_part, take}
use Rattle.qx_machine.proofs.examples.first_script_outcomes.Goals as goal

pub returns : goal.returns
unfolding dec_lt device_of devices device_count listed system.boot step limits_of boot_part client may_give serve settle_part take stat_bytes spelling meaning cut frame_at body_cut open_at components_of path_components
returns c = refl
