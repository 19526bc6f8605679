-- What stands in a pipe and in a device, by what holds it.
use Rattle.std.specs.Prelude.{◌≡◌, ◌≤◌, ℕ, List, Option, Some, None, length}
use Rattle.qx_devices.specs.declared.Device.{Device as AnyDevice}
use Rattle.qx_types.specs.declared.limits.TheConstants.Limits.{PIPE}
use Rattle.qx_shared.specs.declared.row.Content.{Content}
use Rattle.qx_shared.specs.declared.row.Content.TheVariants.{Pipe, Device}

abbrev pub device_in : Content → Option AnyDevice
device_in (Pipe ring) = None
device_in (Device device state) = Some device

abbrev pub bytes_in : Content → List ℕ
bytes_in (Pipe ring) = ring.items
bytes_in (Device device state) = state

-- no more bytes than may stand, and a ring with room for as many
abbrev pub HasRoom : Content → Type 0
HasRoom (Pipe ring) = (ring.capacity ≡ PIPE) × (length ring.items ≤ PIPE)
HasRoom (Device device state) = length state ≤ PIPE
