-- How many devices are listed. It stands apart from the list, so that who names it sees no list.
use Rattle.std.specs.Prelude.{ℕ, length}
use Rattle.qx_devices.specs.Listed.{listed}

unfoldable pub device_count : ℕ
device_count = length listed
