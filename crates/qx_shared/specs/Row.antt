-- What a pipe or a device of a user is by the numbers of its lists, and where each list belongs. No public clause cites this module.
use Rattle.std.specs.Prelude.{ℕ, List, Option}
use Rattle.qx_devices.specs.declared.Device.{Device}

-- whose row it is, the bytes that stand, and in which lists calls wait to read and to write
pub record PipeRow : Type 0 where
  pub device : Option Device
  pub bytes : List ℕ
  pub readers : ℕ
  pub writers : ℕ
