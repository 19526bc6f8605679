-- Managers by their numbers.
use Rattle.std.specs.Prelude.{ℕ, ◌+◌, List, ◌∷◌, map}
use Rattle.qx_devices.specs.Devices.{device_number, devices}
use Rattle.qx_devices.specs.Count.{device_count}
use Rattle.qx_types.specs.declared.names.Manager.{Manager}
use Rattle.qx_types.specs.declared.names.Manager.TheVariants.{Ram, Pipe, Device}

-- all of them, in the order of their numbers: devices come last, as they are listed
abbrev pub managers : List Manager
managers = Ram ∷ Pipe ∷ map Device devices

-- how many there are
abbrev pub manager_count : ℕ
manager_count = 2 + device_count

-- a manager's number, from 0
abbrev pub manager_number : Manager → ℕ
manager_number Ram = 0
manager_number Pipe = 1
manager_number (Device device) = 2 + device_number device
