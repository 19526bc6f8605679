-- Devices by their numbers, and what a call to one comes to.
use Rattle.std.specs.Prelude.{ℕ, ◌<◌, List, Bool, Option, Some, None, get_or}
use Rattle.std.specs.List.{find, flat_map, range_with_len}
use Rattle.std.specs.Str.{bytes_eq}
use Rattle.std.specs.Option.{option_to_list}
use Rattle.std.proofs.Math.Decide.{dec_lt}
use Rattle.qx_base.specs.Verdict.{Verdict}
use Rattle.qx_devices.specs.Count.{device_count}
use Rattle.qx_devices.specs.Listed.{listed}
use Rattle.qx_devices.specs.Row.{Row, no_row}
use Rattle.qx_devices.specs.declared.Device.{Device}

-- a device's number, from 0
abbrev pub device_number : Device → ℕ
device_number device = device.number

-- the device of a number, where one is listed
abbrev pub device_where : (number : ℕ) → Dec (number < device_count) → Option Device
device_where number (yes few) = Some (record { number = number; listed = few })
device_where number (no _) = None

unfoldable pub device_of : ℕ → Option Device
device_of number = device_where number (dec_lt number device_count)

-- all of them, in the order of their numbers
unfoldable pub devices : List Device
devices = flat_map (λ number. option_to_list (device_of number)) (range_with_len 0 device_count)

-- what is listed of it
unfoldable pub row_of : Device → Row
row_of device = get_or listed device.number no_row

-- by which a script names it
unfoldable pub device_word : Device → List ℕ
device_word device = (row_of device).word

-- the device of a word, if it is one's
unfoldable pub device_named : List ℕ → Option Device
device_named word = find (λ device. bytes_eq word (device_word device)) devices

-- what a read of at most so many bytes comes to
unfoldable pub read_verdict : Device → ℕ → List ℕ → Verdict
read_verdict device = (row_of device).read

-- what a write of bytes comes to
unfoldable pub write_verdict : Device → List ℕ → List ℕ → Verdict
write_verdict device = (row_of device).write

-- whether a read, and whether a write, would not wait
unfoldable pub has_input : Device → List ℕ → Bool
has_input device = (row_of device).has_input

unfoldable pub has_output : Device → List ℕ → Bool
has_output device = (row_of device).has_output
