use Rattle.std.proofs.Common.{◌≡◌, drop}
use Rattle.std.specs.List.{find}
use Rattle.std.specs.Str.{bytes_eq}
use Rattle.qx_devices.specs.Devices.{device_word, devices}
use Rattle.qx_devices.proofs.Device.of_word.Given as goal

-- the word is that of a device from this number on, or of none
abbrev pub invariant-loop-number : goal.invariant-loop-number
invariant-loop-number l = find (λ device. bytes_eq l.word (device_word device)) devices ≡ find (λ device. bytes_eq l.word (device_word device)) (drop l.number devices)
