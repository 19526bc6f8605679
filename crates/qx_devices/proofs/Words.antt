-- What is computed of all that is listed: each word is one of a script, and no two are the same.
use Rattle.std.proofs.Common.{◌≡◌, ℕ, zero, suc, ◌&&◌, Bool, true, false, not, List, [], ◌∷◌, map, Some, refl, ap, sym, ◌∙◌}
use Rattle.std.specs.Prelude.{codes, slice_get}
use Rattle.std.specs.List.{list_all}
use Rattle.std.specs.Str.{bytes_eq}
use Rattle.std.proofs.Math.Decide.{dec_lt}
use Rattle.std.proofs.lemmas.Bool.{and_parts, not-true}
use Rattle.std.proofs.lemmas.Option.{same_Some}
use Rattle.qx_devices.proofs.Found.{are_apart, first_of_text}
use Rattle.qx_devices.specs.Count.{device_count}
use Rattle.qx_devices.specs.Listed.{listed}
use Rattle.qx_devices.specs.Devices.{device_named, device_number, device_of, device_word, devices, row_of}
use Rattle.qx_devices.specs.Word.{is_word}
use Rattle.qx_devices.proofs.Listed.{device_at}
use Rattle.qx_devices.specs.declared.Device.{Device}

-- a word of a script, and neither that of the RAM manager nor of the pipe manager
abbrev is_free : List ℕ → Bool
is_free word = is_word word && not (bytes_eq word (codes "ram")) && not (bytes_eq word (codes "pipe"))

all_free : list_all (λ device. is_free (device_word device)) devices ≡ true
unfolding device_count listed device_of devices row_of device_word dec_lt
all_free = refl

all_apart : are_apart (map device_word devices) ≡ true
unfolding device_count listed device_of devices row_of device_word dec_lt
all_apart = refl

pub named_again : (device : Device) → device_named (device_word device) ≡ Some device
unfolding device_named
named_again device = first_of_text device_word devices (device_number device) device all_apart (device_at device)

free_at : (among : List Device) (place : ℕ) (device : Device) → list_all (λ device. is_free (device_word device)) among ≡ true → slice_get among place ≡ Some device → is_free (device_word device) ≡ true
free_at [] place device free is = absurd (cc)
free_at (first ∷ rest) zero device free is = ap (λ d. is_free (device_word d)) (sym (same_Some first device is)) ∙ (and_parts _ _ free).0
free_at (first ∷ rest) (suc place) device free is = free_at rest place device (and_parts _ _ free).1 is

-- a device's word is a word of a script, and neither the RAM manager's nor the pipe manager's
pub own_word : (device : Device) → (is_word (device_word device) ≡ true) × (bytes_eq (device_word device) (codes "ram") ≡ false) × (bytes_eq (device_word device) (codes "pipe") ≡ false)
own_word device =
    let free = and_parts _ _ (free_at devices (device_number device) device all_free (device_at device)) in
    let first = and_parts _ _ free.0 in
    (first.0, not-true _ first.1, not-true _ free.1)
