-- Devices and their numbers, whatever is listed.
use Rattle.std.proofs.Common.{◌≡◌, ℕ, zero, suc, ◌+◌, ◌<◌, ◌≤◌, List, ◌++◌, length, Option, Some, None, refl, ap, sym, ◌∙◌, arith}
use Rattle.std.specs.Prelude.{slice_get}
use Rattle.std.specs.List.{flat_map, range_with_len}
use Rattle.std.specs.Option.{option_to_list}
use Rattle.std.proofs.Math.Decide.{dec_lt}
use Rattle.std.specs.Coded.{le_prop}
use Rattle.std.proofs.lemmas.Option.{same_Some}
use Rattle.qx_devices.specs.Count.{device_count}
use Rattle.qx_devices.specs.Listed.{listed}
use Rattle.qx_devices.specs.declared.TheConstants.Device.{MOST}
use Rattle.qx_devices.specs.Devices.{device_number, device_of, device_where, devices}
use Rattle.qx_devices.specs.declared.Device.{Device}

later : (first n : ℕ) → (first + 1) + n ≡ first + suc n
later first n = omega arith

-- what a function gives for one number stands before what it gives for the next ones
before : {X : Type 0} (f : ℕ → Option X) (first : ℕ) (x : X) (rest : List X) → f first ≡ Some x → ((k : ℕ) → slice_get rest k ≡ f ((first + 1) + k)) → (k : ℕ) → slice_get (option_to_list (f first) ++ rest) k ≡ f (first + k)
before f first x rest here next zero = rw here (sym here ∙ ap f (omega arith))
before f first x rest here next (suc k) = rw here (next k ∙ ap f (later first k))

-- what it gives for so many numbers, and for no later one, stands in a list at its place
gathered : {X : Type 0} (f : ℕ → Option X) (count first : ℕ) → ((n : ℕ) → n < count → (x : X) × (f (first + n) ≡ Some x)) → ((n : ℕ) → count ≤ n → f (first + n) ≡ None) → (k : ℕ) → slice_get (flat_map (λ n. option_to_list (f n)) (range_with_len first count)) k ≡ f (first + k)
gathered f zero first some none k = sym (none k (omega arith))
gathered f (suc count) first some none k =
    let its = some 0 (omega arith) in
    before f first its.0 (flat_map (λ n. option_to_list (f n)) (range_with_len (first + 1) count)) (ap f (omega arith) ∙ its.1)
    (gathered f count (first + 1)
    (λ n few. let own = some (suc n) (omega (arith, few)) in (own.0, ap f (later first n) ∙ own.1))
    (λ n many. ap f (later first n) ∙ none (suc n) (omega (arith, many)))) k

-- so many stand there
one_more : {X : Type 0} (first : Option X) (its : X) (rest : List X) (count : ℕ) → first ≡ Some its → length rest ≡ count → length (option_to_list first ++ rest) ≡ suc count
one_more first its rest count here is = rw here (ap suc is)

count_gathered : {X : Type 0} (f : ℕ → Option X) (count first : ℕ) → ((n : ℕ) → n < count → (x : X) × (f (first + n) ≡ Some x)) → length (flat_map (λ n. option_to_list (f n)) (range_with_len first count)) ≡ count
count_gathered f zero first some = refl
count_gathered f (suc count) first some =
    let its = some 0 (omega arith) in
    one_more (f first) its.0 (flat_map (λ n. option_to_list (f n)) (range_with_len (first + 1) count)) count (ap f (omega arith) ∙ its.1)
    (count_gathered f count (first + 1) (λ n few. let own = some (suc n) (omega (arith, few)) in (own.0, ap f (later first n) ∙ own.1)))

listed_where : (number : ℕ) (few : number < device_count) (test : Dec (number < device_count)) → device_where number test ≡ Some (record { number = number; listed = few })
listed_where number few (yes within) = ap (λ h. Some (record { number = number; listed = h })) (le_prop within few)
listed_where number few (no past) = absurd (past few)

past_where : (number : ℕ) → device_count ≤ number → (test : Dec (number < device_count)) → device_where number test ≡ None
past_where number many (yes within) = absurd (omega (arith, many, within))
past_where number many (no past) = refl

pub listed_of : (number : ℕ) (few : number < device_count) → device_of number ≡ Some (record { number = number; listed = few })
unfolding device_of
listed_of number few = listed_where number few (dec_lt number device_count)

pub none_of : (number : ℕ) → device_count ≤ number → device_of number ≡ None
unfolding device_of
none_of number many = past_where number many (dec_lt number device_count)

front : (number : ℕ) → 0 + number ≡ number
front number = omega arith

each_listed : (number : ℕ) → number < device_count → (device : Device) × (device_of (0 + number) ≡ Some device)
each_listed number few = (record { number = number; listed = few }, ap device_of (front number) ∙ listed_of number few)

pub count_devices : length devices ≡ device_count
unfolding devices
count_devices = count_gathered device_of device_count 0 each_listed

-- computed: a longer list is refused here
pub few_devices : device_count ≤ MOST
unfolding device_count listed
few_devices = omega arith

-- the device of a number stands among all at that
pub devices_at : (number : ℕ) → slice_get devices number ≡ device_of number
unfolding devices
devices_at number = gathered device_of device_count 0 each_listed (λ n many. ap device_of (front n) ∙ none_of n many) number ∙ ap device_of (front number)

-- a device stands among all at its number
pub device_at : (device : Device) → slice_get devices (device_number device) ≡ Some device
device_at device = devices_at device.number ∙ listed_of device.number device.listed

-- and no device at another's
number_where : (number : ℕ) (device : Device) (test : Dec (number < device_count)) → device_where number test ≡ Some device → device_number device ≡ number
number_where number device (yes within) is = ap device_number (sym (same_Some _ device is))
number_where number device (no past) is = absurd (cc)

pub device_number_at : (number : ℕ) (device : Device) → slice_get devices number ≡ Some device → device_number device ≡ number
unfolding device_of
device_number_at number device is = number_where number device (dec_lt number device_count) (sym (devices_at number) ∙ is)
