-- Managers and their numbers. What is said of every manager is said of each number below their count, so one more manager is told here alone.
use Rattle.std.proofs.Common.{◌≡◌, ◌≢◌, ℕ, zero, suc, ◌<◌, ◌≤◌, ◌+◌, List, [], ◌∷◌, length, map, get_or, Option, Some, None, refl, sym, ap, ap₂, subst, ◌∙◌, arith}
use Rattle.std.specs.Prelude.{option_map, slice_get}
use Rattle.std.proofs.lemmas.List.{ext_get_or, length-map}
use Rattle.std.proofs.lemmas.Option.{get_or_from_slice_get, same_Some, slice_get-get_or, slice_get-map, slice_get_within}
use Rattle.qx_devices.specs.Devices.{device_number, devices}
use Rattle.qx_devices.proofs.Listed.{count_devices, device_at, device_number_at, few_devices}
use Rattle.qx_types.specs.Managers.{manager_count, manager_number, managers}
use Rattle.qx_types.specs.declared.names.TheConstants.Manager.{MOST}
use Rattle.qx_types.specs.declared.names.Manager.{Manager}
use Rattle.qx_types.specs.declared.names.Manager.TheVariants.{Ram, Pipe, Device}

-- devices come behind the others
pub behind : (number : ℕ) → slice_get managers (2 + number) ≡ option_map Device (slice_get devices number)
behind number = rw (two_more number) (slice_get-map Device devices number)
  where
    two_more : (number : ℕ) → 2 + number ≡ suc (suc number)
    two_more number = omega arith

-- a manager stands among all at its number
pub manager_at : (manager : Manager) → slice_get managers (manager_number manager) ≡ Some manager
manager_at Ram = refl
manager_at Pipe = refl
manager_at (Device device) = behind (device_number device) ∙ ap (option_map Device) (device_at device)

-- and no manager at another's
pub number_at : (number : ℕ) (manager : Manager) → slice_get managers number ≡ Some manager → manager_number manager ≡ number
number_at zero manager is = ap manager_number (same_Some manager Ram (sym is))
number_at (suc zero) manager is = ap manager_number (same_Some manager Pipe (sym is))
number_at (suc (suc number)) manager is = device_there (slice_get devices number) refl (sym (slice_get-map Device devices number) ∙ is)
  where
    device_there : (found : Option _) → slice_get devices number ≡ found → option_map Device found ≡ Some manager → manager_number manager ≡ suc (suc number)
    device_there None here is = absurd (cc)
    device_there (Some device) here is =
        let its = device_number_at number device here in
        ap manager_number (same_Some manager (Device device) (sym is)) ∙ (omega (arith, its))

pub count_managers : length managers ≡ manager_count
count_managers = ap (λ n. suc (suc n)) (length-map devices Device ∙ count_devices) ∙ omega arith

pub few_managers : manager_count ≤ MOST
few_managers = let few = few_devices in omega (arith, few)

pub number_below : (manager : Manager) → manager_number manager < manager_count
number_below manager = subst (λ n. manager_number manager < n) count_managers (slice_get_within managers (manager_number manager) manager (manager_at manager))

-- a manager is known by its number
pub same_manager : (one other : Manager) → manager_number one ≡ manager_number other → one ≡ other
same_manager one other same = same_Some one other (sym (manager_at one) ∙ ap (slice_get managers) same ∙ manager_at other)

-- under each number below the count is a manager
pub manager_of : (number : ℕ) → number < manager_count → (manager : Manager) × (slice_get managers number ≡ Some manager)
manager_of number few = (get_or managers number Ram, slice_get-get_or managers number Ram (subst (λ n. number < n) (sym count_managers) few))

-- a table with a place for each manager is known by what stands there
pub by_managers : {A : Type 0} (none : A) (places : List A) (at : Manager → A) → length places ≡ manager_count → ((manager : Manager) → get_or places (manager_number manager) none ≡ at manager) → places ≡ map at managers
by_managers none places at count here = ext_get_or none places (map at managers) (count ∙ sym (length-map managers at ∙ count_managers)) (λ number within. at_number number within)
  where
    at_number : (number : ℕ) → number < length places → get_or places number none ≡ get_or (map at managers) number none
    at_number number within =
        let its = manager_of number (subst (λ n. number < n) count within) in
        ap (λ n. get_or places n none) (sym (number_at number its.0 its.1)) ∙ here its.0
        ∙ sym (get_or_from_slice_get (map at managers) number (at its.0) none (slice_get-map at managers number ∙ ap (option_map at) its.1))

-- ---- of all managers one matters

-- the managers that stand here have the numbers from this one on
abbrev AreFrom : ℕ → List Manager → Type 0
AreFrom first some = (number : ℕ) (manager : Manager) → slice_get some number ≡ Some manager → manager_number manager ≡ first + number

-- what is told of some managers, one after the other, and is told by this one alone
module _ {A : Type 0} (all : List Manager → A) (more : Manager → A → A) (next : (one : Manager) (rest : List Manager) → all (one ∷ rest) ≡ more one (all rest)) (manager : Manager)
    (others : (other : Manager) (told : A) → manager_number other ≢ manager_number manager → more other told ≡ told) where
  none_of : (rest : List Manager) → ((number : ℕ) (other : Manager) → slice_get rest number ≡ Some other → manager_number other ≢ manager_number manager) → all rest ≡ all []
  none_of [] apart = refl
  none_of (other ∷ rest) apart = next other rest ∙ others other (all rest) (apart zero other refl) ∙ none_of rest (λ number. apart (suc number))

  one_of : (first number : ℕ) (some : List Manager) → AreFrom first some → slice_get some number ≡ Some manager → all some ≡ more manager (all [])
  one_of first number [] from there = absurd (cc)
  one_of first zero (one ∷ rest) from there =
      let here = from zero manager there in
      next one rest ∙ ap₂ more (same_Some one manager there) (none_of rest (λ number other at is. let its = from (suc number) other at in absurd (omega (arith, its, is, here))))
  one_of first (suc number) (one ∷ rest) from there =
      let own = from (suc number) manager there in
      let its = from zero one refl in
      next one rest ∙ others one (all rest) (λ is. omega (arith, own, its, is)) ∙ one_of (suc first) number rest (λ n other at. let later = from (suc n) other at in omega (arith, later)) there

  pub at_one : all managers ≡ more manager (all [])
  at_one = one_of 0 (manager_number manager) managers (λ number other there. let its = number_at number other there in omega (arith, its)) (manager_at manager)
