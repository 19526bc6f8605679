-- Who uses the system: names and numbers within the limits.
use Rattle.std.specs.Prelude.{◌≡◌, ◌≢◌, ℕ, zero, suc, Option, None, get_or, slice_get, slice_set, unwrap_or, ◌-◌, ◌≤◌, Bool, false, ◌&&◌, ◌||◌, nat_le, IsTrue, List, [], ◌∷◌, length, All, AllPairs}
use Rattle.std.specs.List.{list_all}
use Rattle.qx_types.specs.UserLimits.{AreLimits, UserLimits, default_limits, in_ranges}
use Rattle.qx_types.specs.declared.limits.TheConstants.Limits.{NAME, USERS, WORKERS}

-- the users' names in the order of their numbers, the number of workers, and the users' limits in the same order
pub record Configuration : Type 0 where
  pub users : List (List ℕ)
  pub workers : ℕ
  pub limits : List UserLimits

-- the name of the user with that number, from 1
abbrev pub name_of : Configuration → ℕ → Option (List ℕ)
name_of c zero = None
name_of c (suc n) = slice_get c.users n

-- the same as bytes, of which a number that no user has has none
abbrev pub name_bytes : Configuration → ℕ → List ℕ
name_bytes c user = unwrap_or (name_of c user) []

-- the limits that stand under a user's number
abbrev pub set_limits : Configuration → ℕ → UserLimits
set_limits c zero = default_limits
set_limits c (suc n) = get_or c.limits n default_limits

-- a user's limits, each of them in its range
unfoldable pub limits_of : Configuration → ℕ → UserLimits
limits_of c user = in_ranges (set_limits c user)

-- other limits of a user
abbrev pub with_limits : Configuration → ℕ → UserLimits → Configuration
with_limits c user limits = record c { limits = slice_set c.limits (user - 1) limits }

-- a lower-case ASCII letter
abbrev pub is_letter : ℕ → Bool
is_letter c = nat_le 97 c && nat_le c 122

-- a lower-case ASCII letter or a digit
abbrev pub is_letter_or_digit : ℕ → Bool
is_letter_or_digit c = is_letter c || (nat_le 48 c && nat_le c 57)

-- lower-case ASCII letters and digits, a letter first
abbrev pub is_user_name : List ℕ → Bool
is_user_name [] = false
is_user_name (first ∷ rest) = is_letter first && list_all is_letter_or_digit rest && nat_le (suc (length rest)) NAME

-- at most 16 users with different names, and 1 to 8 workers
pub record IsConfiguration (names : List (List ℕ)) (workers : ℕ) : Type 0 where
  pub few_users : length names ≤ USERS
  pub good_names : All (λ name. IsTrue (is_user_name name)) names
  pub different_names : AllPairs (λ one other. one ≢ other) names
  pub some_worker : 1 ≤ workers
  pub few_workers : workers ≤ WORKERS

-- each user has limits, within their ranges
pub record HasLimits (c : Configuration) : Type 0 where
  pub each_user : length c.limits ≡ length c.users
  pub in_range : All AreLimits c.limits
