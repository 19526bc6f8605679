-- What the lines of a script set for users: ceilings, priorities of disconnect pulses, and limits.
use Rattle.std.specs.Prelude.{ℕ, ◌==◌, ◌≤◌, ◌&&◌, Bool, IsTrue, List, [], ◌∷◌, nat_le}
use Rattle.qx_types.specs.Configuration.{Configuration, limits_of, with_limits}
use Rattle.qx_types.specs.UserLimits.{UserLimits, most_of, with_limit}
use Rattle.qx_types.specs.declared.limits.TheConstants.Limits.{PRIORITY}
use Rattle.qx_types.specs.declared.user_limits.LimitName.TheVariants.{Processes, Connections, Servers, Blocks, Inodes, File, Bytes, Mounts, Events}
use Rattle.qx_script.specs.declared.setting.Setting.{Setting}
use Rattle.qx_script.specs.declared.setting.SettingName.{SettingName}
use Rattle.qx_script.specs.declared.setting.SettingName.TheVariants.{Ceiling, Disconnect, Limit}

-- the greatest value that may be set of a priority, or of a limit
abbrev pub greatest : SettingName → ℕ
greatest Ceiling = PRIORITY
greatest Disconnect = PRIORITY
greatest (Limit limit) = most_of limit

abbrev pub is_allowed : Setting → Bool
is_allowed setting = nat_le 1 setting.value && nat_le setting.value (greatest setting.name)

-- each has a number of its own
abbrev pub name_number : SettingName → ℕ
name_number Ceiling = 0
name_number Disconnect = 1
name_number (Limit Processes) = 2
name_number (Limit Connections) = 3
name_number (Limit Servers) = 4
name_number (Limit Blocks) = 5
name_number (Limit Inodes) = 6
name_number (Limit File) = 7
name_number (Limit Bytes) = 8
name_number (Limit Mounts) = 9
name_number (Limit Events) = 10

-- two of them set the same of one user
abbrev pub sets_same : Setting → Setting → Bool
sets_same setting other = (name_number setting.name == name_number other.name) && (setting.user.0 == other.user.0)

-- another value of one of them
abbrev pub set_to : SettingName → ℕ → UserLimits → UserLimits
set_to Ceiling n limits = record limits { ceiling = n }
set_to Disconnect n limits = record limits { disconnect = n }
set_to (Limit limit) n limits = with_limit limit n limits

abbrev pub set_by : Setting → Configuration → Configuration
set_by setting config = with_limits config setting.user.0 (set_to setting.name setting.value (limits_of config setting.user.0))

-- one after the other
abbrev pub configured : List Setting → Configuration → Configuration
configured [] config = config
configured (setting ∷ settings) config = configured settings (set_by setting config)

-- it is for one of so many users, and may be set
pub record CanBeSet (users : ℕ) (setting : Setting) : Type 0 where
  pub some : 1 ≤ setting.user.0
  pub within : setting.user.0 ≤ users
  pub allowed : IsTrue (is_allowed setting)
