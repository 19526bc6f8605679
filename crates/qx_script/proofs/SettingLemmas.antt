-- What a configuration is once the lines of a script have set what they set.
use Rattle.std.proofs.Common.{◌≡◌, ◌∙◌, ◌-◌, ◌≤◌, ℕ, true, leb, List, [], ◌∷◌, ◌++◌, length, replicate, refl, arith}
use Rattle.std.specs.Prelude.{All}
use Rattle.std.proofs.lemmas.Bool.Decides.{nat_tests}
use Rattle.std.proofs.lemmas.List.{length-replicate, length-set}
use Rattle.std.proofs.lemmas.List.Elements.{All-head, All-replicate, All-set, All-tail}
use Rattle.std.proofs.lemmas.Bool.{and_parts}
use Rattle.qx_types.specs.Configuration.{Configuration, HasLimits, limits_of}
use Rattle.qx_types.specs.UserLimits.{AreLimits, UserLimits, default_limits}
use Rattle.qx_types.proofs.LimitLemmas.{default_within, limited, limits_within}
use Rattle.qx_script.specs.declared.setting.Setting.{Setting}
use Rattle.qx_script.specs.declared.setting.SettingName.{SettingName}
use Rattle.qx_script.specs.declared.setting.SettingName.TheVariants.{Ceiling, Disconnect, Limit}
use Rattle.qx_script.specs.Settings.{CanBeSet, configured, greatest, is_allowed, set_by, set_to}

-- a value that may be set is in its range
pub in_range : (setting : Setting) → is_allowed setting ≡ true → (1 ≤ setting.value) × (setting.value ≤ greatest setting.name)
in_range setting allowed =
    let parts = and_parts (leb 1 setting.value) (leb setting.value (greatest setting.name)) allowed in
    let some : leb 1 setting.value ≡ true = parts.0 in
    let few : leb setting.value (greatest setting.name) ≡ true = parts.1 in
    (grind (arith, nat_tests), grind (arith, nat_tests))

pub set_within : (name : SettingName) (n : ℕ) (limits : UserLimits) → AreLimits limits → 1 ≤ n → n ≤ greatest name → AreLimits (set_to name n limits)
set_within Ceiling n limits within some few = record { ceiling = (some, few); disconnect = within.disconnect; processes = within.processes; connections = within.connections; servers = within.servers; blocks = within.blocks; inodes = within.inodes; file = within.file; bytes = within.bytes; mounts = within.mounts; events = within.events }
set_within Disconnect n limits within some few = record { ceiling = within.ceiling; disconnect = (some, few); processes = within.processes; connections = within.connections; servers = within.servers; blocks = within.blocks; inodes = within.inodes; file = within.file; bytes = within.bytes; mounts = within.mounts; events = within.events }
set_within (Limit limit) n limits within some few = limited limit n limits within (some, few)

set_keeps : (setting : Setting) (config : Configuration) → CanBeSet (length config.users) setting → HasLimits config → HasLimits (set_by setting config)
set_keeps setting config can has =
    let range = in_range setting can.allowed in
    let now = set_to setting.name setting.value (limits_of config setting.user.0) in
    record {
      each_user = length-set config.limits (setting.user.0 - 1) now ∙ has.each_user;
      in_range = All-set AreLimits config.limits (setting.user.0 - 1) now (set_within setting.name setting.value (limits_of config setting.user.0) (limits_within config setting.user.0) range.0 range.1) has.in_range;
    }

pub configured_has : (settings : List Setting) (config : Configuration) → All (CanBeSet (length config.users)) settings → HasLimits config → HasLimits (configured settings config)
configured_has [] config each has = has
configured_has (setting ∷ settings) config each has =
    configured_has settings (set_by setting config) (All-tail (CanBeSet (length config.users)) setting settings each) (set_keeps setting config (All-head (CanBeSet (length config.users)) setting settings each) has)

-- users and workers stay
pub configured_users : (settings : List Setting) (config : Configuration) → (configured settings config).users ≡ config.users
configured_users [] config = refl
configured_users (setting ∷ settings) config = configured_users settings (set_by setting config)

pub configured_workers : (settings : List Setting) (config : Configuration) → (configured settings config).workers ≡ config.workers
configured_workers [] config = refl
configured_workers (setting ∷ settings) config = configured_workers settings (set_by setting config)

pub configured_more : (settings more : List Setting) (config : Configuration) → configured (settings ++ more) config ≡ configured more (configured settings config)
configured_more [] more config = refl
configured_more (setting ∷ settings) more config = configured_more settings more (set_by setting config)

-- nothing is set yet
pub unset_has : (users : List (List ℕ)) (workers : ℕ) → HasLimits (record { users = users; workers = workers; limits = replicate (length users) default_limits })
unset_has users workers = record { each_user = length-replicate (length users) default_limits; in_range = All-replicate AreLimits (length users) default_limits default_within }
