-- The script that takes steps anew.
use Rattle.std.specs.Prelude.{ℕ, suc, List, [], ◌∷◌, ◌++◌, map}
use Rattle.std.specs.List.{join_with_byte}
use Rattle.qx_types.specs.Configuration.{Configuration}
use Rattle.qx_types.specs.declared.step.Step.{Step}
use Rattle.qx_calls.specs.Forms.{Saying, by, line_text}
use Rattle.qx_types.specs.UserLimits.{UserLimits}
use Rattle.qx_types.specs.declared.names.User.{User}
use Rattle.qx_types.specs.declared.user_limits.LimitName.TheVariants.{Processes, Connections, Servers, Blocks, Inodes, File, Bytes, Mounts, Events}
use Rattle.qx_script.specs.declared.setting.Setting.{Setting}
use Rattle.qx_script.specs.declared.setting.SettingName.{SettingName}
use Rattle.qx_script.specs.declared.setting.SettingName.TheVariants.{Ceiling, Disconnect, Limit}
use Rattle.qx_script.specs.Lines.{ceiling_line, disconnect_line, limit_line, user_line, workers_line}
use Rattle.qx_script.specs.StepText.{step_text}

abbrev pub user_said : List ℕ → Saying
user_said name = by user_line (name, tt)

-- the line that sets it
abbrev pub said_by : User → SettingName → ℕ → Saying
said_by user Ceiling value = by ceiling_line (user, (value, tt))
said_by user Disconnect value = by disconnect_line (user, (value, tt))
said_by user (Limit limit) value = by limit_line (user, (limit, (value, tt)))

abbrev pub setting_said : Setting → Saying
setting_said setting = said_by setting.user setting.name setting.value

abbrev pub workers_said : ℕ → Saying
workers_said workers = by workers_line (workers, tt)

abbrev pub setting_of : ℕ → SettingName → ℕ → Setting
setting_of user name value = record { user = record { 0 = user }; name = name; value = value }

-- a user's ceiling, the priority of the user's disconnect pulses, and each limit
abbrev pub settings_of : ℕ → UserLimits → List Setting
settings_of user limits =
    setting_of user Ceiling limits.ceiling
    ∷ setting_of user Disconnect limits.disconnect
    ∷ setting_of user (Limit Processes) limits.processes
    ∷ setting_of user (Limit Connections) limits.connections
    ∷ setting_of user (Limit Servers) limits.servers
    ∷ setting_of user (Limit Blocks) limits.blocks
    ∷ setting_of user (Limit Inodes) limits.inodes
    ∷ setting_of user (Limit File) limits.file
    ∷ setting_of user (Limit Bytes) limits.bytes
    ∷ setting_of user (Limit Mounts) limits.mounts
    ∷ setting_of user (Limit Events) limits.events
    ∷ []

-- those of each user from a number on
abbrev pub settings_from : ℕ → List UserLimits → List Setting
settings_from user [] = []
settings_from user (limits ∷ others) = settings_of user limits ++ settings_from (suc user) others

-- a line for each user, one for each setting of each user, one for the number of workers, and one for each step as `trace` prints it
abbrev pub replay_lines : Configuration → List Step → List (List ℕ)
replay_lines config steps =
    map (λ name. line_text config (user_said name)) config.users ++
    (map (λ setting. line_text config (setting_said setting)) (settings_from 1 config.limits) ++ line_text config (workers_said config.workers) ∷ map (step_text config) steps)

-- the script of these lines
unfoldable pub replay_text : Configuration → List Step → List ℕ
replay_text config steps = join_with_byte 10 (replay_lines config steps)
