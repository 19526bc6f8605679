-- A script: who uses the system, what each user may ask for, how many workers serve it, and what the lines ask for in order.
use Rattle.std.specs.Prelude.{ℕ, ◌+◌, ◌==◌, ◌&&◌, Bool, true, not, List, [], ◌∷◌, ◌++◌, Option, Some, None, length, if◌then◌else◌, nat_le, nat_lt, is_none, option_map, replicate, unwrap_or}
use Rattle.std.specs.List.{list_any}
use Rattle.std.specs.Str.{bytes_eq}
use Rattle.qx_types.specs.Configuration.{Configuration}
use Rattle.qx_types.specs.Optional.{◌>>=◌}
use Rattle.qx_types.specs.UserLimits.{default_limits}
use Rattle.qx_types.specs.declared.limits.TheConstants.Limits.{USERS, WORKERS}
use Rattle.qx_script.specs.declared.command.Command.{Command}
use Rattle.qx_script.specs.declared.script.Script as code
use Rattle.qx_script.specs.declared.script.Script.TheVariants as variant
use Rattle.qx_script.specs.declared.setting.Setting.{Setting}
use Rattle.qx_calls.specs.Forms.{Line, read_form}
use Rattle.qx_script.specs.Lines.{ceiling_line, command_of, disconnect_line, limit_line, user_line, workers_line}
use Rattle.qx_script.specs.Settings.{configured, is_allowed, sets_same}
use Rattle.qx_words.specs.Words.{lines_of, words_of}

-- what the lines so far say
pub record Reading : Type 0 where
  pub users : List (List ℕ)
  pub settings : List Setting
  pub workers : Option ℕ
  pub commands : List Command

-- nothing is read
abbrev pub unread : Reading
unread = record { users = []; settings = []; workers = None; commands = [] }

-- users, what is set for them and workers are named before the first command
abbrev pub is_before_commands : Reading → Bool
is_before_commands reading = length reading.commands == 0

-- a name that no earlier line names, with room for it
abbrev pub is_new_user : Reading → List ℕ → Bool
is_new_user reading name =
    is_before_commands reading && not (list_any (λ other. bytes_eq other name) reading.users) && nat_lt (length reading.users) USERS

abbrev pub with_user : Reading → List ℕ → Option Reading
with_user reading name =
    if is_new_user reading name
    then Some (record reading { users = reading.users ++ name ∷ [] })
    else None

-- what may be set, once
abbrev pub with_setting : Reading → Setting → Option Reading
with_setting reading setting =
    if is_before_commands reading && not (list_any (sets_same setting) reading.settings) && is_allowed setting
    then Some (record reading { settings = reading.settings ++ setting ∷ [] })
    else None

-- where a line that sets something is read
abbrev pub with_setting_read : Reading → Option Setting → Option Reading
with_setting_read reading setting = setting >>= with_setting reading

-- a number of workers that a configuration may have, named once
abbrev pub with_workers : Reading → ℕ → Option Reading
with_workers reading workers =
    if is_before_commands reading && is_none reading.workers && nat_le 1 workers && nat_le workers WORKERS
    then Some (record reading { workers = Some workers })
    else None

abbrev pub with_command : Reading → Command → Reading
with_command reading command = record reading { commands = reading.commands ++ command ∷ [] }

abbrev pub after_user : Reading → List (List ℕ) → Option Reading
after_user reading words = read_form user_line reading.users words >>= with_user reading

abbrev pub after_setting : Line Setting → Reading → List (List ℕ) → Option Reading
after_setting line reading words = with_setting_read reading (read_form line reading.users words)

abbrev pub after_workers : Reading → List (List ℕ) → Option Reading
after_workers reading words = read_form workers_line reading.users words >>= with_workers reading

-- a line in words, by its first; none where the line is bad
unfoldable pub after_words : Reading → List (List ℕ) → Option Reading
after_words reading [] = None
after_words reading (name ∷ words) =
    if bytes_eq name user_line.name then after_user reading words
    else if bytes_eq name ceiling_line.name then after_setting ceiling_line reading words
    else if bytes_eq name disconnect_line.name then after_setting disconnect_line reading words
    else if bytes_eq name limit_line.name then after_setting limit_line reading words
    else if bytes_eq name workers_line.name then after_workers reading words
    else option_map (with_command reading) (command_of reading.users name words)

-- an empty line or a comment
abbrev pub is_skipped : List ℕ → Bool
is_skipped [] = true
is_skipped (first ∷ rest) = first == 35

-- the reading after one more line; none where the line is bad
unfoldable pub after_line : Reading → List ℕ → Option Reading
after_line reading line = if is_skipped line then Some reading else after_words reading (words_of line)

-- the number of the first bad line, or all that the script says
pub data Script : Type 0 where
  Bad : (line : ℕ) → Script
  Good : (config : Configuration) (commands : List Command) → Script

-- a script that was read, as what it says
abbrev pub said : code.Script → Script
said (variant.Bad line) = Bad line
said (variant.Good config commands) = Good config commands.items

-- without a line that names the workers there is one
abbrev pub script_of : Reading → Script
script_of reading =
    Good (configured reading.settings (record { users = reading.users; workers = unwrap_or reading.workers 1; limits = replicate (length reading.users) default_limits })) reading.commands

-- the lines from this number on
abbrev pub script_from : Reading → ℕ → List (List ℕ) → Script
script_from reading number [] = script_of reading
script_from reading number (line ∷ lines) =
    elim (after_line reading line) [ None ↦ Bad number | Some next ↦ script_from next (number + 1) lines ]

-- lines are counted from 1
unfoldable pub script : List ℕ → Script
script text = script_from unread 1 (lines_of text)
