-- A good script has a configuration, and asks for what a line can say.
use Rattle.std.proofs.Common.{◌≡◌, ℕ, ◌+◌, ◌<◌, ◌≤◌, Bool, true, false, eqb, leb, ltb, not, List, [], ◌∷◌, ◌++◌, Option, Some, None, length, refl, ap, subst, arith}
use Rattle.std.specs.Prelude.{◌&&◌, All, IfSome, is_none, option_map, replicate, unwrap_or}
use Rattle.std.specs.List.{list_all, list_any}
use Rattle.std.specs.Str.{bytes_eq}
use Rattle.std.proofs.lemmas.Bool.Decides.{nat_tests}
use Rattle.std.proofs.lemmas.List.Elements.{All-nil, All-push}
use Rattle.std.proofs.lemmas.List.{length_push}
use Rattle.std.proofs.lemmas.Option.{cond_some}
use Rattle.std.proofs.lemmas.Bool.{and_parts}
use Rattle.qx_types.specs.Configuration.{Configuration, HasLimits, IsConfiguration, is_user_name}
use Rattle.qx_types.specs.declared.limits.TheConstants.Limits.{USERS, WORKERS}
use Rattle.qx_script.specs.declared.command.Command.{Command}
use Rattle.qx_calls.specs.Forms.{CanBeWords, Line, Values, read_form}
use Rattle.qx_calls.specs.inner.Forms.{made_of}
use Rattle.qx_script.specs.Lines.{ceiling_line, command_of, disconnect_line, limit_line, user_line, workers_line}
use Rattle.qx_script.specs.Settings.{CanBeSet, configured, is_allowed, sets_same}
use Rattle.qx_script.specs.declared.setting.Setting.{Setting}
use Rattle.qx_script.proofs.SettingLemmas.{configured_has, configured_users, configured_workers, unset_has}
use Rattle.qx_types.specs.UserLimits.{default_limits}
use Rattle.qx_words.specs.Kinds.{is_word}
use Rattle.qx_script.specs.Script.{Bad, Good, Reading, Script, after_line, after_setting, after_user, after_words, after_workers, is_before_commands, is_new_user, is_skipped, script, script_from, unread, with_command, with_setting, with_user, with_workers}
use Rattle.qx_words.specs.Words.{lines_of, words_of}
use Rattle.qx_script.proofs.ReadCommands.{CanSayCommand, command_within}
use Rattle.qx_calls.proofs.ReadForms.{by_name, line_within}
use Rattle.qx_words.proofs.ReadValues.{bind_some, is_in_line, lines_are_lines, mapped, of_some, words_are_words}
use Rattle.qx_words.proofs.UserNames as names

record Read (r : Reading) : Type 0 where
  users : IsConfiguration r.users 1
  settings : All (CanBeSet (length r.users)) r.settings
  workers : IfSome r.workers (λ workers. (1 ≤ workers) × (workers ≤ WORKERS))
  commands : All (CanSayCommand r.users) r.commands

no_user : IsConfiguration [] 1
no_user = record {
  few_users = omega arith;
  good_names = λ k d below. absurd (omega arith);
  different_names = λ i j d before below. absurd (omega arith);
  some_worker = omega arith;
  few_workers = omega arith;
}

nothing_read : Read unread
nothing_read = record { users = no_user; settings = All-nil (CanBeSet 0); workers = tt; commands = All-nil (CanSayCommand []) }

no_command : (P : Command → Type 0) (commands : List Command) → eqb (length commands) 0 ≡ true → All P commands
no_command P [] none = All-nil P
no_command P (command ∷ commands) none = absurd (let zero : length (command ∷ commands) ≡ 0 = grind (arith, nat_tests) in omega (arith, zero))

is_not : (b : Bool) → not b ≡ true → b ≡ false
is_not true is = cc
is_not false is = refl

user_read : (r : Reading) (name : List ℕ) (next : Reading) → Read r → is_user_name name ≡ true → with_user r name ≡ Some next → Read next
user_read r name next read_form good is =
    let parts = cond_some (is_new_user r name) (record r { users = r.users ++ name ∷ [] }) next is in
    let few = and_parts (is_before_commands r && not (list_any (λ other. bytes_eq other name) r.users)) (ltb (length r.users) USERS) parts.0 in
    let fresh = and_parts (is_before_commands r) (not (list_any (λ other. bytes_eq other name) r.users)) few.0 in
    let below : ltb (length r.users) USERS ≡ true = few.1 in
    let room : length r.users < USERS = grind (arith, nat_tests) in
    subst Read parts.1 (record {
      users = names.user_added r.users name read_form.users good (is_not _ fresh.1) room;
      settings = λ k d below. let can = read_form.settings k d below in record { some = can.some; within = omega (arith, can.within, length_push r.users name); allowed = can.allowed };
      workers = read_form.workers;
      commands = no_command (CanSayCommand (r.users ++ name ∷ [])) r.commands fresh.0;
    })

-- of one of the users
abbrev IsOf : List (List ℕ) → Setting → Type 0
IsOf users setting = (1 ≤ setting.user.0) × (setting.user.0 ≤ length users)

setting_read : (r : Reading) (setting : Setting) (next : Reading) → Read r → IsOf r.users setting → with_setting r setting ≡ Some next → Read next
setting_read r setting next read_form of is =
    let parts = cond_some (is_before_commands r && not (list_any (sets_same setting) r.settings) && is_allowed setting) (record r { settings = r.settings ++ setting ∷ [] }) next is in
    let allowed = and_parts (is_before_commands r && not (list_any (sets_same setting) r.settings)) (is_allowed setting) parts.0 in
    subst Read parts.1 (record {
      users = read_form.users;
      settings = All-push (CanBeSet (length r.users)) r.settings setting read_form.settings (record { some = of.0; within = of.1; allowed = allowed.1 });
      workers = read_form.workers;
      commands = read_form.commands;
    })

workers_read : (r : Reading) (workers : ℕ) (next : Reading) → Read r → with_workers r workers ≡ Some next → Read next
workers_read r workers next read_form is =
    let parts = cond_some (is_before_commands r && is_none r.workers && leb 1 workers && leb workers WORKERS) (record r { workers = Some workers }) next is in
    let most = and_parts ((is_before_commands r && is_none r.workers) && leb 1 workers) (leb workers WORKERS) parts.0 in
    let least = and_parts (is_before_commands r && is_none r.workers) (leb 1 workers) most.0 in
    let above : leb 1 workers ≡ true = least.1 in
    let below : leb workers WORKERS ≡ true = most.1 in
    let some : 1 ≤ workers = grind (arith, nat_tests) in
    let few : workers ≤ WORKERS = grind (arith, nat_tests) in
    subst Read parts.1 (record { users = read_form.users; settings = read_form.settings; workers = (some, few); commands = read_form.commands })

command_read : (r : Reading) (name : List ℕ) (words : List (List ℕ)) (next : Reading) → Read r → list_all is_word words ≡ true
    → option_map (with_command r) (command_of r.users name words) ≡ Some next → Read next
command_read r name words next read_form all is =
    let command = mapped (with_command r) (command_of r.users name words) next is in
    subst Read command.2 (record {
      users = read_form.users;
      settings = read_form.settings;
      workers = read_form.workers;
      commands = All-push (CanSayCommand r.users) r.commands command.0 read_form.commands (command_within r.users name words command.0 all command.1);
    })

user_line_read : (r : Reading) (words : List (List ℕ)) (next : Reading) → Read r → list_all is_word words ≡ true → after_user r words ≡ Some next → Read next
user_line_read r words next before all is =
    let name = bind_some (read_form user_line r.users words) (with_user r) next is in
    let said = line_within user_line r.users words name.0 all name.1 in
    user_read r name.0 next before (subst (λ (n : List ℕ). is_user_name n ≡ true) said.2 said.1.0) name.2

setting_line_read : (line : Line Setting) (r : Reading) (words : List (List ℕ)) (next : Reading) → ((values : Values line.form) → CanBeWords line.form r.users values → IsOf r.users (made_of line.form line.made values))
    → Read r → list_all is_word words ≡ true → after_setting line r words ≡ Some next → Read next
setting_line_read line r words next of before all is =
    let setting = bind_some (read_form line r.users words) (with_setting r) next is in
    let said = line_within line r.users words setting.0 all setting.1 in
    setting_read r setting.0 next before (subst (IsOf r.users) said.2 (of said.0 said.1)) setting.2

workers_line_read : (r : Reading) (words : List (List ℕ)) (next : Reading) → Read r → after_workers r words ≡ Some next → Read next
workers_line_read r words next before is =
    let number = bind_some (read_form workers_line r.users words) (with_workers r) next is in
    workers_read r number.0 next before number.2

words_read : (r : Reading) (words : List (List ℕ)) (next : Reading) → Read r → list_all is_word words ≡ true → after_words r words ≡ Some next → Read next
unfolding after_words
words_read r [] next before all is = cc
words_read r (name ∷ words) next before all is =
    let rest = (and_parts (is_word name) _ all).1 in
    by_name (bytes_eq name user_line.name) (after_user r words) _ next (Read next) (user_line_read r words next before rest)
    (by_name (bytes_eq name ceiling_line.name) (after_setting ceiling_line r words) _ next (Read next) (setting_line_read ceiling_line r words next (λ values can. can.0) before rest)
    (by_name (bytes_eq name disconnect_line.name) (after_setting disconnect_line r words) _ next (Read next) (setting_line_read disconnect_line r words next (λ values can. can.0) before rest)
    (by_name (bytes_eq name limit_line.name) (after_setting limit_line r words) _ next (Read next) (setting_line_read limit_line r words next (λ values can. can.0) before rest)
    (by_name (bytes_eq name workers_line.name) (after_workers r words) _ next (Read next) (workers_line_read r words next before)
    (command_read r name words next before rest))))) is

line_read : (r : Reading) (line : List ℕ) (next : Reading) → Read r → list_all is_in_line line ≡ true → after_line r line ≡ Some next → Read next
unfolding after_line
line_read r line next read_form all is =
    by_name (is_skipped line) (Some r) (after_words r (words_of line)) next (Read next) (λ same. subst Read (of_some r next same) read_form)
    (words_read r (words_of line) next read_form (words_are_words line all)) is

-- what a good script says
pub record Asked (config : Configuration) (commands : List Command) : Type 0 where
  pub configured : IsConfiguration config.users config.workers
  pub limits : HasLimits config
  pub said : All (CanSayCommand config.users) commands

config_of : Script → Configuration
config_of (Bad line) = record { users = []; workers = 1; limits = [] }
config_of (Good config commands) = config

commands_of : Script → List Command
commands_of (Bad line) = []
commands_of (Good config commands) = commands

worker_count : (workers : Option ℕ) → IfSome workers (λ n. (1 ≤ n) × (n ≤ WORKERS)) → (1 ≤ unwrap_or workers 1) × (unwrap_or workers 1 ≤ WORKERS)
worker_count None within = (omega arith, omega arith)
worker_count (Some n) within = within

continued : (read_form : Option Reading) (number : ℕ) (lines : List (List ℕ)) (good : Script) (P : Type 0) → (Bad number ≡ good → P)
    → ((next : Reading) → read_form ≡ Some next → script_from next (number + 1) lines ≡ good → P)
    → elim read_form [ None ↦ Bad number | Some next ↦ script_from next (number + 1) lines ] ≡ good → P
continued None number lines good P bad more is = bad is
continued (Some next) number lines good P bad more is = more next refl is

lines_read : (r : Reading) (number : ℕ) (lines : List (List ℕ)) (config : Configuration) (commands : List Command) → Read r
    → list_all (list_all is_in_line) lines ≡ true → script_from r number lines ≡ Good config commands → Asked config commands
unfolding config_of commands_of
lines_read r number [] config commands read_form all is =
    let count = worker_count r.workers read_form.workers in
    let same = ap config_of is in
    let unset : Configuration = record { users = r.users; workers = unwrap_or r.workers 1; limits = replicate (length r.users) default_limits } in
    let now = configured r.settings unset in
    let asked : Asked now r.commands =
    record {
      configured = rw (configured_users r.settings unset, configured_workers r.settings unset) (names.with_workers r.users (unwrap_or r.workers 1) read_form.users count.0 count.1);
      limits = configured_has r.settings unset read_form.settings (unset_has r.users (unwrap_or r.workers 1));
      said = rw (configured_users r.settings unset) read_form.commands;
    } in
    subst (Asked config) (ap commands_of is) (subst (λ (c : Configuration). Asked c r.commands) same asked)
lines_read r number (line ∷ lines) config commands read_form all is =
    let parts = and_parts (list_all is_in_line line) (list_all (list_all is_in_line) lines) all in
    continued (after_line r line) number lines (Good config commands) (Asked config commands) (λ bad. cc)
    (λ next after more. lines_read next (number + 1) lines config commands (line_read r line next read_form parts.0 after) parts.1 more) is

pub script_read : (text : List ℕ) (config : Configuration) (commands : List Command) → script text ≡ Good config commands → Asked config commands
unfolding script
script_read text config commands is = lines_read unread 1 (lines_of text) config commands nothing_read (lines_are_lines text) is
