-- The lines of steps, after those of users, of what is set for them and of workers, are a script that takes these steps.
use Rattle.std.proofs.Common.{◌≡◌, ◌∙◌, ℕ, ◌+◌, ◌-◌, ◌<◌, ◌≤◌, Bool, true, false, eqb, leb, ltb, not, List, [], ◌∷◌, ◌++◌, Option, Some, None, length, get_or, map, replicate, slice_set, refl, ap, sym, subst, arith, append_assoc, append-nil, suc}
use Rattle.std.specs.Prelude.{◌&&◌, ◌||◌, All}
use Rattle.std.specs.List.{AllByRecursion, join_with_byte, list_all, list_any}
use Rattle.std.specs.Str.{bytes_eq}
use Rattle.std.proofs.Math.Seq.{get_or-append_seam}
use Rattle.std.proofs.lemmas.Bool.Decides.{nat_tests}
use Rattle.std.proofs.lemmas.Grind.{common_steps}
use Rattle.std.proofs.lemmas.List.{get_or_append_left, length_push}
use Rattle.std.proofs.lemmas.List.Elements.{All-append, All-from_recursion, All-head, All-nil, All-tail}
use Rattle.std.proofs.lemmas.List.Splits.{slice_split_at, slice_split_none}
use Rattle.std.proofs.lemmas.Slice.Eq.{bytes_eq-Decides}
use Rattle.std.proofs.lemmas.Bool.{and_parts, and_from}
use Rattle.qx_types.specs.Configuration.{Configuration, HasLimits, IsConfiguration, is_user_name, limits_of}
use Rattle.qx_types.specs.UserLimits.{AreLimits, UserLimits, in_ranges, default_limits, most_of}
use Rattle.qx_types.specs.declared.user_limits.LimitName.{LimitName}
use Rattle.qx_types.specs.declared.user_limits.LimitName.TheVariants.{Processes, Connections, Servers, Blocks, Inodes, File, Bytes, Mounts, Events}
use Rattle.qx_types.proofs.LimitLemmas.{in_ranges_same, default_within}
use Rattle.qx_types.specs.Optional.{◌>>=◌}
use Rattle.qx_types.specs.declared.limits.TheConstants.Limits.{USERS, WORKERS}
use Rattle.qx_types.specs.declared.names.User.{User}
use Rattle.qx_types.specs.declared.step.Step.{Step}
use Rattle.qx_script.specs.declared.command.Command.{Command}
use Rattle.qx_script.specs.declared.command.Command.TheVariants.{Take}
use Rattle.qx_calls.specs.Forms.{CanBeSaid, Saying, line_text, words_said}
use Rattle.qx_script.specs.Lines.{CanSay, ceiling_line, disconnect_line, limit_line, step_said, user_line, workers_line}
use Rattle.qx_script.specs.Replay.{replay_lines, replay_text, said_by, setting_of, setting_said, settings_from, settings_of, user_said, workers_said}
use Rattle.qx_script.specs.Settings.{CanBeSet, configured, greatest, is_allowed, name_number, set_by, set_to, sets_same}
use Rattle.qx_script.specs.declared.setting.Setting.{Setting}
use Rattle.qx_script.specs.declared.setting.SettingName.{SettingName}
use Rattle.qx_script.specs.declared.setting.SettingName.TheVariants.{Ceiling, Disconnect, Limit}
use Rattle.qx_script.proofs.SettingLemmas.{configured_more, in_range, set_within}
use Rattle.qx_script.specs.Script.{Bad, Good, Reading, Script, after_line, after_words, is_new_user, is_skipped, script, script_from, unread, with_command, with_setting, with_user, with_workers}
use Rattle.qx_script.specs.StepText.{step_text}
use Rattle.qx_words.specs.Kinds.{is_word, is_word_byte}
use Rattle.qx_words.specs.Words.{greatest_byte, greatest_of_four_bytes, lines_of}
use Rattle.qx_words.proofs.PlainWords.{all_joined, all_weaker, none_passes}
use Rattle.qx_script.proofs.ReadBack.{line_in_words, name_is_word, read_back}
use Rattle.qx_calls.proofs.ReadForms.{are_words, line_again, text_in_words}
use Rattle.qx_words.proofs.ReadValues.{is_in_line}
use Rattle.qx_words.proofs.ReadWords.{chosen, is_false}

-- lines

no_newline : (byte : ℕ) → is_in_line byte ≡ true → eqb byte 10 ≡ false
no_newline byte is = grind (arith, nat_tests)

lines_again : (line : List ℕ) (lines : List (List ℕ)) → list_all (list_all is_in_line) (line ∷ lines) ≡ true → lines_of (join_with_byte 10 (line ∷ lines)) ≡ line ∷ lines
lines_again line [] all =
    let parts = and_parts (list_all is_in_line line) true all in
    slice_split_none (λ byte. eqb byte 10) line (none_passes is_in_line (λ byte. eqb byte 10) no_newline line parts.0)
lines_again line (second ∷ lines) all =
    let parts = and_parts (list_all is_in_line line) (list_all (list_all is_in_line) (second ∷ lines)) all in
    slice_split_at (λ byte. eqb byte 10) line 10 (join_with_byte 10 (second ∷ lines)) (none_passes is_in_line (λ byte. eqb byte 10) no_newline line parts.0) refl
    ∙ ap (λ more. line ∷ more) (lines_again second lines parts.1)

in_line : (byte : ℕ) → is_word_byte byte ≡ true → is_in_line byte ≡ true
in_line byte is = (and_parts (not (eqb byte 32)) (not (eqb byte 10)) is).1

word_in_line : (word : List ℕ) → is_word word ≡ true → list_all is_in_line word ≡ true
word_in_line word is = all_weaker is_word_byte is_in_line in_line word (and_parts (not (eqb (length word) 0)) (list_all is_word_byte word) is).1

words_in_line : (words : List (List ℕ)) → list_all is_word words ≡ true → list_all is_in_line (join_with_byte 32 words) ≡ true
words_in_line [] all = refl
words_in_line (word ∷ []) all = word_in_line word (and_parts (is_word word) true all).0
words_in_line (word ∷ second ∷ words) all =
    let parts = and_parts (is_word word) (list_all is_word (second ∷ words)) all in
    all_joined is_in_line word (32 ∷ join_with_byte 32 (second ∷ words)) (word_in_line word parts.0) (words_in_line (second ∷ words) parts.1)

said_in_line : (config : Configuration) (saying : Saying) → IsConfiguration config.users config.workers → is_word saying.name ≡ true → CanBeSaid config.users saying
    → list_all is_in_line (line_text config saying) ≡ true
said_in_line config saying valid name can = words_in_line (words_said config saying) (are_words config saying valid name can)

step_in_line : (config : Configuration) (step : Step) → IsConfiguration config.users config.workers → CanSay config.users step → list_all is_in_line (step_text config step) ≡ true
unfolding step_text
step_in_line config step valid can = said_in_line config (step_said step) valid (name_is_word step) can

steps_in_lines : (config : Configuration) (steps : List Step) → IsConfiguration config.users config.workers → All (CanSay config.users) steps
    → list_all (list_all is_in_line) (map (step_text config) steps) ≡ true
steps_in_lines config [] valid can = refl
steps_in_lines config (step ∷ steps) valid can =
    and_from (list_all is_in_line (step_text config step)) _ (step_in_line config step valid (All-head (CanSay config.users) step steps can))
    (steps_in_lines config steps valid (All-tail (CanSay config.users) step steps can))

user_text : Configuration → List ℕ → List ℕ
user_text config name = line_text config (user_said name)

users_in_lines : (config : Configuration) (names more : List (List ℕ)) → IsConfiguration config.users config.workers → All (λ name. is_user_name name ≡ true) names
    → list_all (list_all is_in_line) more ≡ true → list_all (list_all is_in_line) (map (user_text config) names ++ more) ≡ true
unfolding user_text
users_in_lines config [] more valid good rest = rest
users_in_lines config (name ∷ names) more valid good rest =
    and_from (list_all is_in_line (line_text config (user_said name))) _
    (said_in_line config (user_said name) valid refl (All-head (λ name. is_user_name name ≡ true) name names good, tt))
    (users_in_lines config names more valid (All-tail (λ name. is_user_name name ≡ true) name names good) rest)

setting_text : Configuration → Setting → List ℕ
setting_text config setting = line_text config (setting_said setting)

-- a setting has a line
name_of_setting : (user : User) (name : SettingName) (value : ℕ) → is_word (said_by user name value).name ≡ true
name_of_setting user Ceiling value = refl
name_of_setting user Disconnect value = refl
name_of_setting user (Limit limit) value = refl

can_say_setting : (users : List (List ℕ)) (user : User) (name : SettingName) (value : ℕ) → 1 ≤ user.0 → user.0 ≤ length users → value ≤ greatest name → CanBeSaid users (said_by user name value)
can_say_setting users user Ceiling value some within few = ((some, within), (omega (arith, few), tt))
can_say_setting users user Disconnect value some within few = ((some, within), (omega (arith, few), tt))
can_say_setting users user (Limit limit) value some within few = ((some, within), (tt, (most_fits limit value few, tt)))
  where
    most_fits : (limit : LimitName) (value : ℕ) → value ≤ most_of limit → value ≤ greatest_of_four_bytes
    most_fits Processes value few = omega (arith, few)
    most_fits Connections value few = omega (arith, few)
    most_fits Servers value few = omega (arith, few)
    most_fits Blocks value few = omega (arith, few)
    most_fits Inodes value few = omega (arith, few)
    most_fits File value few = omega (arith, few)
    most_fits Bytes value few = omega (arith, few)
    most_fits Mounts value few = omega (arith, few)
    most_fits Events value few = omega (arith, few)

can_say : (config : Configuration) (setting : Setting) → CanBeSet (length config.users) setting → CanBeSaid config.users (setting_said setting)
can_say config setting can = can_say_setting config.users setting.user setting.name setting.value can.some can.within (in_range setting can.allowed).1

settings_in_lines : (config : Configuration) (settings : List Setting) (more : List (List ℕ)) → IsConfiguration config.users config.workers → All (CanBeSet (length config.users)) settings
    → list_all (list_all is_in_line) more ≡ true → list_all (list_all is_in_line) (map (setting_text config) settings ++ more) ≡ true
unfolding setting_text
settings_in_lines config [] more valid each rest = rest
settings_in_lines config (setting ∷ settings) more valid each rest =
    and_from (list_all is_in_line (line_text config (setting_said setting))) _
    (said_in_line config (setting_said setting) valid (name_of_setting setting.user setting.name setting.value) (can_say config setting (All-head (CanBeSet (length config.users)) setting settings each)))
    (settings_in_lines config settings more valid (All-tail (CanBeSet (length config.users)) setting settings each) rest)

-- a line that is no comment, in words
in_words : (config : Configuration) (r : Reading) (saying : Saying) → is_skipped (line_text config saying) ≡ false → IsConfiguration config.users config.workers → is_word saying.name ≡ true → CanBeSaid config.users saying
    → after_line r (line_text config saying) ≡ after_words r (words_said config saying)
in_words config r saying said valid name can = line_in_words r (line_text config saying) said ∙ ap (after_words r) (text_in_words config saying valid name can)

-- users

naming : List (List ℕ) → List Setting → Reading
naming users settings = record { users = users; settings = settings; workers = None; commands = [] }

or_false : (a b : Bool) → a ≡ false → b ≡ false → (a || b) ≡ false
or_false true b p q = cc
or_false false b p q = q

none_equal : (test : List ℕ → Bool) (names : List (List ℕ)) → ((k : ℕ) → k < length names → test (get_or names k []) ≡ false) → list_any test names ≡ false
none_equal test [] none = refl
none_equal test (name ∷ names) none =
    or_false (test name) (list_any test names) (none 0 (omega arith)) (none_equal test names (λ k below. none (suc k) (omega arith)))

new_user : (done : List (List ℕ)) (name : List ℕ) (rest : List (List ℕ)) (workers : ℕ) → IsConfiguration (done ++ name ∷ rest) workers → is_new_user (naming done []) name ≡ true
unfolding naming
new_user done name rest workers valid =
    let users = done ++ name ∷ rest in
    let within : length done < length users = grind (arith, common_steps) in
    let fresh : list_any (λ other. bytes_eq other name) done ≡ false =
    none_equal (λ other. bytes_eq other name) done (λ k below. is_false _ (λ same.
    valid.different_names k (length done) [] below within
    (get_or_append_left done (name ∷ rest) [] k below ∙ (bytes_eq-Decides (get_or done k []) name).0 same ∙ sym (get_or-append_seam done name rest [])))) in
    let room : ltb (length done) USERS ≡ true = let few = valid.few_users in grind (arith, nat_tests) in
    and_from (true && not (list_any (λ other. bytes_eq other name) done)) (ltb (length done) USERS) (ap not fresh) room

user_taken : (config : Configuration) (done : List (List ℕ)) (name : List ℕ) (rest : List (List ℕ)) (workers : ℕ) → IsConfiguration config.users config.workers
    → IsConfiguration (done ++ name ∷ rest) workers → after_line (naming done []) (user_text config name) ≡ Some (naming (done ++ name ∷ []) [])
unfolding after_words naming user_text
user_taken config done name rest workers configured valid =
    let users = done ++ name ∷ rest in
    let within : length done < length users = grind (arith, common_steps) in
    let good : is_user_name name ≡ true = subst (λ (n : List ℕ). is_user_name n ≡ true) (get_or-append_seam done name rest []) (valid.good_names (length done) [] within) in
    let r = naming done [] in
    in_words config r (user_said name) refl configured refl (good, tt)
    ∙ ap (λ (said : Option (List ℕ)). said >>= with_user r) (line_again user_line config (name, tt) configured (good, tt))
    ∙ chosen (is_new_user r name) (Some (naming (done ++ name ∷ []) [])) None (new_user done name rest workers valid)

step_on : (r next : Reading) (line : List ℕ) (number : ℕ) (lines : List (List ℕ)) → after_line r line ≡ Some next
    → script_from r number (line ∷ lines) ≡ script_from next (number + 1) lines
step_on r next line number lines is = ap (λ (read : Option Reading). elim read [ None ↦ Bad number | Some next ↦ script_from next (number + 1) lines ]) is

users_taken : (config : Configuration) (done rest : List (List ℕ)) (workers number : ℕ) (lines : List (List ℕ)) (good : Script) → IsConfiguration config.users config.workers
    → IsConfiguration (done ++ rest) workers → ((number : ℕ) → script_from (naming (done ++ rest) []) number lines ≡ good)
    → script_from (naming done []) number (map (user_text config) rest ++ lines) ≡ good
users_taken config done [] workers number lines good configured valid more =
    subst (λ (users : List (List ℕ)). script_from (naming users []) number lines ≡ good) (append-nil done) (more number)
users_taken config done (name ∷ rest) workers number lines good configured valid more =
    let same : (done ++ name ∷ []) ++ rest ≡ done ++ name ∷ rest = append_assoc done (name ∷ []) rest in
    step_on (naming done []) (naming (done ++ name ∷ []) []) (user_text config name) number (map (user_text config) rest ++ lines) (user_taken config done name rest workers configured valid)
    ∙ users_taken config (done ++ name ∷ []) rest workers (number + 1) lines good configured
    (subst (λ (users : List (List ℕ)). IsConfiguration users workers) (sym same) valid)
    (subst (λ (users : List (List ℕ)). (number : ℕ) → script_from (naming users []) number lines ≡ good) (sym same) more)

-- settings

-- none of the rest sets what one before it sets
abbrev AreFresh : List Setting → List Setting → Type 0
AreFresh done [] = Unit {0}
AreFresh done (setting ∷ rest) = (list_any (sets_same setting) done ≡ false) × AreFresh (done ++ setting ∷ []) rest

fresh_append : (done first rest : List Setting) → AreFresh done first → AreFresh (done ++ first) rest → AreFresh done (first ++ rest)
fresh_append done [] rest own others = subst (λ (all : List Setting). AreFresh all rest) (append-nil done) others
fresh_append done (setting ∷ first) rest own others =
    (own.0, fresh_append (done ++ setting ∷ []) first rest own.1 (subst (λ (all : List Setting). AreFresh all rest) (sym (append_assoc done (setting ∷ []) first)) others))

any_append : (test : Setting → Bool) (first rest : List Setting) → list_any test first ≡ false → list_any test rest ≡ false → list_any test (first ++ rest) ≡ false
any_append test [] rest none others = others
any_append test (setting ∷ first) rest none others = by (test setting) (list_any test first) none (λ is. any_append test first rest is others)
  where
    by : (b c : Bool) → (b || c) ≡ false → (c ≡ false → list_any test (first ++ rest) ≡ false) → (b || list_any test (first ++ rest)) ≡ false
    by true c is more = is
    by false c is more = more is

-- what is fresh among others is so behind those that set the same of other users
fresh_behind : (done own rest : List Setting) → All (λ setting. list_any (sets_same setting) done ≡ false) rest → AreFresh own rest → AreFresh (done ++ own) rest
fresh_behind done own [] apart fresh = tt
fresh_behind done own (setting ∷ rest) apart fresh =
    let P : Setting → Type 0 = λ setting. list_any (sets_same setting) done ≡ false in (
      any_append (sets_same setting) done own (All-head P setting rest apart) fresh.0,
      subst (λ (all : List Setting). AreFresh all rest) (sym (append_assoc done own (setting ∷ []))) (fresh_behind done (own ++ setting ∷ []) rest (All-tail P setting rest apart) fresh.1),
    )

own_fresh : (user : ℕ) (limits : UserLimits) → AreFresh [] (settings_of user limits)
own_fresh user limits = (refl, (refl, (refl, (refl, (refl, (refl, (refl, (refl, (refl, (refl, (refl, tt)))))))))))

-- those of users before that one set nothing of it
abbrev AreBefore : ℕ → List Setting → Type 0
AreBefore user = All (λ setting. setting.user.0 < user)

none_before : (user : ℕ) (done : List Setting) (setting : Setting) → AreBefore user done → setting.user.0 ≡ user → list_any (sets_same setting) done ≡ false
none_before user [] setting before of = refl
none_before user (other ∷ done) setting before of =
    let earlier = All-head (λ (s : Setting). s.user.0 < user) other done before in
    let apart : eqb setting.user.0 other.user.0 ≡ false = grind (arith, nat_tests) in
    or_false (eqb (name_number setting.name) (name_number other.name) && eqb setting.user.0 other.user.0) (list_any (sets_same setting) done)
    (and_false (eqb (name_number setting.name) (name_number other.name)) (eqb setting.user.0 other.user.0) apart)
    (none_before user done setting (All-tail (λ (s : Setting). s.user.0 < user) other done before) of)
  where
    and_false : (a b : Bool) → b ≡ false → (a && b) ≡ false
    and_false true b is = is
    and_false false b is = refl

each_own : (P : Setting → Type 0) (user : ℕ) (limits : UserLimits) → ((name : SettingName) (value : ℕ) → P (setting_of user name value)) → All P (settings_of user limits)
each_own P user limits each =
    All-from_recursion P (settings_of user limits) (each Ceiling limits.ceiling, (each Disconnect limits.disconnect, (each (Limit Processes) limits.processes, (each (Limit Connections) limits.connections, (each (Limit Servers) limits.servers, (each (Limit Blocks) limits.blocks, (each (Limit Inodes) limits.inodes, (each (Limit File) limits.file, (each (Limit Bytes) limits.bytes, (each (Limit Mounts) limits.mounts, (each (Limit Events) limits.events, tt)))))))))))

all_fresh : (user : ℕ) (all : List UserLimits) (done : List Setting) → AreBefore user done → AreFresh done (settings_from user all)
all_fresh user [] done before = tt
all_fresh user (limits ∷ others) done before =
    let P : Setting → Type 0 = λ setting. setting.user.0 < suc user in
    let own = fresh_behind done [] (settings_of user limits) (each_own (λ setting. list_any (sets_same setting) done ≡ false) user limits (λ name value. none_before user done (setting_of user name value) before refl)) (own_fresh user limits) in
    fresh_append done (settings_of user limits) (settings_from (suc user) others) (subst (λ (all : List Setting). AreFresh all (settings_of user limits)) (append-nil done) own)
    (all_fresh (suc user) others (done ++ settings_of user limits)
    (All-append P done (settings_of user limits) (λ k d below. let less = before k d below in omega (arith, less)) (each_own P user limits (λ name value. omega arith))))

-- each of them can be set
all_can : (config : Configuration) (user : ℕ) (all : List UserLimits) → 1 ≤ user → user + length all ≤ length config.users + 1 → All AreLimits all → All (CanBeSet (length config.users)) (settings_from user all)
all_can config user [] some few each = All-nil (CanBeSet (length config.users))
all_can config user (limits ∷ others) some few each =
    let P = CanBeSet (length config.users) in
    let own = All-head AreLimits limits others each in
    let can : (name : SettingName) (value : ℕ) → (1 ≤ value) × (value ≤ greatest name) → P (setting_of user name value) = λ name value range.
    record { some = some; within = omega (arith, few); allowed = and_from (leb 1 value) (leb value (greatest name)) (let low = range.0 in grind (arith, nat_tests)) (let high = range.1 in grind (arith, nat_tests)) } in
    All-append P (settings_of user limits) (settings_from (suc user) others)
    (All-from_recursion P (settings_of user limits) (can Ceiling limits.ceiling own.ceiling, (can Disconnect limits.disconnect own.disconnect, (can (Limit Processes) limits.processes own.processes, (can (Limit Connections) limits.connections own.connections, (can (Limit Servers) limits.servers own.servers, (can (Limit Blocks) limits.blocks own.blocks, (can (Limit Inodes) limits.inodes own.inodes, (can (Limit File) limits.file own.file, (can (Limit Bytes) limits.bytes own.bytes, (can (Limit Mounts) limits.mounts own.mounts, (can (Limit Events) limits.events own.events, tt))))))))))))
    (all_can config (suc user) others (omega arith) (omega (arith, few)) (All-tail AreLimits limits others each))

-- a line of theirs is read as what it sets
setting_again : (config : Configuration) (done : List Setting) (user : User) (name : SettingName) (value : ℕ) → let setting : Setting = record { user = user; name = name; value = value } in IsConfiguration config.users config.workers
    → CanBeSaid config.users (said_by user name value) → after_line (naming config.users done) (setting_text config setting) ≡ with_setting (naming config.users done) setting
unfolding after_words naming setting_text
setting_again config done user Ceiling value valid says =
    in_words config (naming config.users done) (said_by user Ceiling value) refl valid refl says
    ∙ ap (λ (said : Option Setting). said >>= with_setting (naming config.users done)) (line_again ceiling_line config (user, (value, tt)) valid says)
setting_again config done user Disconnect value valid says =
    in_words config (naming config.users done) (said_by user Disconnect value) refl valid refl says
    ∙ ap (λ (said : Option Setting). said >>= with_setting (naming config.users done)) (line_again disconnect_line config (user, (value, tt)) valid says)
setting_again config done user (Limit limit) value valid says =
    in_words config (naming config.users done) (said_by user (Limit limit) value) refl valid refl says
    ∙ ap (λ (said : Option Setting). said >>= with_setting (naming config.users done)) (line_again limit_line config (user, (limit, (value, tt))) valid says)

-- and is taken
setting_taken : (config : Configuration) (done : List Setting) (setting : Setting) → IsConfiguration config.users config.workers → CanBeSet (length config.users) setting
    → list_any (sets_same setting) done ≡ false → after_line (naming config.users done) (setting_text config setting) ≡ Some (naming config.users (done ++ setting ∷ []))
unfolding naming
setting_taken config done setting valid can fresh =
    setting_again config done setting.user setting.name setting.value valid (can_say config setting can)
    ∙ chosen (not (list_any (sets_same setting) done) && is_allowed setting) (Some (naming config.users (done ++ setting ∷ []))) None (and_from (not (list_any (sets_same setting) done)) (is_allowed setting) (ap not fresh) can.allowed)

settings_taken : (config : Configuration) (done rest : List Setting) (number : ℕ) (lines : List (List ℕ)) (good : Script) → IsConfiguration config.users config.workers
    → All (CanBeSet (length config.users)) rest → AreFresh done rest → ((number : ℕ) → script_from (naming config.users (done ++ rest)) number lines ≡ good)
    → script_from (naming config.users done) number (map (setting_text config) rest ++ lines) ≡ good
settings_taken config done [] number lines good valid each fresh more =
    subst (λ (all : List Setting). script_from (naming config.users all) number lines ≡ good) (append-nil done) (more number)
settings_taken config done (setting ∷ rest) number lines good valid each fresh more =
    let P = CanBeSet (length config.users) in
    step_on (naming config.users done) (naming config.users (done ++ setting ∷ [])) (setting_text config setting) number (map (setting_text config) rest ++ lines)
    (setting_taken config done setting valid (All-head P setting rest each) fresh.0)
    ∙ settings_taken config (done ++ setting ∷ []) rest (number + 1) lines good valid (All-tail P setting rest each) fresh.1
    (subst (λ (all : List Setting). (number : ℕ) → script_from (naming config.users all) number lines ≡ good) (sym (append_assoc done (setting ∷ []) rest)) more)

-- what they set: a user's limits at the user's place, and then those of all

at_place : {A : Type 0} (front : List A) (x y : A) (rest : List A) → slice_set (front ++ x ∷ rest) (length front) y ≡ front ++ y ∷ rest
at_place [] x y rest = refl
at_place (z ∷ front) x y rest = ap (λ more. z ∷ more) (at_place front x y rest)

found_at : (front : List UserLimits) (x : UserLimits) (rest : List UserLimits) → get_or (front ++ x ∷ rest) (length front) default_limits ≡ x
found_at [] x rest = refl
found_at (z ∷ front) x rest = found_at front x rest

abbrev holding : Configuration → List UserLimits → Configuration
holding config all = record config { limits = all }

set_here : (config : Configuration) (front : List UserLimits) (x : UserLimits) (rest : List UserLimits) (name : SettingName) (value : ℕ) → AreLimits x
    → set_by (setting_of (suc (length front)) name value) (holding config (front ++ x ∷ rest)) ≡ holding config (front ++ set_to name value x ∷ rest)
unfolding limits_of
set_here config front x rest name value within =
    let all = front ++ x ∷ rest in
    let place : suc (length front) - 1 ≡ length front = omega arith in
    let same : in_ranges (get_or all (length front) default_limits) ≡ x = ap in_ranges (found_at front x rest) ∙ sym (in_ranges_same x within) in
    ap (λ k. holding config (slice_set all k (set_to name value (in_ranges (get_or all (length front) default_limits))))) place
    ∙ (ap (λ limits. holding config (slice_set all (length front) (set_to name value limits))) same
    ∙ ap (holding config) (at_place front x (set_to name value x) rest))

-- one after the other, of one user
pub record Valued : Type 0 where
  pub name : SettingName
  pub value : ℕ

abbrev own_of : ℕ → List Valued → List Setting
own_of user values = map (λ (v : Valued). setting_of user v.name v.value) values

abbrev set_in_turn : List Valued → UserLimits → UserLimits
set_in_turn [] limits = limits
set_in_turn (v ∷ values) limits = set_in_turn values (set_to v.name v.value limits)

abbrev IsRanged : Valued → Type 0
IsRanged v = (1 ≤ v.value) × (v.value ≤ greatest v.name)

own_set : (config : Configuration) (front : List UserLimits) (x : UserLimits) (rest : List UserLimits) (values : List Valued) → AreLimits x → AllByRecursion IsRanged values
    → configured (own_of (suc (length front)) values) (holding config (front ++ x ∷ rest)) ≡ holding config (front ++ set_in_turn values x ∷ rest)
own_set config front x rest [] within each = refl
own_set config front x rest (v ∷ values) within each =
    ap (configured (own_of (suc (length front)) values)) (set_here config front x rest v.name v.value within)
    ∙ own_set config front (set_to v.name v.value x) rest values (set_within v.name v.value x within each.0.0 each.0.1) each.1

abbrev values_of : UserLimits → List Valued
values_of limits =
    record { name = Ceiling; value = limits.ceiling }
    ∷ record { name = Disconnect; value = limits.disconnect }
    ∷ record { name = Limit Processes; value = limits.processes }
    ∷ record { name = Limit Connections; value = limits.connections }
    ∷ record { name = Limit Servers; value = limits.servers }
    ∷ record { name = Limit Blocks; value = limits.blocks }
    ∷ record { name = Limit Inodes; value = limits.inodes }
    ∷ record { name = Limit File; value = limits.file }
    ∷ record { name = Limit Bytes; value = limits.bytes }
    ∷ record { name = Limit Mounts; value = limits.mounts }
    ∷ record { name = Limit Events; value = limits.events }
    ∷ []

all_set : (config : Configuration) (front rest : List UserLimits) → All AreLimits rest
    → configured (settings_from (suc (length front)) rest) (holding config (front ++ replicate (length rest) default_limits)) ≡ holding config (front ++ rest)
all_set config front [] each = refl
all_set config front (limits ∷ rest) each =
    let own = All-head AreLimits limits rest each in
    let user = suc (length front) in
    let tail = replicate (length rest) default_limits in
    let ranged : AllByRecursion IsRanged (values_of limits) = (own.ceiling, (own.disconnect, (own.processes, (own.connections, (own.servers, (own.blocks, (own.inodes, (own.file, (own.bytes, (own.mounts, (own.events, tt))))))))))) in
    let longer : suc (length (front ++ limits ∷ [])) ≡ suc user = omega (arith, length_push front limits) in
    configured_more (settings_of user limits) (settings_from (suc user) rest) (holding config (front ++ default_limits ∷ tail))
    ∙ ap (configured (settings_from (suc user) rest)) (own_set config front default_limits tail (values_of limits) default_within ranged)
    ∙ ap (λ all. configured (settings_from (suc user) rest) (holding config all)) (sym (append_assoc front (limits ∷ []) tail))
    ∙ subst (λ number. configured (settings_from number rest) (holding config ((front ++ limits ∷ []) ++ tail)) ≡ holding config ((front ++ limits ∷ []) ++ rest)) longer (all_set config (front ++ limits ∷ []) rest (All-tail AreLimits limits rest each))
    ∙ ap (holding config) (append_assoc front (limits ∷ []) rest)

-- workers

serving : Configuration → List Command → Reading
serving config commands = record { users = config.users; settings = settings_from 1 config.limits; workers = Some config.workers; commands = commands }

workers_text : Configuration → List ℕ
workers_text config = line_text config (workers_said config.workers)

workers_taken : (config : Configuration) → IsConfiguration config.users config.workers → after_line (naming config.users (settings_from 1 config.limits)) (workers_text config) ≡ Some (serving config [])
unfolding after_words naming serving workers_text
workers_taken config valid =
    let r = naming config.users (settings_from 1 config.limits) in
    let workers = config.workers in
    let low : leb 1 workers ≡ true = let some = valid.some_worker in grind (arith, nat_tests) in
    let high : leb workers WORKERS ≡ true = let few = valid.few_workers in grind (arith, nat_tests) in
    let can : workers ≤ greatest_byte = omega (arith, valid.few_workers) in
    in_words config r (workers_said workers) refl valid refl (can, tt)
    ∙ ap (λ (said : Option ℕ). said >>= with_workers r) (line_again workers_line config (workers, tt) valid (can, tt))
    ∙ chosen (leb 1 workers && leb workers WORKERS) (Some (serving config [])) None (and_from (leb 1 workers) (leb workers WORKERS) low high)

-- steps

steps_taken : (config : Configuration) (commands : List Command) (steps : List Step) (number : ℕ) → IsConfiguration config.users config.workers → HasLimits config → All (CanSay config.users) steps
    → script_from (serving config commands) number (map (step_text config) steps) ≡ Good config (commands ++ map Take steps)
unfolding serving
steps_taken config commands [] number valid limits can =
    ap (λ count. Good (configured (settings_from 1 config.limits) (holding config (replicate count default_limits))) commands) (sym limits.each_user)
    ∙ ap (λ now. Good now commands) (all_set config [] config.limits limits.in_range)
    ∙ ap (Good config) (sym (append-nil commands))
steps_taken config commands (step ∷ steps) number valid limits can =
    let r = serving config commands in
    step_on r (with_command r (Take step)) (step_text config step) number (map (step_text config) steps)
    (read_back config r step valid refl (All-head (CanSay config.users) step steps can))
    ∙ steps_taken config (commands ++ Take step ∷ []) steps (number + 1) valid limits (All-tail (CanSay config.users) step steps can)
    ∙ ap (Good config) (append_assoc commands (Take step ∷ []) (map Take steps))

lines_of_replay : (config : Configuration) (steps : List Step) → IsConfiguration config.users config.workers → HasLimits config → All (CanSay config.users) steps
    → lines_of (replay_text config steps) ≡ replay_lines config steps
unfolding replay_text user_text workers_text setting_text
lines_of_replay config steps valid limits can =
    let named = said_in_line config (workers_said config.workers) valid refl (omega (arith, valid.few_workers), tt) in
    let rest = and_from (list_all is_in_line (workers_text config)) _ named (steps_in_lines config steps valid can) in
    let after = workers_text config ∷ map (step_text config) steps in
    let settings = settings_from 1 config.limits in
    let settings_too = settings_in_lines config settings after valid (all_can config 1 config.limits (omega arith) (omega (arith, limits.each_user)) limits.in_range) rest in
    whole (replay_lines config steps) (users_in_lines config config.users (map (setting_text config) settings ++ after) valid valid.good_names settings_too)
    (not_empty (map (user_text config) config.users) _ (not_empty (map (setting_text config) settings) after (omega arith)))
  where
    whole : (lines : List (List ℕ)) → list_all (list_all is_in_line) lines ≡ true → 0 < length lines → lines_of (join_with_byte 10 lines) ≡ lines
    whole [] all some = absurd (omega arith)
    whole (line ∷ lines) all some = lines_again line lines all

    not_empty : (first more : List (List ℕ)) → 0 < length more → 0 < length (first ++ more)
    not_empty [] more some = some
    not_empty (line ∷ first) more some = omega arith

pub replays : (config : Configuration) (steps : List Step) → IsConfiguration config.users config.workers → HasLimits config → All (CanSay config.users) steps
    → script (replay_text config steps) ≡ Good config (map Take steps)
unfolding script naming user_text workers_text setting_text
replays config steps valid limits can =
    let after = workers_text config ∷ map (step_text config) steps in
    let good = Good config (map Take steps) in
    let settings = settings_from 1 config.limits in
    ap (script_from unread 1) (lines_of_replay config steps valid limits can)
    ∙ users_taken config [] config.users config.workers 1 (map (setting_text config) settings ++ after) good valid valid
    (λ number.
    settings_taken config [] settings number after good valid (all_can config 1 config.limits (omega arith) (omega (arith, limits.each_user)) limits.in_range) (all_fresh 1 config.limits [] (All-nil (λ (setting : Setting). setting.user.0 < 1)))
    (λ number.
    step_on (naming config.users settings) (serving config []) (workers_text config) number (map (step_text config) steps)
    (workers_taken config valid)
    ∙ steps_taken config [] steps (number + 1) valid limits can))
