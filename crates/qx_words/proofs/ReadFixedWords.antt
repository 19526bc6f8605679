-- What is printed of fixed words is a word, and is read back.
use Rattle.std.proofs.Common.{◌≡◌, ℕ, ◌≤◌, Bool, true, false, List, [], ◌∷◌, map, cond, Option, Some, refl, sym, ap, ◌∙◌, arith, zero, suc}
use Rattle.std.specs.Prelude.{codes, option_map}
use Rattle.std.specs.List.{find}
use Rattle.std.specs.Str.{bytes_eq}
use Rattle.std.proofs.lemmas.Bool.Decides.{nat_tests}
use Rattle.qx_types.specs.declared.fields.NotifyAction.{NotifyAction}
use Rattle.qx_types.specs.declared.fields.NotifyAction.TheVariants.{Poll, PollArm, TranArm}
use Rattle.qx_types.specs.declared.fields.Whence.{Whence}
use Rattle.qx_types.specs.declared.fields.Whence.TheVariants.{Set, Current, End}
use Rattle.qx_types.specs.declared.flags.Conds.{Conds}
use Rattle.qx_types.specs.declared.user_limits.LimitName.{LimitName}
use Rattle.qx_types.specs.declared.user_limits.LimitName.TheVariants.{Processes, Connections, Servers, Blocks, Inodes, File, Bytes, Mounts, Events}
use Rattle.qx_devices.specs.Devices.{device_named, device_word, devices}
use Rattle.qx_devices.proofs.Words.{named_again, own_word}
use Rattle.qx_types.specs.declared.names.Manager.{Manager}
use Rattle.qx_types.specs.declared.names.Manager.TheVariants.{Ram, Pipe, Device}
use Rattle.qx_words.specs.FixedWords.{action_of, action_text, conditions_named, conditions_of, conditions_text, limit_of, limit_text, manager_of, manager_text, whence_of, whence_text}
use Rattle.qx_words.specs.Kinds.{is_word}

-- it is one word, which is read as the value
abbrev pub IsWordOf : {A : Type 0} → (List ℕ → Option A) → A → List ℕ → Type 0
IsWordOf read value word = (is_word word ≡ true) × (read word ≡ Some value)

-- the first of some values that are made of others
one_more : {A B : Type 0} (make : A → B) (passes : Bool) (value : A) (later : Option B) (rest : Option A) → later ≡ option_map make rest → cond passes (Some (make value)) later ≡ option_map make (cond passes (Some value) rest)
one_more make true value later rest is = refl
one_more make false value later rest is = is

found_of : {A B : Type 0} (make : A → B) (p : B → Bool) (values : List A) → find p (map make values) ≡ option_map make (find (λ value. p (make value)) values)
found_of make p [] = refl
found_of make p (value ∷ values) = one_more make (p (make value)) value _ _ (found_of make p values)

-- a word is a device's where it is neither of the two other managers'
pub manager_at_word : (word : List ℕ) → bytes_eq word (codes "ram") ≡ false → bytes_eq word (codes "pipe") ≡ false → manager_of word ≡ option_map Device (device_named word)
unfolding manager_of device_named
manager_at_word word not_ram not_pipe = rw (not_ram, not_pipe) (found_of Device (λ manager. bytes_eq word (manager_text manager)) devices)

pub manager_word : (manager : Manager) → IsWordOf manager_of manager (manager_text manager)
unfolding manager_of
manager_word Ram = (refl, refl)
manager_word Pipe = (refl, refl)
manager_word (Device device) =
    let own = own_word device in
    (own.0, manager_at_word (device_word device) own.1 own.2 ∙ ap (option_map Device) (named_again device))

pub whence_word : (whence : Whence) → IsWordOf whence_of whence (whence_text whence)
unfolding whence_of
whence_word Set = (refl, refl)
whence_word Current = (refl, refl)
whence_word End = (refl, refl)

pub action_word : (action : NotifyAction) → IsWordOf action_of action (action_text action)
unfolding action_of
action_word Poll = (refl, refl)
action_word PollArm = (refl, refl)
action_word TranArm = (refl, refl)

pub limit_word : (limit : LimitName) → IsWordOf limit_of limit (limit_text limit)
unfolding limit_of
limit_word Processes = (refl, refl)
limit_word Connections = (refl, refl)
limit_word Servers = (refl, refl)
limit_word Blocks = (refl, refl)
limit_word Inodes = (refl, refl)
limit_word File = (refl, refl)
limit_word Bytes = (refl, refl)
limit_word Mounts = (refl, refl)
limit_word Events = (refl, refl)

bits_word : (bits : ℕ) → 1 ≤ bits → bits ≤ 3 → IsWordOf conditions_of (conditions_named bits) (conditions_text (conditions_named bits))
unfolding conditions_of
bits_word zero some few = absurd (omega arith)
bits_word (suc zero) some few = (refl, refl)
bits_word (suc (suc zero)) some few = (refl, refl)
bits_word (suc (suc (suc zero))) some few = (refl, refl)
bits_word (suc (suc (suc (suc more)))) some few = absurd (omega arith)

pub conditions_word : (value : Conds) → 1 ≤ value.0 → value.0 ≤ 3 → IsWordOf conditions_of value (conditions_text value)
conditions_word value some few = bits_word value.0 some few

pub conditions_within : (word : List ℕ) (value : Conds) → conditions_of word ≡ Some value → (1 ≤ value.0) × (value.0 ≤ 3)
unfolding conditions_of
conditions_within word value is = grind (arith, nat_tests)
