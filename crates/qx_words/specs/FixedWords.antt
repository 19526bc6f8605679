-- Kinds of a few fixed words, each of which names one value: the word of each value, and all values in their order.
use Rattle.std.specs.Prelude.{ℕ, ◌==◌, if◌then◌else◌, List, [], ◌∷◌, Option, codes}
use Rattle.std.specs.List.{find}
use Rattle.std.specs.Str.{bytes_eq}
use Rattle.qx_devices.specs.Devices.{device_word}
use Rattle.qx_types.specs.Managers.{managers}
use Rattle.qx_types.specs.declared.fields.NotifyAction.{NotifyAction}
use Rattle.qx_types.specs.declared.fields.NotifyAction.TheVariants.{Poll, PollArm, TranArm}
use Rattle.qx_types.specs.declared.fields.Whence.{Whence}
use Rattle.qx_types.specs.declared.fields.Whence.TheVariants.{Set, Current, End}
use Rattle.qx_types.specs.declared.flags.Conds.{Conds}
use Rattle.qx_types.specs.declared.user_limits.LimitName.{LimitName}
use Rattle.qx_types.specs.declared.user_limits.LimitName.TheVariants.{Processes, Connections, Servers, Blocks, Inodes, File, Bytes, Mounts, Events}
use Rattle.qx_types.specs.declared.names.Manager.{Manager}
use Rattle.qx_types.specs.declared.names.Manager.TheVariants.{Ram, Pipe, Device}

-- the first of the values whose word it is
abbrev pub value_with : {A : Type 0} → (A → List ℕ) → List A → List ℕ → Option A
value_with text values word = find (λ value. bytes_eq word (text value)) values

abbrev pub manager_text : Manager → List ℕ
manager_text Ram = codes "ram"
manager_text Pipe = codes "pipe"
manager_text (Device device) = device_word device

unfoldable pub manager_of : List ℕ → Option Manager
manager_of word = value_with manager_text managers word

abbrev pub whence_text : Whence → List ℕ
whence_text Set = codes "set"
whence_text Current = codes "cur"
whence_text End = codes "end"

unfoldable pub whence_of : List ℕ → Option Whence
whence_of word = value_with whence_text (Set ∷ Current ∷ End ∷ []) word

abbrev pub action_text : NotifyAction → List ℕ
action_text Poll = codes "poll"
action_text PollArm = codes "pollarm"
action_text TranArm = codes "tranarm"

unfoldable pub action_of : List ℕ → Option NotifyAction
action_of word = value_with action_text (Poll ∷ PollArm ∷ TranArm ∷ []) word

abbrev pub limit_text : LimitName → List ℕ
limit_text Processes = codes "processes"
limit_text Connections = codes "connections"
limit_text Servers = codes "servers"
limit_text Blocks = codes "blocks"
limit_text Inodes = codes "inodes"
limit_text File = codes "file"
limit_text Bytes = codes "bytes"
limit_text Mounts = codes "mounts"
limit_text Events = codes "events"

unfoldable pub limit_of : List ℕ → Option LimitName
limit_of word = value_with limit_text (Processes ∷ Connections ∷ Servers ∷ Blocks ∷ Inodes ∷ File ∷ Bytes ∷ Mounts ∷ Events ∷ []) word

-- input, output or both
abbrev pub conditions_text : Conds → List ℕ
conditions_text conditions_named = if conditions_named.0 == 1 then codes "i" else if conditions_named.0 == 2 then codes "o" else codes "io"

abbrev pub conditions_named : ℕ → Conds
conditions_named bits = record { 0 = bits }

unfoldable pub conditions_of : List ℕ → Option Conds
conditions_of word = value_with conditions_text (conditions_named 1 ∷ conditions_named 2 ∷ conditions_named 3 ∷ []) word
