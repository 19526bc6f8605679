-- What a worker performs, and which processes are freed at the end of a step.
use Rattle.std.specs.Prelude.{◌≡◌, ℕ, ◌==◌, ◌&&◌, Bool, false, List, Option, Some, None, slice_set}
use Rattle.qx_types.specs.Configuration.{Configuration}
use Rattle.qx_types.specs.declared.names.Proc.{Proc}
use Rattle.qx_isolation.specs.declared.rows.Held.{Held}
use Rattle.qx_isolation.specs.declared.rows.OwnItem.{OwnItem}
use Rattle.qx_isolation.specs.Rows.{row_at, with_row}
use Rattle.qx_machine.specs.Settling.{process_of_item, processes_left, row_left}
use Rattle.qx_machine.specs.Users.{serve}
use Rattle.qx_resources.specs.State.{Kept}
use Rattle.qx_chan.specs.Channel.{Channel, channel_pipes}
use Rattle.qx_chan.specs.Serving.{Serves, settled}

-- ---- an item is done

-- by the resources of its user
abbrev pub Performs : Configuration → Channel → Channel → Kept → Kept → Held → ℕ → Type 0
Performs config c d k l held moment = (items : List OwnItem) → Serves c d k l (λ part. settled part (serve config held.user.0 items part held.item moment))

-- where the user has resources
abbrev pub PerformsFor : Configuration → Channel → Channel → List (Option Kept) → List (Option Kept) → Held → ℕ → Option Kept → Type 0
PerformsFor config c d ks ls held moment None = (d ≡ c) × (ls ≡ ks)
PerformsFor config c d ks ls held moment (Some k) = (l : Kept) × ((ls ≡ slice_set ks held.user.0 (Some l)) × Performs config c d k l held moment)

-- ---- processes that have ended are freed

-- an item of a process is in a hand
abbrev pub holds_of : ℕ → ℕ → Option Held → Bool
holds_of user number None = false
holds_of user number (Some held) = (held.user.0 == user) && (process_of_item held.item == number)

-- the processes of a user that have ended are freed, where workers hold these items of the user
abbrev pub with_left : Channel → List OwnItem → ℕ → Channel
with_left c held user = record c { users = with_row c.users user (processes_left held (channel_pipes c user) 0) }

-- one is freed, if it has ended
abbrev pub with_one_left : Channel → List OwnItem → Proc → Channel
with_one_left c held proc = record c { users = with_row c.users proc.user.0 (λ processes. slice_set processes proc.num (row_left held (channel_pipes c proc.user.0) proc.num (row_at processes proc.num))) }
