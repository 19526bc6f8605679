-- The machine's world, put together from what the channel has and what the managers keep.
use Rattle.std.specs.Prelude.{◌≡◌, ◌<◌, ℕ, List, [], ◌∷◌, Option, Some, None, is_some, length, map, option_map}
use Rattle.qx_types.specs.Configuration.{Configuration}
use Rattle.qx_types.specs.declared.step.Step.{Step}
use Rattle.qx_isolation.specs.declared.rows.Held.{Held}
use Rattle.qx_machine.specs.Machine.{World}
use Rattle.qx_machine.specs.Runs.{run}
use Rattle.qx_machine.specs.Parts.{Part}
use Rattle.qx_machine.specs.Resources.{Resources}
use Rattle.qx_machine.specs.Processes.{Process}
use Rattle.qx_isolation.specs.Rows.{row_at}
use Rattle.qx_resources.specs.State.{told, Kept}
use Rattle.qx_chan.specs.Channel.{Channel, lists}

-- a user's rows: the processes and the resources; none where there is no such user
abbrev pub part_of : Option (List (Option Process)) → Option Resources → Option Part
part_of (Some processes) (Some resources) = Some (record { processes = processes; resources = resources })
part_of _ _ = None

-- the rows of all users
abbrev pub parts_of : List (Option (List (Option Process))) → List (Option Resources) → List (Option Part)
parts_of (processes ∷ users) (resources ∷ rows) = part_of processes resources ∷ parts_of users rows
parts_of _ _ = []

-- the resources of all users, with the mounts, the pipes and the events that the channel has
abbrev pub told_all : Channel → List (Option Kept) → List (Option Resources)
told_all channel resources = map (option_map (λ kept. told kept (lists channel))) resources

-- by the resources as the machine has them
abbrev pub told_world : Configuration → Channel → List (Option Resources) → List (Option Held) → World
told_world config channel resources hands = record { config = config; parts = parts_of channel.users resources; lines = channel.lines; hands = hands }

abbrev pub world_of : Configuration → Channel → List (Option Kept) → List (Option Held) → World
world_of config channel resources hands = told_world config channel (told_all channel resources) hands

-- who has processes has resources
abbrev pub SameUsers : {A B : Type 0} → List (Option A) → List (Option B) → Type 0
SameUsers users resources = (user : ℕ) → is_some (row_at users user) ≡ is_some (row_at resources user)

-- resources are those of the channel's users: who has processes has resources, that user's own, and a place for mounts
pub record AreResourcesOf (channel : Channel) (resources : List (Option Kept)) : Type 0 where
  pub same : SameUsers channel.users resources
  pub own : (user : ℕ) (kept : Kept) → row_at resources user ≡ Some kept → kept.user ≡ user
  pub mounts : (user : ℕ) (kept : Kept) → row_at resources user ≡ Some kept → user < length channel.mounts

-- channel and resources are of the same users, and make a world to which a run of these steps comes
pub record IsSound (config : Configuration) (channel : Channel) (resources : List (Option Kept)) (hands : List (Option Held)) : Type 0 where
  pub users : AreResourcesOf channel resources
  pub steps : List Step
  pub reached : world_of config channel resources hands ≡ (run config steps).world
