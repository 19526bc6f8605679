-- What the managers keep for the users at boot.
use Rattle.std.specs.Prelude.{ℕ, ◌+◌, List, [], ◌∷◌, Option, Some}
use Rattle.qx_types.specs.Configuration.{Configuration}
use Rattle.qx_machine.specs.Resources.{Resources}
use Rattle.qx_machine.specs.Users.{boot_part}
use Rattle.qx_resources.specs.State.{Kept}

-- the machine's resources, but what stands in tables of all users
abbrev pub kept_of : Resources → Kept
kept_of r = record { user = r.user; inodes = r.inodes; names = r.names; files = r.files; limits = r.limits }

-- for the users from this one on
abbrev pub boot_resources : Configuration → ℕ → List (List ℕ) → List (Option Kept)
boot_resources config user [] = []
boot_resources config user (name ∷ names) = Some (kept_of (boot_part config user).resources) ∷ boot_resources config (user + 1) names
