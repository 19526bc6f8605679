-- What the managers keep for a user, and how it stands together with what all users share, in which calls and events wait.
use Rattle.std.specs.Prelude.{ℕ, ◌≡◌, ◌<◌, List, length}
use Rattle.qx_types.specs.Configuration.{Configuration}
use Rattle.qx_types.specs.UserLimits.{UserLimits}
use Rattle.qx_types.specs.declared.outcome.Answer.{Answer}
use Rattle.qx_paths.specs.Mounts.{all_boot_mounts, mounts_of}
use Rattle.qx_machine.specs.declared.rows.WaitingCall.{WaitingCall}
use Rattle.qx_machine.specs.Attributes.{top_inode}
use Rattle.qx_machine.specs.Files.{Files}
use Rattle.qx_machine.specs.Inodes.{Inodes}
use Rattle.qx_machine.specs.Names.{Names}
use Rattle.qx_machine.specs.Resources.{Resources}
use Rattle.qx_notify.specs.Events.{events_of, nothing_armed, with_events}
use Rattle.qx_resmgr.specs.declared.state.State.{Ghosts}
use Rattle.qx_resources.specs.declared.tables.Tables.{Tables}
use Rattle.qx_shared.specs.Shared.{nothing_shared, pipes_of, with_pipes}

-- the machine's resources, but what stands in tables of all users: the mounts, the pipes and the events
pub record Kept : Type 0 where
  pub user : ℕ
  pub inodes : Inodes
  pub names : Names
  pub files : Files
  pub limits : UserLimits

-- at boot: nothing waits, and each user has the top
abbrev pub boot_tables : Configuration → Tables
boot_tables config = record { shared = nothing_shared (length config.users); events = nothing_armed (length config.users); mounts = all_boot_mounts config top_inode }

-- a user's resources, with the mounts, the pipes and the events that the user has in the tables of all users
abbrev pub told : Kept → Tables → Resources
told k w = record { user = k.user; mounts = mounts_of w.mounts k.user; inodes = k.inodes; names = k.names; files = k.files; pipes = pipes_of w.shared k.user; events = events_of w.events k.user; limits = k.limits }

-- the user has a place in the tables
pub record HasUser (k : Kept) (w : Tables) : Type 0 where
  pub pipes : k.user < length w.shared.pipes
  pub events : k.user < length w.events.events

-- the tables, where a user's resources are these and these answers were given; the mounts are as they were
abbrev pub shared : Kept → Tables → Resources → List (WaitingCall × Answer) → Tables
shared k w resources answers = record { shared = with_pipes w.shared k.user resources.pipes answers; events = with_events w.events k.user resources.events; mounts = w.mounts }

abbrev pub SameUser : Kept → Kept → Type 0
SameUser k l = l.user ≡ k.user

-- how the managers' tables of functions see the two
abbrev pub state : Ghosts Kept Tables Resources
state = record { told = told; shared = shared; fits = HasUser; same = SameUser }
