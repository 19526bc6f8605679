-- What a user's mounts and their roots are at boot, and once a manager is attached.
use Rattle.std.specs.Prelude.{ℕ, List, [], ◌∷◌, Some, None, Result, Ok}
use Rattle.std.specs.FinMap.{empty}
use Rattle.qx_base.specs.declared.errno.Errno.{Errno}
use Rattle.qx_base.specs.declared.errno.Errno.TheVariants.{EACCES}
use Rattle.qx_types.specs.declared.names.Manager.{Manager}
use Rattle.qx_paths.specs.Mounts.{boot_mounts, mount_fault, mounted}
use Rattle.qx_paths.specs.Paths.{read_path, unless}
use Rattle.qx_paths.specs.Prefixes.{MountPoint, is_under}
use Rattle.qx_machine.specs.Attributes.{root_attribute, top_inode}
use Rattle.qx_machine.specs.Events.{no_events}
use Rattle.qx_machine.specs.Files.{no_files}
use Rattle.qx_machine.specs.Inodes.{inode_number, no_inodes}
use Rattle.qx_isolation.specs.Judgements.{◌>>=◌, need}
use Rattle.qx_types.specs.UserLimits.{UserLimits}
use Rattle.qx_machine.specs.Names.{with_root}
use Rattle.qx_machine.specs.Resources.{Resources}
use Rattle.qx_isolation.specs.Rows.{put_row}
use Rattle.qx_machine.specs.Waiting.{no_pipes}

-- the top with its root, which is empty, and nothing open
abbrev pub new_resources : UserLimits → ℕ → List ℕ → Resources
new_resources limits user name = record {
  user = user;
  mounts = boot_mounts name top_inode;
  inodes = record (no_inodes limits) { attributes = None ∷ Some (root_attribute user) ∷ [] };
  names = with_root empty top_inode;
  files = no_files;
  pipes = no_pipes;
  events = no_events;
  limits = limits;
}

-- a manager's mount at a path of a user of that name: at the name or below it, where no mount is, with a root of its own (C Library
-- Reference: resmgr_attach, EEXIST and ENOSPC; that any other path is EACCES, whoever has its first name, is this profile)
abbrev pub new_mount : List ℕ → List ℕ → Manager → Resources → Result MountPoint Errno
new_mount name path manager resources = do
  names ← read_path path
  own ← need (is_under name names) EACCES
  free ← unless (mount_fault resources.limits.mounts resources.mounts names) names
  root ← inode_number resources.inodes
  Ok (record { prefix = names; manager = manager; root = root })

-- the mount and its root are there
abbrev pub with_mount : MountPoint → Resources → Resources
with_mount mount resources = record resources {
  mounts = mounted resources.mounts mount.prefix mount.manager mount.root;
  inodes = record resources.inodes { attributes = put_row resources.inodes.attributes mount.root (root_attribute resources.user) };
  names = with_root resources.names mount.root;
}
