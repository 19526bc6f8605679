-- When a mount can be made, and the root that it has then.
use Rattle.std.specs.Prelude.{◌≡◌, ℕ, List, None, Ok}
use Rattle.qx_paths.specs.Mounts.{mount_fault}
use Rattle.qx_paths.specs.Prefixes.{MountPoint}
use Rattle.qx_machine.specs.Attributes.{root_attribute}
use Rattle.qx_machine.specs.Inodes.{inode_number}
use Rattle.qx_machine.specs.Names.{with_root}
use Rattle.qx_isolation.specs.Rows.{put_row}
use Rattle.qx_resources.specs.State.{Kept}

-- beside these mounts of the user nothing refuses a mount at its prefix, and its root is the next inode
pub record IsNextMount (mounts : List MountPoint) (resources : Kept) (mount : MountPoint) : Type 0 where
  pub free : mount_fault resources.limits.mounts mounts mount.prefix ≡ None
  pub next : inode_number resources.inodes ≡ Ok mount.root

-- a root is there
abbrev pub with_new_root : ℕ → Kept → Kept
with_new_root root resources = record resources {
  inodes = record resources.inodes { attributes = put_row resources.inodes.attributes root (root_attribute resources.user) };
  names = with_root resources.names root;
}
