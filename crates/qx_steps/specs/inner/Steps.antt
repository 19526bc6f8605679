-- What only the proofs need of Steps.
use Rattle.std.specs.Prelude.{◌≡◌, ℕ, List, Option, Some, None, Result, Ok, Err}
use Rattle.qx_types.specs.Configuration.{Configuration}
use Rattle.qx_types.specs.declared.names.Manager.{Manager}
use Rattle.qx_types.specs.declared.names.Thread.{Thread}
use Rattle.qx_types.specs.declared.outcome.Outcome.{Outcome}
use Rattle.qx_types.specs.declared.step.Step.{Step}
use Rattle.qx_types.specs.declared.outcome.Outcome.TheVariants.{WrongState}
use Rattle.qx_paths.specs.Mounts.{mount_fault}
use Rattle.qx_paths.specs.Prefixes.{MountPoint}
use Rattle.qx_machine.specs.Clients.{mount_by}
use Rattle.qx_machine.specs.Inodes.{inode_number}
use Rattle.qx_machine.specs.Machine.{World, step}
use Rattle.qx_machine.specs.Mounting.{with_mount}
use Rattle.qx_machine.specs.Parts.{Part}
use Rattle.qx_machine.specs.Resources.{Resources}
use Rattle.qx_isolation.specs.Rows.{row_at, with_row}

abbrev pub mount_from : Configuration → Thread → List ℕ → Manager → Option Part → Result MountPoint Outcome
mount_from config thread path manager None = Err WrongState
mount_from config thread path manager (Some part) = mount_by config thread.proc.user.0 part thread path manager

-- the mount of a thread's step, or the outcome of one that makes none
abbrev pub mount_in : World → Thread → List ℕ → Manager → Result MountPoint Outcome
mount_in w thread path manager = mount_from w.config thread path manager (row_at w.parts thread.proc.user.0)

-- nothing refuses a mount at its prefix, and its root is the next inode
abbrev pub IsMountable : Resources → MountPoint → Type 0
IsMountable resources mount = (mount_fault resources.limits.mounts resources.mounts mount.prefix ≡ None) × (inode_number resources.inodes ≡ Ok mount.root)

-- of a user who is there
abbrev pub CanMount : Option Part → MountPoint → Type 0
CanMount None mount = ⊥
CanMount (Some part) mount = IsMountable part.resources mount

-- the world with one more mount of a user
abbrev pub after_mount : World → ℕ → MountPoint → World
after_mount w user mount = record w { parts = with_row w.parts user (λ part. record part { resources = with_mount mount part.resources }) }

-- a step comes to that
abbrev pub IsMounting : World → ℕ → MountPoint → Type 0
IsMounting w user mount = (e : Step) × ((step w e).world ≡ after_mount w user mount)
