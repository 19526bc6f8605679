-- Where a walk ends.
use Rattle.std.specs.Prelude.{Result, Ok, Err, ℕ, ◌≤◌, List, length}
use Rattle.qx_base.specs.declared.errno.Errno.{Errno}
use Rattle.std.specs.List.{AllByRecursion}
use Rattle.qx_types.specs.declared.limits.TheConstants.Limits.{COMPONENT}
use Rattle.qx_machine.specs.Names as machine
use Rattle.qx_names.specs.Paths.{path_of}
use Rattle.qx_names.specs.declared.spot.Spot.{Spot}

-- a spot, with its path in place of the last component
abbrev pub spot_of : machine.Names → Spot → machine.Spot
spot_of names spot = record { parent = spot.parent; key = machine.under (path_of names spot.parent) spot.name.now; inode = spot.inode }

abbrev pub spot_found : machine.Names → Result Spot Errno → Result machine.Spot Errno
spot_found names (Ok spot) = Ok (spot_of names spot)
spot_found names (Err error) = Err error

-- names that are no longer than a component
abbrev pub AreShort : List (List ℕ) → Type 0
AreShort names = AllByRecursion (λ name. length name ≤ COMPONENT) names
