use Rattle.std.proofs.Common.{◌≡◌, drop}
use Rattle.qx_fuse_tables.specs.Nodes.{first_idle, free_number}
use Rattle.qx_fuse_tables.proofs.numbering.free_number.Given as goal

-- the places that were passed are needed
abbrev pub invariant-loop-number : goal.invariant-loop-number
invariant-loop-number l = first_idle l.places l.handles l.number (drop l.number l.places) ≡ free_number l.places l.handles
