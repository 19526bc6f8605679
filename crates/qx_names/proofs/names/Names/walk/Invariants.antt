use Rattle.std.proofs.Common.{◌≡◌, ◌≤◌, ◌∷◌, length}
use Rattle.qx_types.specs.declared.limits.TheConstants.Limits.{COMPONENT}
use Rattle.qx_machine.specs.Names as machine
use Rattle.qx_names.specs.Paths.{HasPath, path_of}
use Rattle.qx_names.specs.Spots.{AreShort}
use Rattle.qx_names.proofs.names.Names.walk.Given as goal

abbrev pub invariant-loop-next : goal.invariant-loop-next
invariant-loop-next l = record {
  walked : machine.walk l.fn.inodes.inodes l.fn.self l.fn.user.0 l.fn.root (machine.root_key l.fn.root) l.fn.name l.fn.rest ≡ machine.walk l.fn.inodes.inodes l.fn.self l.fn.user.0 l.parent (path_of l.fn.self l.parent) l.last l.rest;
  named : HasPath l.fn.self l.parent;
  short : length l.fn.name ≤ COMPONENT → AreShort l.fn.rest → AreShort (l.last ∷ l.rest);
}

abbrev pub decreases-loop-next : goal.decreases-loop-next
decreases-loop-next l = length l.rest
