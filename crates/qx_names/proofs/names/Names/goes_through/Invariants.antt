use Rattle.std.proofs.Common.{◌≡◌, ℕ, false, length}
use Rattle.std.specs.Prelude.{Ok}
use Rattle.qx_machine.specs.Inodes.{Inodes}
use Rattle.qx_machine.specs.Names as machine
use Rattle.qx_names.specs.Paths.{HasPath, path_of}
use Rattle.qx_names.proofs.names.Names.goes_through.Given as goal

abbrev pub invariant-loop-next : goal.invariant-loop-next
invariant-loop-next l = record {
  walked : (inodes : Inodes) (user : ℕ) (at : machine.Spot) → machine.walk inodes l.fn.self user l.fn.root (machine.root_key l.fn.root) l.fn.name l.fn.rest ≡ Ok at → machine.walk inodes l.fn.self user l.parent (path_of l.fn.self l.parent) l.last l.rest ≡ Ok at;
  above : machine.is_below (path_of l.fn.self l.fn.directory) (path_of l.fn.self l.parent).0 (path_of l.fn.self l.parent).1 ≡ false;
  named : HasPath l.fn.self l.parent;
}

abbrev pub decreases-loop-next : goal.decreases-loop-next
decreases-loop-next l = length l.rest
