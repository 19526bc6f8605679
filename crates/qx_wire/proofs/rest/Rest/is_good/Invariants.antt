use Rattle.std.proofs.Common.{◌≡◌, ◌≤◌, length}
use Rattle.std.specs.List.{list_all}
use Rattle.qx_types.specs.declared.limits.TheConstants.Limits.{PATH}
use Rattle.qx_wire.specs.Rests.{is_component, joined}
use Rattle.qx_wire.proofs.rest.Rest.is_good.Given as goal

abbrev pub invariant-loop-component : goal.invariant-loop-component
invariant-loop-component l = record {
  left : list_all is_component l.walk ≡ list_all is_component l.fn.self;
  short : length (joined l.fn.self) ≤ PATH;
}

abbrev pub decreases-loop-component : goal.decreases-loop-component
decreases-loop-component l = length l.walk
