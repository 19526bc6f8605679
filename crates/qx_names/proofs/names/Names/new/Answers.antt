use Rattle.std.specs.List.{IsDistinct}
use Rattle.std.specs.FinMap as map
use Rattle.qx_names.proofs.NamesLemmas.{new_shows}
use Rattle.qx_names.proofs.ShowsLemmas.{names_are}
use Rattle.qx_names.proofs.names.Names.new.Goals as goal

pub invariant_of-result : goal.invariant_of-result
invariant_of-result c = ((map.empty, new_shows c.new.result.items c.new-2.result c.new.ensures.items c.new-2.ensures.none), tt)

pub invariant_of-result-2 : goal.invariant_of-result-2
unfolding IsDistinct
invariant_of-result-2 c = record { distinct = rw c.new.ensures.items tt }

pub returns : goal.returns
returns c = record { none = names_are _ _ _ map.empty (new_shows c.new.result.items c.new-2.result c.new.ensures.items c.new-2.ensures.none) }
