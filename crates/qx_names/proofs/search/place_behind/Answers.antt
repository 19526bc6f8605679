use Rattle.std.proofs.Common.{◌+◌, ◌-◌, ◌/◌, ◌<◌, ◌≤◌, ℕ, map as mapped, arith, slice_index_or, sym, ◌∙◌}
use Rattle.std.proofs.lemmas.List.{length-map}
use Rattle.std.proofs.lemmas.Option.{slice_get-get_or}
use Rattle.qx_names.specs.inner.Children.{entry_of}
use Rattle.qx_names.proofs.IndexLemmas.{entry-index}
use Rattle.qx_names.proofs.RisingLemmas.{count_to-high, count_to-low, count_to-within}
use Rattle.qx_names.proofs.search.place_behind.Goals as goal

pub halves-init : goal.halves-init
halves-init c = record {
  low = omega arith;
  high = omega (arith, count_to-within (c.args.directory, c.args.name.now) (mapped (entry_of c.args.table.now) c.args.index.now), length-map c.args.index.now (entry_of c.args.table.now));
  within = omega arith;
}

middle : (low high size : ℕ) → low < high → high ≤ size → low + (high - low) / 2 < size
middle low high size some within = omega arith

pub value-requires : goal.value-requires
value-requires c = c.requires.there _ _ (slice_get-get_or c.args.index.now (c.halves.low + (c.halves.high - c.halves.low) / 2) 0 (middle _ _ _ c.halves-test.true c.halves.invariant.within))

pub halves-preserved-then-is_before : goal.halves-preserved-then-is_before
halves-preserved-then-is_before c =
    let at = entry-index c.args.table.now c.args.index.now (c.halves.low + (c.halves.high - c.halves.low) / 2) (slice_index_or c.args.index.now (c.halves.low + (c.halves.high - c.halves.low) / 2) 0) c.value.result.now (slice_get-get_or c.args.index.now (c.halves.low + (c.halves.high - c.halves.low) / 2) 0 (middle _ _ _ c.halves-test.true c.halves.invariant.within)) c.value.ensures in
    record {
      low = c.halves.invariant.low;
      high = count_to-low (c.args.directory, c.args.name.now) (mapped (entry_of c.args.table.now) c.args.index.now) (c.halves.low + (c.halves.high - c.halves.low) / 2) c.value.result.now at (sym c.is_before.ensures ∙ c.if-is_before.true);
      within = omega (arith, c.halves-test.true, c.halves.invariant.within);
    }

pub halves-preserved : goal.halves-preserved
halves-preserved c =
    let at = entry-index c.args.table.now c.args.index.now (c.halves.low + (c.halves.high - c.halves.low) / 2) (slice_index_or c.args.index.now (c.halves.low + (c.halves.high - c.halves.low) / 2) 0) c.value.result.now (slice_get-get_or c.args.index.now (c.halves.low + (c.halves.high - c.halves.low) / 2) 0 (middle _ _ _ c.halves-test.true c.halves.invariant.within)) c.value.ensures in
    let more = count_to-high (c.args.directory, c.args.name.now) (mapped (entry_of c.args.table.now) c.args.index.now) (c.halves.low + (c.halves.high - c.halves.low) / 2) c.value.result.now c.requires.rising at (sym c.is_before.ensures ∙ c.if-is_before.false) in
    record {
      low = omega (arith, more);
      high = c.halves.invariant.high;
      within = c.halves.invariant.within;
    }
