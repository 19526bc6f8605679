use Rattle.std.proofs.Common.{◌∙◌, sym, arith}
use Rattle.qx_paths.specs.Paths.{path_components}
use Rattle.qx_paths.proofs.PathLemmas.{faultless}
use Rattle.qx_paths.proofs.path.read_path.Goals as goal

pub invariant_of-result : goal.invariant_of-result
invariant_of-result c = record {
  short = omega arith;
  good = faultless (path_components c.args.bytes.now) (sym c.fault_in.ensures ∙ c.in-None.is);
}
