use Rattle.std.proofs.Common.{sym, arith}
use Rattle.qx_paths.specs.Paths.{path_components}
use Rattle.qx_paths.proofs.PathLemmas.{good_behind}
use Rattle.qx_paths.proofs.path.Path.behind.Goals as goal

pub invariant_of-result : goal.invariant_of-result
invariant_of-result c = record {
  short = omega (arith, c.self.invariant.short, c.in_ok-left.ensures.shorter);
  good = good_behind (path_components c.self.inside.bytes.now) c.args.prefix.now (path_components c.in_ok-left.left.now) (sym c.in_ok-left.ensures.behind) c.self.invariant.good;
}
