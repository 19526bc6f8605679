use Rattle.std.proofs.Common.{ap, ◌∙◌, ◌+◌}
use Rattle.qx_types.specs.declared.limits.TheConstants.Limits.{INODES}
use Rattle.qx_files.specs.Blocks.{Held}
use Rattle.qx_files.specs.inner.Kept.{kept_of}
use Rattle.qx_files.proofs.KeptLemmas.{none-map}
use Rattle.qx_files.proofs.files.Files.new.Goals as goal

pub returns : goal.returns
returns c = record {
  none = ap kept_of c.in_ok-new.ensures.none ∙ (λ i. record { files = none-map (λ (held : Held). held.bytes) (INODES + 1) i; blocks = none-map (λ (held : Held). held.blocks) (INODES + 1) i });
}
