use Rattle.std.proofs.Common.{◌∙◌, [], refl}
use Rattle.std.proofs.KnownBytes.{Consumes-more}
use Rattle.qx_sh.proofs.streams.read_all.Goals as goal

pub reads-preserved : goal.reads-preserved
reads-preserved g c = record {
  within = c.in_ok-count.ensures.within;
  consumed = Consumes-more _ _ _ [] c.reads.text.items c.read_more.new.text.items refl c.in_ok-count.ensures.kept c.reads.invariant.consumed c.in_ok-count.ensures.consumed;
  no_worse = c.in_ok-count.ensures.no_worse (λ same. cc) ∙ c.reads.invariant.no_worse;
}
