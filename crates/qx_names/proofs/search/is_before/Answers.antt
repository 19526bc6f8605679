use Rattle.std.proofs.Common.{ap, sym, ◌∙◌}
use Rattle.std.proofs.lemmas.Bool.{eq-eqb}
use Rattle.std.specs.Ordering.{is_lt}
use Rattle.qx_names.proofs.ListingLemmas.{test_is}
use Rattle.qx_names.proofs.RisingLemmas.{same_directory}
use Rattle.qx_names.proofs.search.is_before.Goals as goal

pub returns-then-directory-other : goal.returns-then-directory-other
returns-then-directory-other c =
    sym (test_is c.args.name.now c.name.result.now c.args.entry.now.0.1 c.lt.result c.lt.result c.lt.ensures c.name.ensures (λ i. c.lt.result))
    ∙ ap is_lt (sym (same_directory c.args.directory c.args.name.now c.args.entry.now.0 (eq-eqb _ _ (sym c.directory-other.ensures ∙ sym c.if-directory-other.true))))
