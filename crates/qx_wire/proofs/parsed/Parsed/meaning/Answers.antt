use Rattle.std.proofs.Common.{◌≡◌, ℕ, List, subst, rules}
use Rattle.qx_wire.specs.Laws.{IfKnown}
use Rattle.qx_wire.specs.Table.{spelling}
use Rattle.qx_wire.proofs.TableLemmas.{meant_spells}
use Rattle.qx_wire.proofs.parsed.Parsed.meaning.Goals as goal

pub returns-else-self-clause-meaning : goal.returns-else-self-clause-meaning
returns-else-self-clause-meaning c = search rules

pub returns-else-self-clause-spelled : goal.returns-else-self-clause-spelled
returns-else-self-clause-spelled c =
    let same : c.as_slice.result.now ≡ c.args.self.now = search rules in
    meant_spells c.args.self.now c.cut.result (returns-else-self-clause-meaning c)
    (subst (λ (bytes : List ℕ). IfKnown c.cut.result (λ m. bytes ≡ spelling m)) same c.cut.ensures.spelled)
