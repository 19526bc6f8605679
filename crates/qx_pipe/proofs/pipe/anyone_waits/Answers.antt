use Rattle.std.proofs.Common.{◌∙◌, sym}
use Rattle.qx_pipe.proofs.TurnLemmas.{first-waits, is-some, none-waits, then-waits}
use Rattle.qx_pipe.proofs.pipe.anyone_waits.Goals as goal

pub returns-then-is_some-clause-idle : goal.returns-then-is_some-clause-idle
returns-then-is_some-clause-idle c = c.if-is_some.true ∙ first-waits _ _ (sym c.if-is_some.true ∙ c.is_some.ensures ∙ is-some c.first_waiting.result _ c.first_waiting.ensures)

pub returns-else-is_some : goal.returns-else-is_some
returns-else-is_some c = record {
  alone = λ none. (none-waits c.first_waiting.result _ c.first_waiting.ensures (sym c.is_some.ensures ∙ c.if-is_some.false), none-waits c.first_waiting-else-is_some.result _ c.first_waiting-else-is_some.ensures (sym c.is_some-else-is_some.ensures ∙ none));
  idle = c.is_some-else-is_some.ensures ∙ is-some c.first_waiting-else-is_some.result _ c.first_waiting-else-is_some.ensures ∙ then-waits _ _ (sym c.if-is_some.false ∙ c.is_some.ensures ∙ is-some c.first_waiting.result _ c.first_waiting.ensures);
}
