use Rattle.std.proofs.Common.{◌≡◌, ◌∙◌, [], map}
use Rattle.clap.specs.Kinds.{HasKind}
use Rattle.qx_sh.proofs.CommandLemmas.{among_kinds, holds_limit_text, of_refusal}
use Rattle.qx_sh.proofs.options.given_limit.Goals as goal

pub returns-in-Ok-clause-text : goal.returns-in-Ok-clause-text
returns-in-Ok-clause-text g c = c.get_str.ensures
    ∙ holds_limit_text _ _ c.in-Ok.matches c.in_ok-command.ensures c.in-Ok.ensures.matches

pub returns-in-Ok-clause-taken : goal.returns-in-Ok-clause-taken
returns-in-Ok-clause-taken g c =
    of_refusal (λ kinds. kinds ≡ []) _ (map g.S.AsStr.text c.args.words.now) c.in_ok-command.ensures
    c.in-Ok.ensures.kinds

pub returns-in-Err-clause-refused : goal.returns-in-Err-clause-refused
returns-in-Err-clause-refused g c = λ words.
    among_kinds _ c.in-Err.error
    (of_refusal (λ kinds. HasKind kinds c.in-Err.error) _ (map g.S.AsStr.text c.args.words.now)
    c.in_ok-command.ensures c.in-Err.ensures.kinds)
    (λ memory. let want = c.fault_of.ensures.1 memory in cc)
