use Rattle.std.proofs.Common.{arith, sym}
use Rattle.qx_words.proofs.Numbers.{number_refused}
use Rattle.qx_words.proofs.words.parsed.Goals as goal

pub returns-in-Err-clause-number : goal.returns-in-Err-clause-number
returns-in-Err-clause-number c =
    sym (number_refused c.args.text.now c.in-Err.field-0 c.args.greatest c.in-Err.ensures.value.0 (omega arith) c.requires.numeral)
