use Rattle.std.proofs.Common.{arith, rules}
use Rattle.std.proofs.lemmas.Fmt.{decimal_digit}
use Rattle.std.proofs.lemmas.Grind.{common_steps}
use Rattle.qx_words.specs.WordText.{process_text, thread_text}
use Rattle.qx_words.proofs.text.push_thread.Goals as goal

pub returns-then-tid-lt10 : goal.returns-then-tid-lt10
unfolding thread_text process_text
returns-then-tid-lt10 c = grind (arith, rules, common_steps, decimal_digit)
