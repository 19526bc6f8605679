use Rattle.std.proofs.Common.{rules}
use borrow.Author.Tests.{tests}
use Rattle.std.specs.Str.{bytes_eq}
use Rattle.std.proofs.lemmas.Iterator.{YieldsList-from_slice}
use Rattle.std.proofs.lemmas.Iterator.Search.{position_from_yields_List}
use Rattle.qx_words.proofs.users.place_of.Goals as goal

pub returns-clause-first : goal.returns-clause-first
returns-clause-first c =
    position_from_yields_List (λ name. bytes_eq name c.args.word.now) _ _ _ c.position.ensures.ran (YieldsList-from_slice c.args.names.now cc) (λ x b q k. search (rules, tests))
