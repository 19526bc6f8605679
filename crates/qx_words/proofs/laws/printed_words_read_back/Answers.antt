use Rattle.qx_words.proofs.ReadKinds.{value_again, value_is_word, value_within}
use Rattle.qx_words.proofs.laws.printed_words_read_back.Goals as goal

pub returns : goal.returns
returns c = record { word = value_is_word; read_back = value_again; can_name = value_within }
