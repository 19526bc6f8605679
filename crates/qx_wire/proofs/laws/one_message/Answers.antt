use Rattle.qx_wire.proofs.TableLemmas as lemma
use Rattle.qx_wire.proofs.laws.one_message.Goals as goal

pub returns : goal.returns
returns c = record { one_message = lemma.one_message }
