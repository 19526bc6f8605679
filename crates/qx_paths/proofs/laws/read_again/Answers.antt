use Rattle.qx_paths.proofs.ReadLemmas as lemma
use Rattle.qx_paths.proofs.laws.read_again.Goals as goal

pub returns : goal.returns
returns c = record { read_again = lemma.read_again }
