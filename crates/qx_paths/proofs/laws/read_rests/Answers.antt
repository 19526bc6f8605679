use Rattle.qx_paths.proofs.ReadLemmas as lemma
use Rattle.qx_paths.proofs.laws.read_rests.Goals as goal

pub returns : goal.returns
returns c = record { read_rests = lemma.rests }
