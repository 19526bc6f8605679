use Rattle.qx_files.proofs.PutLemmas as lemmas
use Rattle.qx_files.proofs.laws.read_back.Goals as goal

pub returns : goal.returns
returns c = record { read_back = lemmas.read_back }
