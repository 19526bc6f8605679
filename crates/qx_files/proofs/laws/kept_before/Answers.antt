use Rattle.qx_files.proofs.PutLemmas as lemmas
use Rattle.qx_files.proofs.laws.kept_before.Goals as goal

pub returns : goal.returns
returns c = record { kept_before = lemmas.kept_before }
