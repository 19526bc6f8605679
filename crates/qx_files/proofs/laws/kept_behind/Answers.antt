use Rattle.qx_files.proofs.PutLemmas as lemmas
use Rattle.qx_files.proofs.laws.kept_behind.Goals as goal

pub returns : goal.returns
returns c = record { kept_behind = lemmas.kept_behind }
