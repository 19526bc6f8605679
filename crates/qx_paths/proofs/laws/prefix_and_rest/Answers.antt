use Rattle.qx_paths.proofs.MountLemmas as lemma
use Rattle.qx_paths.proofs.laws.prefix_and_rest.Goals as goal

pub returns : goal.returns
returns c = record { prefix_and_rest = lemma.leads_to_place }
