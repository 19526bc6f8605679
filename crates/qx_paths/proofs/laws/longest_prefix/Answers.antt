use Rattle.qx_paths.proofs.MountLemmas as lemma
use Rattle.qx_paths.proofs.laws.longest_prefix.Goals as goal

pub returns : goal.returns
returns c = record { longest_prefix = lemma.leads_deepest }
