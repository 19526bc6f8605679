use Rattle.qx_paths.proofs.MountLemmas as lemma
use Rattle.qx_paths.proofs.laws.top_fits.Goals as goal

pub returns : goal.returns
returns c = record { top_fits = lemma.top_leads }
