use Rattle.qx_fuse_tables.proofs.NumberLemmas as lemmas
use Rattle.qx_fuse_tables.proofs.laws.numbers_apart.Goals as goal

pub returns : goal.returns
returns c = record { numbers_apart = lemmas.numbers_apart }
