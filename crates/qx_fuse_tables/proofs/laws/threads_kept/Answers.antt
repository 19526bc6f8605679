use Rattle.qx_fuse_tables.proofs.ThreadLemmas.{kept_free}
use Rattle.qx_fuse_tables.proofs.laws.threads_kept.Goals as goal

pub returns : goal.returns
returns c = record { threads_kept = kept_free }
