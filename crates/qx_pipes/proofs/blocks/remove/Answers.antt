use Rattle.std.proofs.Common.{rules, sym}
use Rattle.qx_pipes.proofs.PipesLemmas.{row-free}
use Rattle.qx_pipes.proofs.blocks.remove.Goals as goal

pub returns-else-has_pipe : goal.returns-else-has_pipe
returns-else-has_pipe c = rw c.if-not-is_gone.false (sym (row-free _ _ c.args.inode (search rules)))
