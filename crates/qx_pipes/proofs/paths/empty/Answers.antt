use Rattle.std.proofs.Common.{true}
use Rattle.qx_machine.specs.Pipes.{nobody_answered, removed}
use Rattle.qx_pipes.proofs.PipesLemmas.{left-empty, stays}
use Rattle.qx_pipes.proofs.paths.empty.Goals as goal
use Rattle.qx_shared.specs.Shared.{pipe_at}

pub renew-requires : goal.renew-requires
renew-requires c = record { pipe = stays c.args.shared.now c.args.user.0 c.args.inode _ (nobody_answered (removed (λ who. true) (pipe_at c.args.shared.now c.args.user.0 c.args.inode))) c.take_out.ensures c.requires.pipe }

pub returns : goal.returns
returns c = left-empty c.args.shared.now c.args.user.0 _ _ _ _ c.take_out.ensures c.renew.ensures c.requires.pipe
