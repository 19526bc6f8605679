use Rattle.std.proofs.Common.{arith}
use Rattle.qx_live.proofs.Absent.{none_behind}
use Rattle.qx_live.proofs.session.Session.process_behind.Goals as goal

pub returns-then-process-process_places-clause-none : goal.returns-then-process-process_places-clause-none
returns-then-process-process_places-clause-none c = none_behind c.args.user.0 c.args.process c.args.self.now.world (omega arith)
