use Rattle.std.proofs.Common.{refl}
use Rattle.qx_chan.proofs.ProcessLemmas.{user-there}
use Rattle.qx_chan.proofs.users.Users.process_there.Goals as goal

pub processes_there-requires : goal.processes_there-requires
processes_there-requires c = record { there = user-there c.args.self.now c.args.proc c.requires.there }

pub process_there-requires : goal.process_there-requires
process_there-requires c = record { there = rw c.processes_there.ensures.row at c.requires.there }

pub returns : goal.returns
returns c = rw (c.processes_there.ensures.row, c.process_there.ensures.row) ((refl, λ w. refl), record { writes_back = tt; row = refl })
