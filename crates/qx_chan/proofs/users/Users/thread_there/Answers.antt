use Rattle.std.proofs.Common.{refl}
use Rattle.qx_chan.proofs.ProcessLemmas.{process-there, thread-put}
use Rattle.qx_chan.proofs.users.Users.thread_there.Goals as goal

pub process_there-requires : goal.process_there-requires
process_there-requires c = record { there = process-there c.args.self.now c.args.thread c.requires.there }

pub thread_there-requires : goal.thread_there-requires
thread_there-requires c = record { there = rw c.process_there.ensures.row at c.requires.there }

pub returns : goal.returns
returns c =
    let is = c.process_there.ensures.row in
    let there = c.thread_there.ensures.row in
    ((refl, λ left. thread-put c.args.self.now c.args.thread c.process_there.result.now c.thread_there.result.now left is there), record { writes_back = tt; row = rw is there })
