use Rattle.std.proofs.Common.{refl, rules, sym}
use Rattle.qx_chan.proofs.ProcessLemmas.{put_back}
use Rattle.qx_chan.proofs.RowReads.{row_at-put}
use Rattle.qx_chan.proofs.SendLemmas.{own-with_room}
use Rattle.qx_chan.proofs.channel.send_on.Goals as goal

pub returns-in_err-send-clause-err : goal.returns-in_err-send-clause-err
returns-in_err-send-clause-err c = put_back _ _ _ _ _ (sym c.process_there-process.ensures.row) (search rules)

pub attach-requires-clause-started : goal.attach-requires-clause-started
attach-requires-clause-started c = (c.args.thread.tid, rw (c.send-2.ensures.sent, c.in_ok-reserve.ensures.ok) (own-with_room c.args.shared.now c.args.sent.target.over c.args.thread c.requires.own))

pub returns-clause-uses : goal.returns-clause-uses
returns-clause-uses c =
    rw (row_at-put c.args.processes.now c.args.thread.proc.num c.process_there-process.result.now c.send.new.self c.process_there-process.ensures.row, c.process_there-process.ensures.row) c.in_ok-send.ensures.uses

pub returns-clause-sent : goal.returns-clause-sent
returns-clause-sent c =
    rw (row_at-put c.args.processes.now c.args.thread.proc.num c.process_there-process.result.now c.send.new.self c.process_there-process.ensures.row, c.attach.ensures.attached, c.send-2.ensures.sent, c.in_ok-reserve.ensures.ok) refl
