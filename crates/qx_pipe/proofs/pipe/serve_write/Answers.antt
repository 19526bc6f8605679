use Rattle.std.proofs.Common.{◌≡◌, ◌∙◌, [], Some, refl, ap, sym}
use Rattle.std.specs.Prelude.{is_some}
use Rattle.qx_base.specs.declared.device.Told.TheVariants as told
use Rattle.qx_types.specs.declared.outcome.Answer.TheVariants.{Failed}
use Rattle.qx_machine.specs.Pipes.{write_told}
use Rattle.qx_machine.specs.Verdicts.{write_of}
use Rattle.qx_machine.specs.Waiting.{offered, waiting_call, wanted}
use Rattle.qx_shared.specs.Shared.{after_own, pipe_at, went_in, with_answer_to, with_pipe_after}
use Rattle.qx_pipe.proofs.AfterLemmas.{answered-after, same-bytes}
use Rattle.qx_pipe.proofs.AloneLemmas.{left-same, left-told}
use Rattle.qx_pipe.proofs.ReceivedLemmas.{received-bytes}
use Rattle.qx_pipe.proofs.pipe.serve_write.Goals as goal

pub answer-requires-clause-received : goal.answer-requires-clause-received
answer-requires-clause-received c =
    rw c.writing.ensures.call (received-bytes c.args.shared.now c.write_device.new.self c.args.user.0 c.args.inode c.requires.pipe (pipe_at c.write_device.new.self c.args.user.0 c.args.inode).bytes c.write_device.ensures.others (waiting_call c.args.opened 0 c.args.room) c.requires.received)

pub answer-requires-in-Fails-clause-received : goal.answer-requires-in-Fails-clause-received
answer-requires-in-Fails-clause-received c =
    rw c.writing-in-Fails.ensures.call (received-bytes c.args.shared.now c.write_device.new.self c.args.user.0 c.args.inode c.requires.pipe (pipe_at c.write_device.new.self c.args.user.0 c.args.inode).bytes c.write_device.ensures.others (waiting_call c.args.opened 0 c.args.room) c.requires.received)

pub returns-in-Waits-clause-same : goal.returns-in-Waits-clause-same
returns-in-Waits-clause-same c =
    let p = pipe_at c.args.shared.now c.args.user.0 c.args.inode in
    let stand = (pipe_at c.write_device.new.self c.args.user.0 c.args.inode).bytes in
    same-bytes c.args.shared.now c.args.user.0 c.args.inode c.requires.pipe c.write_device.new.self stand c.write_device.ensures.others (left-same told.Waits [] stand p.bytes (write_of p.device c.args.bytes.now p.bytes) c.in-Waits.ensures.left refl).1

pub returns-in-Fails-clause-served : goal.returns-in-Fails-clause-served
returns-in-Fails-clause-served c =
    let shared = c.args.shared.now in
    let user = c.args.user.0 in
    let p = pipe_at shared user c.args.inode in
    let call = waiting_call c.args.opened 0 c.args.bytes.now in
    let error = c.in-Fails.error in
    let stand = (pipe_at c.write_device.new.self user c.args.inode).bytes in
    let told_is : write_told wanted offered p.device p.bytes call ≡ Some (Failed error, stand) = left-told (told.Fails error) [] stand p.bytes (write_of p.device c.args.bytes.now p.bytes) c.in-Fails.ensures.left in
    let did = rw c.writing-in-Fails.ensures.call at c.answer-in-Fails.ensures in
    record {
      some = ap is_some told_is;
      after =
          did.answered
          ∙ ap (λ mid. with_answer_to mid user call (Failed error)) c.write_device.ensures.others
          ∙ answered-after shared user c.args.inode c.requires.pipe (record p { bytes = stand }) call (Failed error)
          ∙ ap (λ told. with_pipe_after shared user c.args.inode (after_own call p told)) (sym told_is);
      went = did.written ∙ ap (λ told. went_in (after_own call p told).answers) (sym told_is);
    }
