use Rattle.std.proofs.Common.{◌≡◌, ◌∙◌, ◌+◌, None, [], ◌++◌, IsSome, is_some, length, length-append, sym, ap, subst, arith}
use Rattle.qx_types.specs.declared.outcome.Answer.TheVariants.{Reply}
use Rattle.qx_machine.specs.declared.rows.WaitingCall.{WaitingCall}
use Rattle.qx_machine.specs.Pipes.{Pipe, PipeAfter, one_answered, only_reply, with_writer}
use Rattle.qx_machine.specs.Verdicts.{write_of}
use Rattle.qx_machine.specs.Waiting.{waiting_call}
use Rattle.qx_shared.specs.Shared.{pipe_at}
use Rattle.qx_pipe.proofs.AfterLemmas.{same-bytes}
use Rattle.qx_pipe.proofs.AloneLemmas.{IsNoReply, given-nothing, given-reply, left-same, left-told, none-by, told-alone, told-ended, told-silent, write-broken, write-is, write-nothing, write-open, write-unended}
use Rattle.qx_pipe.proofs.TurnLemmas.{none-told, pipe-fits, pipe-full, pipe-now}
use Rattle.qx_pipe.proofs.pipe.write_alone.Goals as goal
use Rattle.qx_pipe.proofs.pipe.write_alone.Goals.{Else-is_some, Then-is_some}

-- ---- a device

is_device : (c : Then-is_some) → IsSome (pipe_at c.args.shared.now c.args.user.0 c.args.inode).device
is_device c = ap is_some (sym c.device.ensures.device) ∙ sym c.is_some.ensures ∙ c.if-is_some.true

pub returns-then-is_some-clause-told : goal.returns-then-is_some-clause-told
returns-then-is_some-clause-told c = λ opened.
    let p = pipe_at c.args.shared.now c.args.user.0 c.args.inode in
    let call = waiting_call opened 0 c.args.bytes.now in
    let nobody = c.anyone_waits.ensures.alone c.if-anyone_waits.false in
    let status = c.in_ok-status.status in
    let stand = (pipe_at c.write_device.new.self c.args.user.0 c.args.inode).bytes in
    let told = left-told c.write_device.result [] stand p.bytes (write_of p.device c.args.bytes.now p.bytes) c.write_device.ensures.left ∙ given-reply c.write_device.result [] stand status (sym c.gives.ensures ∙ c.in_ok-status.was) in
    write-is c.args.manner call p nobody
    ∙ told-alone c.args.manner call p (with_writer p call) nobody _ _ (write-unended c.args.manner call p (is_device (goal.at.returns-then-is_some-clause-told c).Then-is_some)) _ _ told
    ∙ ap (one_answered call (Reply status [])) (sym (pipe-now c.args.shared.now c.write_device.new.self c.args.user.0 c.args.inode c.requires.pipe (record p { bytes = stand }) c.write_device.ensures.others))

pub returns-in_err-status-clause-otherwise : goal.returns-in_err-status-clause-otherwise
returns-in_err-status-clause-otherwise c = none-by c.from_residual.result (λ _ idle opened.
    let p = pipe_at c.args.shared.now c.args.user.0 c.args.inode in
    let call = waiting_call opened 0 c.args.bytes.now in
    let nobody = c.anyone_waits.ensures.alone c.if-anyone_waits.false in
    let stand = (pipe_at c.write_device.new.self c.args.user.0 c.args.inode).bytes in
    let told = left-told c.write_device.result [] stand p.bytes (write_of p.device c.args.bytes.now p.bytes) c.write_device.ensures.left in
    ap (λ (after : PipeAfter WaitingCall). only_reply after.answers) (write-is c.args.manner call p nobody)
    ∙ told-silent c.args.manner call p (with_writer p call) nobody _ _ (write-unended c.args.manner call p (is_device (goal.at.returns-in_err-status-clause-otherwise c).Then-is_some)) (subst IsNoReply (sym told) (given-nothing c.write_device.result [] stand (sym c.gives.ensures ∙ c.in_err-status.was))))

pub returns-in_err-status-clause-same : goal.returns-in_err-status-clause-same
returns-in_err-status-clause-same c = none-by c.from_residual.result (λ _.
    let p = pipe_at c.args.shared.now c.args.user.0 c.args.inode in
    let stand = (pipe_at c.write_device.new.self c.args.user.0 c.args.inode).bytes in
    same-bytes c.args.shared.now c.args.user.0 c.args.inode c.requires.pipe c.write_device.new.self stand c.write_device.ensures.others (left-same c.write_device.result [] stand p.bytes (write_of p.device c.args.bytes.now p.bytes) c.write_device.ensures.left (sym c.gives.ensures ∙ c.in_err-status.was)).1)

-- ---- a pipe

is_pipe : (c : Else-is_some) → (pipe_at c.args.shared.now c.args.user.0 c.args.inode).device ≡ None
is_pipe c = sym c.device.ensures.device ∙ none-told c.device.result (sym c.is_some.ensures ∙ c.if-is_some.false)

pub returns-then-len-eq0-clause-told : goal.returns-then-len-eq0-clause-told
returns-then-len-eq0-clause-told c = λ opened.
    let p = pipe_at c.args.shared.now c.args.user.0 c.args.inode in
    let call = waiting_call opened 0 c.args.bytes.now in
    write-is c.args.manner call p (c.anyone_waits.ensures.alone c.if-anyone_waits.false) ∙ told-ended c.args.manner call p (with_writer p call) _ _ _ (write-nothing c.args.manner call p (is_pipe (goal.at.returns-then-len-eq0-clause-told c).Else-is_some) (omega arith))

pub returns-then-not-manner-clause-otherwise : goal.returns-then-not-manner-clause-otherwise
returns-then-not-manner-clause-otherwise c = λ idle opened.
    let p = pipe_at c.args.shared.now c.args.user.0 c.args.inode in
    let call = waiting_call opened 0 c.args.bytes.now in
    ap (λ (after : PipeAfter WaitingCall). only_reply after.answers) (write-is c.args.manner call p (c.anyone_waits.ensures.alone c.if-anyone_waits.false) ∙ told-ended c.args.manner call p (with_writer p call) _ _ _ (write-broken c.args.manner call p (is_pipe (goal.at.returns-then-not-manner-clause-otherwise c).Else-is_some) (omega arith) (grind arith)))

pub returns-then-len-size-clause-otherwise : goal.returns-then-len-size-clause-otherwise
returns-then-len-size-clause-otherwise c = λ idle opened.
    let p = pipe_at c.args.shared.now c.args.user.0 c.args.inode in
    let pipe = is_pipe (goal.at.returns-then-len-size-clause-otherwise c).Else-is_some in
    let call = waiting_call opened 0 c.args.bytes.now in
    let nobody = c.anyone_waits.ensures.alone c.if-anyone_waits.false in
    ap (λ (after : PipeAfter WaitingCall). only_reply after.answers) (write-is c.args.manner call p nobody)
    ∙ told-silent c.args.manner call p (with_writer p call) nobody _ _ (write-open c.args.manner call p pipe (omega arith) (grind arith)) (subst IsNoReply (sym (pipe-full p pipe call (omega arith))) tt)

pub returns-clause-told : goal.returns-clause-told
returns-clause-told c = λ opened.
    let p = pipe_at c.args.shared.now c.args.user.0 c.args.inode in
    let pipe = is_pipe (goal.at.returns-clause-told c).Else-is_some in
    let call = waiting_call opened 0 c.args.bytes.now in
    let nobody = c.anyone_waits.ensures.alone c.if-anyone_waits.false in
    write-is c.args.manner call p nobody
    ∙ told-alone c.args.manner call p (with_writer p call) nobody _ _ (write-open c.args.manner call p pipe (omega arith) (grind arith)) _ _ (pipe-fits p pipe call (omega arith))
    ∙ ap (one_answered call (Reply (length c.args.bytes.now) [])) (sym (pipe-now c.args.shared.now c.append.new.self c.args.user.0 c.args.inode c.requires.pipe (record p { bytes = p.bytes ++ c.args.bytes.now }) c.append.ensures.appended))

pub returns-clause-size : goal.returns-clause-size
returns-clause-size c =
    let p = pipe_at c.args.shared.now c.args.user.0 c.args.inode in
    ap (λ size. size + length c.args.bytes.now) c.pipe_len-size-2.ensures.count
    ∙ sym (ap (λ (q : Pipe WaitingCall). length q.bytes) (pipe-now c.args.shared.now c.append.new.self c.args.user.0 c.args.inode c.requires.pipe (record p { bytes = p.bytes ++ c.args.bytes.now }) c.append.ensures.appended) ∙ length-append p.bytes c.args.bytes.now)
