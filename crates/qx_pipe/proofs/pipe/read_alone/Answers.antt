use Rattle.std.proofs.Common.{◌≡◌, ◌∙◌, ◌-◌, None, [], IsSome, is_some, length, sym, ap, ap₂, subst, take, drop, arith}
use Rattle.std.proofs.lemmas.List.{length-drop}
use Rattle.qx_types.specs.declared.outcome.Answer.TheVariants.{Reply}
use Rattle.qx_machine.specs.declared.rows.WaitingCall.{WaitingCall}
use Rattle.qx_machine.specs.Pipes.{Pipe, PipeAfter, one_answered, only_reply, with_reader}
use Rattle.qx_machine.specs.Verdicts.{read_of}
use Rattle.qx_machine.specs.Waiting.{waiting_call}
use Rattle.qx_shared.specs.Shared.{pipe_at}
use Rattle.qx_pipe.proofs.AfterLemmas.{same-bytes}
use Rattle.qx_pipe.proofs.AloneLemmas.{IsNoReply, given-nothing, given-reply, left-same, left-told, none-by, read-is, read-nothing, read-open, read-over, read-stands, read-unended, told-alone, told-ended, told-silent}
use Rattle.qx_pipe.proofs.TurnLemmas.{none-told, pipe-empty, pipe-gets, pipe-now}
use Rattle.qx_pipe.proofs.pipe.read_alone.Goals as goal
use Rattle.qx_pipe.proofs.pipe.read_alone.Goals.{Else-is_some, Then-is_some}

-- ---- a device

is_device : (c : Then-is_some) → IsSome (pipe_at c.args.shared.now c.args.user.0 c.args.inode).device
is_device c = ap is_some (sym c.device.ensures.device) ∙ sym c.is_some.ensures ∙ c.if-is_some.true

pub returns-then-is_some-clause-told : goal.returns-then-is_some-clause-told
returns-then-is_some-clause-told c = λ opened.
    let p = pipe_at c.args.shared.now c.args.user.0 c.args.inode in
    let call = waiting_call opened c.args.count [] in
    let nobody = c.anyone_waits.ensures.alone c.if-anyone_waits.false in
    let status = c.in_ok-status.status in
    let stand = (pipe_at c.read_device.new.self c.args.user.0 c.args.inode).bytes in
    let told = left-told c.read_device.result c.read_device.new.reply stand p.bytes (read_of p.device c.args.count p.bytes) c.read_device.ensures.left ∙ given-reply c.read_device.result c.read_device.new.reply stand status (sym c.gives.ensures ∙ c.in_ok-status.was) in
    read-is c.args.manner call p nobody
    ∙ told-alone c.args.manner call p (with_reader p call) nobody _ _ (read-unended c.args.manner call p (is_device (goal.at.returns-then-is_some-clause-told c).Then-is_some)) _ _ told
    ∙ ap (one_answered call (Reply status c.read_device.new.reply)) (sym (pipe-now c.args.shared.now c.read_device.new.self c.args.user.0 c.args.inode c.requires.pipe (record p { bytes = stand }) c.read_device.ensures.others))

pub returns-in_err-status-clause-otherwise : goal.returns-in_err-status-clause-otherwise
returns-in_err-status-clause-otherwise c = none-by c.from_residual.result (λ _ idle opened.
    let p = pipe_at c.args.shared.now c.args.user.0 c.args.inode in
    let call = waiting_call opened c.args.count [] in
    let nobody = c.anyone_waits.ensures.alone c.if-anyone_waits.false in
    let stand = (pipe_at c.read_device.new.self c.args.user.0 c.args.inode).bytes in
    let told = left-told c.read_device.result c.read_device.new.reply stand p.bytes (read_of p.device c.args.count p.bytes) c.read_device.ensures.left in
    ap (λ (after : PipeAfter WaitingCall). only_reply after.answers) (read-is c.args.manner call p nobody)
    ∙ told-silent c.args.manner call p (with_reader p call) nobody _ _ (read-unended c.args.manner call p (is_device (goal.at.returns-in_err-status-clause-otherwise c).Then-is_some)) (subst IsNoReply (sym told) (given-nothing c.read_device.result c.read_device.new.reply stand (sym c.gives.ensures ∙ c.in_err-status.was))))

pub returns-in_err-status-clause-same : goal.returns-in_err-status-clause-same
returns-in_err-status-clause-same c = none-by c.from_residual.result (λ _.
    let p = pipe_at c.args.shared.now c.args.user.0 c.args.inode in
    let stand = (pipe_at c.read_device.new.self c.args.user.0 c.args.inode).bytes in
    same-bytes c.args.shared.now c.args.user.0 c.args.inode c.requires.pipe c.read_device.new.self stand c.read_device.ensures.others (left-same c.read_device.result c.read_device.new.reply stand p.bytes (read_of p.device c.args.count p.bytes) c.read_device.ensures.left (sym c.gives.ensures ∙ c.in_err-status.was)).1)

-- ---- a pipe

is_pipe : (c : Else-is_some) → (pipe_at c.args.shared.now c.args.user.0 c.args.inode).device ≡ None
is_pipe c = sym c.device.ensures.device ∙ none-told c.device.result (sym c.is_some.ensures ∙ c.if-is_some.false)

pub returns-then-count-eq0-clause-told : goal.returns-then-count-eq0-clause-told
returns-then-count-eq0-clause-told c = λ opened.
    let p = pipe_at c.args.shared.now c.args.user.0 c.args.inode in
    let call = waiting_call opened c.args.count [] in
    rw c.requires.empty (read-is c.args.manner call p (c.anyone_waits.ensures.alone c.if-anyone_waits.false) ∙ told-ended c.args.manner call p (with_reader p call) _ _ _ (read-nothing c.args.manner call p (is_pipe (goal.at.returns-then-count-eq0-clause-told c).Else-is_some) (omega arith)))

pub returns-then-size-ne0-clause-told : goal.returns-then-size-ne0-clause-told
returns-then-size-ne0-clause-told c = λ opened.
    let p = pipe_at c.args.shared.now c.args.user.0 c.args.inode in
    let pipe = is_pipe (goal.at.returns-then-size-ne0-clause-told c).Else-is_some in
    let call = waiting_call opened c.args.count [] in
    let nobody = c.anyone_waits.ensures.alone c.if-anyone_waits.false in
    let count = c.min-count.result in
    let pushed : c.push_both.new.reply ≡ take count p.bytes = c.push_both.ensures.both ∙ c.front.ensures.bytes in
    read-is c.args.manner call p nobody
    ∙ told-alone c.args.manner call p (with_reader p call) nobody _ _ (read-stands c.args.manner call p pipe (omega arith) (omega arith)) _ _ (pipe-gets p pipe call count (omega arith) (omega arith))
    ∙ ap₂ (λ bytes q. one_answered call (Reply count bytes) q) (sym pushed) (sym (pipe-now c.args.shared.now c.drop_front.new.self c.args.user.0 c.args.inode c.requires.pipe (record p { bytes = drop count p.bytes }) c.drop_front.ensures.rest))

pub returns-then-size-ne0-clause-size : goal.returns-then-size-ne0-clause-size
returns-then-size-ne0-clause-size c =
    let p = pipe_at c.args.shared.now c.args.user.0 c.args.inode in
    let count = c.min-count.result in
    ap (λ size. size - count) c.pipe_len-size-2.ensures.count
    ∙ sym (ap (λ (q : Pipe WaitingCall). length q.bytes) (pipe-now c.args.shared.now c.drop_front.new.self c.args.user.0 c.args.inode c.requires.pipe (record p { bytes = drop count p.bytes }) c.drop_front.ensures.rest) ∙ length-drop count p.bytes)

pub returns-then-manner-clause-otherwise : goal.returns-then-manner-clause-otherwise
returns-then-manner-clause-otherwise c = λ idle opened.
    let p = pipe_at c.args.shared.now c.args.user.0 c.args.inode in
    let pipe = is_pipe (goal.at.returns-then-manner-clause-otherwise c).Else-is_some in
    let call = waiting_call opened c.args.count [] in
    let nobody = c.anyone_waits.ensures.alone c.if-anyone_waits.false in
    ap (λ (after : PipeAfter WaitingCall). only_reply after.answers) (read-is c.args.manner call p nobody)
    ∙ told-silent c.args.manner call p (with_reader p call) nobody _ _ (read-open c.args.manner call p pipe (omega arith) c.if-manner.true) (subst IsNoReply (sym (pipe-empty p pipe call (omega arith))) tt)

pub returns-clause-told : goal.returns-clause-told
returns-clause-told c = λ opened.
    let p = pipe_at c.args.shared.now c.args.user.0 c.args.inode in
    let call = waiting_call opened c.args.count [] in
    rw c.requires.empty (read-is c.args.manner call p (c.anyone_waits.ensures.alone c.if-anyone_waits.false) ∙ told-ended c.args.manner call p (with_reader p call) _ _ _ (read-over c.args.manner call p (is_pipe (goal.at.returns-clause-told c).Else-is_some) (omega arith) c.if-manner.false))
