use Rattle.std.proofs.Common.{◌≡◌, ◌∙◌, ◌<◌, Some, None, length, slice_get, refl, sym, ap, arith}
use Rattle.std.specs.Option.{option_copied}
use Rattle.qx_shared.specs.declared.side.Side.TheVariants.{Reading}
use Rattle.qx_shared.specs.Shared.{first_told, pipe_at}
use Rattle.qx_pipe.proofs.TurnLemmas.{fewer-last, fewer-then, none-told, rested-last, settle-passed, settle-reader, settle-rested, settle-taken, some-first, told-device, told-fewer, turned-last, turns}
use Rattle.qx_pipe.proofs.pipe.turn.Goals as goal
use Rattle.qx_pipe.proofs.pipe.turn.Goals.{After-pass_bytes, Else-is_some, In_ok-writer, Joined-stand-ne0, else-stand-ne0, then-stand-ne0+in_default-first_waiting}

-- ---- a device

pub returns-in-Some-clause-turned : goal.returns-in-Some-clause-turned
returns-in-Some-clause-turned c =
    let p = pipe_at c.args.shared.now c.args.user.0 c.args.inode in
    turns c.args.shared.now c.serve_first.new.self c.args.user.0 c.args.inode c.requires.pipe _ c.serve_first.ensures.served c.in-Some.more (told-device Reading p (first_told Reading p))
    (settle-reader p (sym c.in-Some.ensures.told)) c.in-Some.ensures.written

pub returns-in-Some-clause-fewer : goal.returns-in-Some-clause-fewer
returns-in-Some-clause-fewer c = fewer-then c.args.shared.now c.serve_first.new.self c.args.user.0 c.args.inode c.requires.pipe _ c.serve_first.ensures.served (told-fewer Reading (pipe_at c.args.shared.now c.args.user.0 c.args.inode) (sym c.in-Some.ensures.told))

pub returns-then-is_some-clause-turned : goal.returns-then-is_some-clause-turned
returns-then-is_some-clause-turned c =
    let last = rw c.in_default.ensures.same at c.serve_first-then-is_some.ensures in
    turned-last c.args.shared.now c.serve_first-then-is_some.new.self c.args.user.0 c.args.inode c.requires.pipe last.served c.serve_first-then-is_some.result (none-told _ (sym c.in_default.ensures.told)) last.told last.written

pub returns-then-is_some-clause-fewer : goal.returns-then-is_some-clause-fewer
returns-then-is_some-clause-fewer c =
    let last = rw c.in_default.ensures.same at c.serve_first-then-is_some.ensures in
    fewer-last c.args.shared.now c.serve_first-then-is_some.new.self c.args.user.0 c.args.inode c.requires.pipe last.served c.serve_first-then-is_some.result last.told

pub returns-then-is_some-clause-rested : goal.returns-then-is_some-clause-rested
returns-then-is_some-clause-rested c =
    let last = rw c.in_default.ensures.same at c.serve_first-then-is_some.ensures in
    rested-last c.args.shared.now c.serve_first-then-is_some.new.self c.args.user.0 c.args.inode c.requires.pipe c.serve_first-then-is_some.result (none-told _ (sym c.in_default.ensures.told)) last.told

-- ---- a pipe

is_pipe : (c : Else-is_some) → (pipe_at c.args.shared.now c.args.user.0 c.args.inode).device ≡ None
is_pipe c = sym c.requires.device ∙ none-told c.args.device (sym c.is_some.ensures ∙ c.if-is_some.false)

reader_is : (c : After-pass_bytes) → slice_get (pipe_at c.args.shared.now c.args.user.0 c.args.inode).readers 0 ≡ Some c.in-Some-first_waiting.reader.now
reader_is c = sym c.first_waiting.ensures ∙ ap option_copied c.in-Some-first_waiting.is

pub returns-in-Some-first_waiting-clause-turned : goal.returns-in-Some-first_waiting-clause-turned
returns-in-Some-first_waiting-clause-turned c =
    turns c.args.shared.now c.pass_bytes.new.self c.args.user.0 c.args.inode c.requires.pipe _ c.pass_bytes.ensures.passed c.pass_bytes.result refl
    (settle-passed (pipe_at c.args.shared.now c.args.user.0 c.args.inode) (is_pipe (goal.at.returns-in-Some-first_waiting-clause-turned c).Else-is_some) c.in-Some-first_waiting.reader.now c.min-count.result (omega arith) (reader_is c) (omega arith)) c.pass_bytes.ensures.written

pub returns-in-Some-first_waiting-clause-fewer : goal.returns-in-Some-first_waiting-clause-fewer
returns-in-Some-first_waiting-clause-fewer c = fewer-then c.args.shared.now c.pass_bytes.new.self c.args.user.0 c.args.inode c.requires.pipe _ c.pass_bytes.ensures.passed (omega (arith, some-first _ _ (reader_is c)))

-- no reader waits beside bytes, once the readers were asked
none_reads : (c : Joined-stand-ne0) → 0 < length (pipe_at c.args.shared.now c.args.user.0 c.args.inode).bytes → slice_get (pipe_at c.args.shared.now c.args.user.0 c.args.inode).readers 0 ≡ None
none_reads c = λ stand. elim c.if-stand-ne0.branch [
  | then-stand-ne0+in_default-first_waiting w ↦ sym w.first_waiting.ensures ∙ ap option_copied w.in_default-first_waiting.is
  | else-stand-ne0 w ↦ absurd (omega (arith, w.if-stand-ne0.false))
]

writer_is : (c : In_ok-writer) → slice_get (pipe_at c.args.shared.now c.args.user.0 c.args.inode).writers 0 ≡ Some c.in_ok-writer.writer.now
writer_is c = sym c.first_waiting-2.ensures ∙ ap option_copied c.in_ok-writer.was

pub returns-in_err-writer-clause-rested : goal.returns-in_err-writer-clause-rested
returns-in_err-writer-clause-rested c =
    let p = pipe_at c.args.shared.now c.args.user.0 c.args.inode in
    let at = goal.at.returns-in_err-writer-clause-rested c in
    let nobody : slice_get p.writers 0 ≡ None = sym c.first_waiting-2.ensures ∙ ap option_copied c.in_err-writer.was in
    rw c.from_residual.ensures (settle-rested p (is_pipe at.Else-is_some) (none_reads at.Joined-stand-ne0) (λ writer first. let clash : None ≡ Some writer = sym nobody ∙ first in absurd (cc)))

pub returns-then-bytes-stand-clause-rested : goal.returns-then-bytes-stand-clause-rested
returns-then-bytes-stand-clause-rested c =
    let at = goal.at.returns-then-bytes-stand-clause-rested c in
    let first_is = writer_is at.In_ok-writer in
    settle-rested (pipe_at c.args.shared.now c.args.user.0 c.args.inode) (is_pipe at.Else-is_some) (none_reads at.Joined-stand-ne0) (λ writer first. let same : writer ≡ c.in_ok-writer.writer.now = cc (first, first_is) in rw same (omega (arith, ap length c.bytes.ensures.bytes)))

pub returns-clause-turned : goal.returns-clause-turned
returns-clause-turned c =
    let at = goal.at.returns-clause-turned c in
    turns c.args.shared.now c.take_bytes.new.self c.args.user.0 c.args.inode c.requires.pipe _ c.take_bytes.ensures.taken c.take_bytes.result refl
    (settle-taken (pipe_at c.args.shared.now c.args.user.0 c.args.inode) (is_pipe at.Else-is_some) c.in_ok-writer.writer.now (none_reads at.Joined-stand-ne0) (writer_is at.In_ok-writer) (omega (arith, ap length c.bytes.ensures.bytes))) c.take_bytes.ensures.written

pub returns-clause-fewer : goal.returns-clause-fewer
returns-clause-fewer c = fewer-then c.args.shared.now c.take_bytes.new.self c.args.user.0 c.args.inode c.requires.pipe _ c.take_bytes.ensures.taken (omega (arith, some-first _ _ (writer_is (goal.at.returns-clause-fewer c).In_ok-writer)))
