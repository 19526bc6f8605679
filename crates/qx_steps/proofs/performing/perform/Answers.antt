use Rattle.std.proofs.Common.{Some, slice_set, refl, sym, ap, ◌∙◌}
use Rattle.std.proofs.lemmas.Bool.{false≢true}
use Rattle.qx_rows.proofs.RowLemmas.{set-row}
use Rattle.qx_steps.proofs.PerformLemmas.{part-in, performs-disconnect, performs-message, performs-pulse}
use Rattle.qx_steps.proofs.ResultLemmas.{on_err}
use Rattle.qx_steps.proofs.performing.perform.Goals as goal

pub returns-in_err-serve-in-Message-clause-err : goal.returns-in_err-serve-in-Message-clause-err
returns-in_err-serve-in-Message-clause-err c =
    let kept = c.in_err-serve-in-Message.ensures.err in
    on_err c.from_residual.result (kept.0, ap (λ k. slice_set c.args.resources.now c.args.held.user.0 (Some k)) kept.1 ∙ set-row c.args.resources.now c.args.held.user.0 c.in-Some.resources.now (sym c.in-Some.ensures.row))

pub returns-in_err-serve-in-Message-clause-sure : goal.returns-in_err-serve-in-Message-clause-sure
returns-in_err-serve-in-Message-clause-sure c = λ no.
    let own = c.requires.users.own c.args.held.user.0 c.in-Some.resources.now (sym c.in-Some.ensures.row) in
    absurd (false≢true (c.in_err-serve-in-Message.ensures.sure (rw (c.named_thread-thread.ensures, part-in c.args.channel.now c.args.resources.now c.args.held.user.0 c.in-Some.resources.now own (sym c.in-Some.ensures.row)) (rw c.in-Message.is at no))))

pub returns-in_ok-serve-in-Message-clause-ok : goal.returns-in_ok-serve-in-Message-clause-ok
returns-in_ok-serve-in-Message-clause-ok c =
    rw (← c.in-Some.ensures.row) (c.serve.new.resources, (refl, performs-message c.args.config.now c.args.channel.now c.serve.new.self c.in-Some.resources.now c.serve.new.resources c.args.held c.in-Message.process c.in-Message.thread c.args.moment c.named_thread-thread.result c.in-Message.is c.named_thread-thread.ensures c.in_ok-serve-in-Message.ensures.ok))

pub returns-in-Unblock-clause-ok : goal.returns-in-Unblock-clause-ok
returns-in-Unblock-clause-ok c =
    rw (← c.in-Some.ensures.row) (c.cancel.new.resources, (refl, performs-pulse c.args.config.now c.args.channel.now c.cancel.new.self c.in-Some.resources.now c.cancel.new.resources c.args.held c.in-Unblock.process c.in-Unblock.thread c.in-Unblock.call c.args.moment c.named_thread-thread-in-Unblock.result c.in-Unblock.is c.named_thread-thread-in-Unblock.ensures c.cancel.ensures.cancelled))

pub returns-in-Disconnect-clause-ok : goal.returns-in-Disconnect-clause-ok
returns-in-Disconnect-clause-ok c =
    rw (← c.in-Some.ensures.row) (c.disconnect.new.resources, (refl, performs-disconnect c.args.config.now c.args.channel.now c.disconnect.new.self c.in-Some.resources.now c.disconnect.new.resources c.args.held c.in-Disconnect.process c.args.moment c.in-Disconnect.server c.named_process-proc.result c.in-Disconnect.is c.named_process-proc.ensures c.disconnect.ensures.disconnected))
