use Rattle.std.proofs.Common.{◌∙◌, refl, sym, vec_capacity}
use Rattle.std.proofs.lemmas.Bool.{false≢true}
use Rattle.qx_chan.specs.Sending.{call_target}
use Rattle.qx_steps.proofs.ClientLemmas.{call-refusal, call-sound, call-step, has-memory, told-refused, told-sent}
use Rattle.qx_steps.proofs.OwnerLemmas.{sound-room}
use Rattle.qx_steps.proofs.ResultLemmas.{on_err}
use Rattle.qx_steps.proofs.world.World.call.Goals as goal

pub invariant_of-self : goal.invariant_of-self
invariant_of-self c = rw c.in_err-called.ensures.err (sound-room c.self.inside.config c.self.inside.channel c.self.inside.resources c.self.inside.hands.items c.self.invariant c.call.new.self.room)

pub returns-in_err-called-clause-sure : goal.returns-in_err-called-clause-sure
returns-in_err-called-clause-sure c =
    rw (← c.self.view_is, call-step c.self.inside.config c.self.inside.channel c.self.inside.resources c.self.inside.hands.items c.self.invariant c.args.thread c.args.request.now)
    (λ refusal. absurd (false≢true (c.in_err-called.ensures.sure (call-refusal _ refusal))))

pub returns-in_err-called-clause-had_room : goal.returns-in_err-called-clause-had_room
returns-in_err-called-clause-had_room c =
    rw (← c.self.view_is)
    (λ has. absurd (false≢true (c.in_err-called.ensures.had_room (has-memory c.self.inside.config c.self.inside.channel c.self.inside.resources c.self.inside.hands.items c.self.invariant (vec_capacity c.self.inside.memory) c.args.thread c.args.request.now has))))

pub returns-in_err-called-clause-err : goal.returns-in_err-called-clause-err
returns-in_err-called-clause-err c = on_err c.from_residual.result (rw c.in_err-called.ensures.err c.self.view_is)

pub invariant_of-self-in-Err : goal.invariant_of-self-in-Err
invariant_of-self-in-Err c = rw c.in_ok-called.ensures.ok (call-sound c.self.inside.config c.self.inside.channel c.self.inside.resources c.self.inside.hands.items c.self.invariant c.args.thread c.args.request.now)

pub returns-in-Err-clause-outcome : goal.returns-in-Err-clause-outcome
returns-in-Err-clause-outcome c =
    rw (← c.self.view_is, call-step c.self.inside.config c.self.inside.channel c.self.inside.resources c.self.inside.hands.items c.self.invariant c.args.thread c.args.request.now)
    (c.outcome.ensures.outcome ∙ sym (told-refused (call_target c.self.inside.config c.self.inside.channel c.args.thread c.args.request.now) c.in-Err.refusal (sym c.in-Err.is ∙ c.in_ok-called.ensures.outcome)))

pub returns-in-Err-clause-world : goal.returns-in-Err-clause-world
returns-in-Err-clause-world c =
    rw (← c.self.view_is, call-step c.self.inside.config c.self.inside.channel c.self.inside.resources c.self.inside.hands.items c.self.invariant c.args.thread c.args.request.now, c.in_ok-called.ensures.ok) refl

pub invariant_of-self-2 : goal.invariant_of-self-2
invariant_of-self-2 c = rw c.in_ok-called.ensures.ok (call-sound c.self.inside.config c.self.inside.channel c.self.inside.resources c.self.inside.hands.items c.self.invariant c.args.thread c.args.request.now)

pub returns-clause-outcome : goal.returns-clause-outcome
returns-clause-outcome c =
    rw (← c.self.view_is, call-step c.self.inside.config c.self.inside.channel c.self.inside.resources c.self.inside.hands.items c.self.invariant c.args.thread c.args.request.now, c.sent_outcome.ensures)
    (sym (told-sent (call_target c.self.inside.config c.self.inside.channel c.args.thread c.args.request.now) c.in_ok-called.called c.in_ok-called.ensures.outcome c.in_default.not-Err))

pub returns-clause-world : goal.returns-clause-world
returns-clause-world c =
    rw (← c.self.view_is, call-step c.self.inside.config c.self.inside.channel c.self.inside.resources c.self.inside.hands.items c.self.invariant c.args.thread c.args.request.now, c.in_ok-called.ensures.ok, c.sent_outcome.ensures) refl
