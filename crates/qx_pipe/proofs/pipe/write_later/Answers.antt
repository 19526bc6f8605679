use Rattle.std.proofs.Common.{◌≡◌, ◌∙◌, ap, take}
use Rattle.std.proofs.lemmas.List.{take_all}
use Rattle.qx_types.specs.declared.limits.TheConstants.Limits.{TRANSFER}
use Rattle.qx_machine.specs.Waiting.{waiting_call}
use Rattle.qx_pipe.proofs.pipe.write_later.Goals as goal

-- it waits with all of its bytes
call_is : (c : goal.After-wait_unless) → c.writing-call.result ≡ waiting_call c.args.opened 0 c.args.bytes.now
call_is c = c.writing-call.ensures.call ∙ ap (waiting_call c.args.opened 0) (ap (take TRANSFER) c.set.ensures.set ∙ take_all TRANSFER c.args.bytes.now c.requires.few)

pub returns-clause-after : goal.returns-clause-after
returns-clause-after c =
    let did = rw (call_is c) at c.wait_unless.ensures in
    did.after

pub returns-clause-filled : goal.returns-clause-filled
returns-clause-filled c =
    let did = rw (call_is c) at c.wait_unless.ensures in
    did.filled
