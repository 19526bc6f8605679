use Rattle.std.proofs.Common.{sym, ap, ◌∙◌}
use Rattle.qx_machine.specs.Machine.{own_held}
use Rattle.qx_chan.specs.Channel.{Channel}
use Rattle.qx_steps.proofs.FreeLemmas.{any_held, one-freed, one-held, one-unended}
use Rattle.qx_steps.proofs.performing.free_one.Goals as goal
use Rattle.qx_steps.proofs.performing.free_one.Goals.{else-has_ended-via-then-has_ended+else-not-is_held_of, else-has_ended-via-else-has_ended}

pub returns-then-not-is_held_of : goal.returns-then-not-is_held_of
returns-then-not-is_held_of c =
    let held = own_held c.args.proc.user.0 c.args.hands.now in
    let idle = sym (any_held c.args.proc.user.0 c.args.proc.num c.args.hands.now) ∙ sym c.if-not-is_held_of.ensures in
    c.free_ended.ensures.freed ∙ ap (λ (d : Channel). record d { room = c.free_ended.new.self.room }) (sym (one-freed c.args.channel.now held c.args.proc idle))

pub returns-else-has_ended : goal.returns-else-has_ended
returns-else-has_ended c =
    let held = own_held c.args.proc.user.0 c.args.hands.now in
    elim c.else-has_ended.branch [
      | else-has_ended-via-then-has_ended+else-not-is_held_of w ↦
          sym (one-held c.args.channel.now held c.args.proc (sym (any_held c.args.proc.user.0 c.args.proc.num c.args.hands.now) ∙ sym w.if-not-is_held_of.ensures))
      | else-has_ended-via-else-has_ended w ↦ sym (one-unended c.args.channel.now held c.args.proc (sym w.if-has_ended.ensures))
    ]
