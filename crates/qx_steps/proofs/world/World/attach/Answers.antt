use Rattle.std.proofs.Common.{Some, slice_set, sym}
use Rattle.qx_paths.specs.Mounts.{with_mount_of}
use Rattle.qx_rows.proofs.RowLemmas.{set-row}
use Rattle.qx_resources.specs.Mounts.{with_new_root}
use Rattle.qx_steps.proofs.MountLemmas.{attached, attached-can, attached_of, nobody-attached, sound-mount}
use Rattle.qx_steps.proofs.ResultLemmas.{on_err}
use Rattle.qx_steps.proofs.world.World.attach.Goals as goal

pub returns-in_default-clause-ok : goal.returns-in_default-clause-ok
returns-in_default-clause-ok c = absurd (nobody-attached c.self.inside.channel c.self.inside.resources c.args.user.0 c.args.mount.now (sym c.in_default.ensures.row) (rw (← c.self.view_is) at c.requires.can))

pub mount-requires : goal.mount-requires
mount-requires c =
    let own = c.self.invariant.users.own c.args.user.0 c.in-Some.resources.now (sym c.in-Some.ensures.row) in
    record {
      place = c.self.invariant.users.mounts c.args.user.0 c.in-Some.resources.now (sym c.in-Some.ensures.row);
      user = own;
      can = attached-can c.self.inside.channel c.self.inside.resources c.args.user.0 c.in-Some.resources.now c.args.mount.now own (sym c.in-Some.ensures.row) (rw (← c.self.view_is) at c.requires.can);
    }

pub invariant_of-self-in_err-mount : goal.invariant_of-self-in_err-mount
invariant_of-self-in_err-mount c = rw (c.in_err-mount.ensures.err.0, c.in_err-mount.ensures.err.1, set-row c.self.inside.resources c.args.user.0 c.in-Some.resources.now (sym c.in-Some.ensures.row)) c.self.invariant

pub returns-in_err-mount-clause-err : goal.returns-in_err-mount-clause-err
returns-in_err-mount-clause-err c = on_err c.from_residual.result (rw (c.in_err-mount.ensures.err.0, c.in_err-mount.ensures.err.1, set-row c.self.inside.resources c.args.user.0 c.in-Some.resources.now (sym c.in-Some.ensures.row)) c.self.view_is)

pub invariant_of-self-2 : goal.invariant_of-self-2
invariant_of-self-2 c =
    let there = sym c.in-Some.ensures.row in
    let then = record c.self.inside.channel { mounts = with_mount_of c.self.inside.channel.mounts c.args.user.0 c.args.mount.now } in
    let rows = slice_set c.self.inside.resources c.args.user.0 (Some (with_new_root c.args.mount.now.root c.in-Some.resources.now)) in
    rw (c.in_ok-mount.ensures.mounted, c.in_ok-mount.ensures.root)
    (sound-mount c.self.inside.config c.self.inside.channel then c.self.inside.resources rows c.self.inside.hands.items c.args.user.0 c.args.mount.now c.self.invariant (rw (← c.self.view_is) at c.requires.mounting)
    (attached_of c.self.inside.config c.self.inside.channel c.self.inside.resources c.self.inside.hands.items c.self.invariant.users c.args.user.0 c.in-Some.resources.now c.args.mount.now there)
    (attached c.self.inside.config c.self.inside.channel c.self.inside.resources c.self.inside.hands.items c.self.invariant.users c.args.user.0 c.in-Some.resources.now c.args.mount.now there))

pub returns-clause-ok : goal.returns-clause-ok
returns-clause-ok c = rw (c.in_ok-mount.ensures.mounted, c.in_ok-mount.ensures.root, ← c.self.view_is) (attached c.self.inside.config c.self.inside.channel c.self.inside.resources c.self.inside.hands.items c.self.invariant.users c.args.user.0 c.in-Some.resources.now c.args.mount.now (sym c.in-Some.ensures.row))
