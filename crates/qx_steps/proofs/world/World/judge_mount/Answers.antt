use Rattle.std.proofs.Common.{rules, ◌≡◌, true, refl, sym, ap, ◌∙◌}
use Rattle.qx_types.specs.Configuration.{name_bytes}
use Rattle.qx_paths.specs.Mounts.{mounts_of}
use Rattle.qx_isolation.specs.Judgements.{or_refused}
use Rattle.qx_machine.specs.Mounting.{new_mount}
use Rattle.qx_isolation.specs.Rows.{row_at}
use Rattle.qx_resources.specs.Mounts as mounts
use Rattle.qx_resources.specs.State.{told}
use Rattle.qx_chan.specs.Channel.{lists}
use Rattle.qx_steps.specs.inner.Parts.{told_all, world_of}
use Rattle.qx_steps.specs.inner.Reads.{is_thread_ready}
use Rattle.qx_machine.specs.Reads.{row_among_parts}
use Rattle.qx_steps.specs.inner.Steps.{CanMount}
use Rattle.qx_steps.proofs.MountLemmas.{nobody-mount, ready-mount, still_ok}
use Rattle.qx_steps.proofs.OwnerLemmas.{settled_sound}
use Rattle.qx_steps.proofs.PartsLemmas.{told-none, told-there}
use Rattle.qx_steps.proofs.world.World.judge_mount.Goals as goal

pub returns-in_default-clause-mount : goal.returns-in_default-clause-mount
returns-in_default-clause-mount c =
    let w = world_of c.self.inside.config c.self.inside.channel c.self.inside.resources c.self.inside.hands.items in
    let nobody = told-none c.self.inside.channel c.self.inside.resources c.args.thread.proc.user.0 (sym c.in_default.ensures.row) in
    rw (← c.self.view_is) (sym (nobody-mount w c.self.inside.channel.users (told_all c.self.inside.channel c.self.inside.resources) c.args.thread c.args.path.now c.args.manager refl nobody))

pub returns-clause-can : goal.returns-clause-can
returns-clause-can c =
    let w = world_of c.self.inside.config c.self.inside.channel c.self.inside.resources c.self.inside.hands.items in
    let r = told c.in-Some.resources.now (lists c.self.inside.channel) in
    let there = told-there c.self.inside.channel c.self.inside.resources c.args.thread.proc.user.0 c.in-Some.resources.now (sym c.in-Some.ensures.row) in
    let refused : c.map_err.result ≡ or_refused c.new_mount.result = search rules in
    let is : is_thread_ready (row_among_parts c.args.self.now.parts c.args.thread) ≡ true = search rules in
    let can = (ready-mount w c.self.inside.channel.users (told_all c.self.inside.channel c.self.inside.resources) c.args.thread c.args.path.now c.args.manager r refl there (rw (← c.self.view_is) at is)).1 in
    rw (refused, ← c.self.view_is)
    (still_ok c.new_mount.result (λ mount. mounts.IsNextMount (mounts_of c.mounts-mounts.result.now c.in-Some.resources.now.user) c.in-Some.resources.now mount) (λ mount. CanMount (row_at w.parts c.args.thread.proc.user.0) mount) (λ mount free. can mount (rw (← c.mounts-mounts.ensures.mounts) free.free, free.next)) c.new_mount.ensures.can)

pub returns-clause-mount : goal.returns-clause-mount
returns-clause-mount c =
    let w = world_of c.self.inside.config c.self.inside.channel c.self.inside.resources c.self.inside.hands.items in
    let r = told c.in-Some.resources.now (lists c.self.inside.channel) in
    let there = told-there c.self.inside.channel c.self.inside.resources c.args.thread.proc.user.0 c.in-Some.resources.now (sym c.in-Some.ensures.row) in
    let refused : c.map_err.result ≡ or_refused c.new_mount.result = search rules in
    let is : is_thread_ready (row_among_parts c.args.self.now.parts c.args.thread) ≡ true = search rules in
    let judged = (ready-mount w c.self.inside.channel.users (told_all c.self.inside.channel c.self.inside.resources) c.args.thread c.args.path.now c.args.manager r refl there (rw (← c.self.view_is) at is)).0 in
    let path = c.new_mount.ensures.mount (lists c.self.inside.channel) (sym c.mounts-mounts.ensures.mounts) in
    let given : c.new_mount.result ≡ new_mount (name_bytes c.self.inside.config c.args.thread.proc.user.0) c.args.path.now c.args.manager r = search rules in
    rw (refused, ← c.self.view_is) (ap or_refused given ∙ sym judged)

pub returns-in_default-clause-settled : goal.returns-in_default-clause-settled
returns-in_default-clause-settled c = rw (← c.self.view_is) (settled_sound c.self.inside.config c.self.inside.channel c.self.inside.resources c.self.inside.hands.items c.self.invariant)

pub returns-then-not-is_ready-clause-settled : goal.returns-then-not-is_ready-clause-settled
returns-then-not-is_ready-clause-settled c = rw (← c.self.view_is) (settled_sound c.self.inside.config c.self.inside.channel c.self.inside.resources c.self.inside.hands.items c.self.invariant)

pub returns-clause-settled : goal.returns-clause-settled
returns-clause-settled c = rw (← c.self.view_is) (settled_sound c.self.inside.config c.self.inside.channel c.self.inside.resources c.self.inside.hands.items c.self.invariant)
