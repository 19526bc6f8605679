use Rattle.std.proofs.Common.{ap, ◌∙◌}
use Rattle.qx_paths.specs.Mounts.{mounts_of}
use Rattle.qx_notify.specs.Events.{events_of}
use Rattle.qx_pipes.specs.Pipes.{seen}
use Rattle.qx_shared.specs.Shared.{Shared}
use Rattle.qx_resources.specs.State.{told}
use Rattle.qx_resources.specs.contracts.resources.Resources.{the_view}
use Rattle.qx_resources.proofs.resources.Resources.cancel.Goals as goal

pub returns : goal.returns
returns c =
    let tables = c.args.all.now in
    let r = told (the_view c.self.inside) tables in
    let left = c.cancel.ensures.left r in
    rw (← c.self.view_is) (record {
      user = c.cancel.ensures.user;
      waited = c.cancel.ensures.waited r;
      state = ap (λ user. record (seen r c.cancel.new.store.stored c.cancel.new.shared) { mounts = mounts_of tables.mounts user; events = events_of tables.events user }) c.cancel.ensures.user ∙ left.state;
      shared = ap (λ (s : Shared). record tables { shared = s }) left.shared;
    })
