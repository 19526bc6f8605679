use Rattle.std.proofs.Common.{◌≡◌, ◌∙◌, ◌==◌, ℕ, false, not, length, ap, arith}
use Rattle.std.proofs.lemmas.Bool.Decides.{nat_tests}
use Rattle.qx_machine.specs.Settling.{is_living}
use Rattle.qx_notify.specs.Events.{events_of}
use Rattle.qx_resources.proofs.DisconnectLemmas.{triggered-left, unarmed-left}
use Rattle.qx_resources.specs.State.{Kept}
use Rattle.qx_resources.proofs.resources.Resources.disconnect.Goals as goal

none : (count : ℕ) → false ≡ not (count == 0) → count ≡ 0
none count is = grind (arith, nat_tests)

pub returns-then-not-has_armed : goal.returns-then-not-has_armed
returns-then-not-has_armed c =
    let own : c.user.result.0 ≡ c.args.self.now.user = c.user.ensures ∙ ap (λ (k : Kept). k.user) c.self.view_is in
    let unarmed : length (events_of c.args.all.now.events c.args.self.now.user).armed ≡ 0 = rw own at (none (length (events_of c.args.all.now.events c.user.result.0).armed) c.if-not-has_armed.ensures) in
    let left = unarmed-left (is_living c.args.processes.now) c.args.self.now _ c.args.all.now _ c.args.client c.args.moment c.requires.fits c.close_client.ensures unarmed in
    record { user = left.user; state = left.state; shared = left.shared }

pub returns : goal.returns
returns c =
    let left = triggered-left (is_living c.args.processes.now) c.args.self.now _ c.args.all.now _ c.args.client c.args.moment c.requires.fits c.close_client-2.ensures c.all_conditions-before.result _ c.all_conditions-before.ensures c.trigger_all.ensures in
    record { user = left.user; state = left.state; shared = left.shared }
