use Rattle.std.proofs.Common.{rules, ◌≡◌, ◌∙◌, Err, refl, ap}
use Rattle.qx_iofunc.specs.Given as given
use Rattle.qx_iofunc.specs.Store.{Store}
use Rattle.qx_machine.specs.Resources.{Resources}
use Rattle.qx_pipes.proofs.PipesLemmas.{refused, unlinked-told}
use Rattle.qx_pipes.proofs.paths.unlink.Goals as goal
use Rattle.qx_pipes.specs.Pipes.{seen}

pub returns-in-Some : goal.returns-in-Some
returns-in-Some c =
    let does = c.in_ok-gone.ensures in
    let told = λ (r : Resources). unlinked-told c.args.store.now.stored c.unlink.new.self.stored c.args.shared.now _ r c.requires.user does.user c.args.device _ c.in_ok-gone.gone ((rw c.kind_of.ensures at does.unlinked) (seen r c.args.store.now.stored c.args.shared.now)) (rw c.in-Some.is (rw c.user-user.ensures at c.remove.ensures)) in
    record { user = does.user; unlinked = λ r. (told r).told; left = λ r. (told r).follow }

pub returns-in_default : goal.returns-in_default
returns-in_default c =
    let does = c.in_ok-gone.ensures in
    let told = λ (r : Resources). unlinked-told c.args.store.now.stored c.unlink.new.self.stored c.args.shared.now _ r c.requires.user does.user c.args.device _ c.in_ok-gone.gone ((rw c.kind_of.ensures at does.unlinked) (seen r c.args.store.now.stored c.args.shared.now)) (rw c.in_default.is (refl {a = c.args.shared.now})) in
    record { user = does.user; unlinked = λ r. (told r).told; left = λ r. (told r).follow }

pub returns-in_err-gone : goal.returns-in_err-gone
returns-in_err-gone c =
    let failed : c.from_residual.result ≡ Err c.in_err-gone.field-0.0 = search rules in
    let is = λ (r : Resources). (rw c.kind_of.ensures at c.in_err-gone.ensures.unlinked) (seen r c.args.store.now.stored c.args.shared.now) in
    record { user = c.in_err-gone.ensures.user; unlinked = λ r. ap (given.done (seen r c.unlink.new.self.stored c.args.shared.now)) failed ∙ is r; left = λ r. refused (is r) (ap (λ (s : Store). s.stored) c.in_err-gone.ensures.kept) }
