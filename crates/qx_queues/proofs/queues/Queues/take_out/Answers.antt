use Rattle.std.proofs.Common.{◌∙◌, ap, refl, sym}
use Rattle.qx_queues.specs.Queues.{UsersCall}
use Rattle.qx_queues.specs.Waits.{leaves}
use Rattle.qx_queues.proofs.LeavingLemmas.{first-fewer, has-waiting, taken, taken-first, taken-none}
use Rattle.qx_queues.proofs.queues.Queues.take_out.Goals as goal

pub leaving-init : goal.leaving-init
leaving-init c = record { list = c.requires.list; same = refl }

pub take_first-requires : goal.take_first-requires
take_first-requires c = record { list = c.leaving.invariant.list }

pub leaving-preserved : goal.leaving-preserved
leaving-preserved c =
    let test = λ (own : UsersCall). leaves c.args.which own.call in
    record {
      list = rw c.in-Some.ensures.taken (has-waiting c.leaving.self c.args.list _);
      same = ap (taken test c.args.list) c.in-Some.ensures.taken ∙ taken-first test c.args.list c.leaving.self _ (sym c.in-Some.ensures.first) ∙ c.leaving.invariant.same;
    }

pub leaving-smaller : goal.leaving-smaller
leaving-smaller c = rw c.in-Some.ensures.taken (first-fewer (λ own. leaves c.args.which own.call) c.args.list c.leaving.self _ (sym c.in-Some.ensures.first))

pub returns : goal.returns
returns c = c.in_default.ensures.nobody ∙ sym (taken-none (λ own. leaves c.args.which own.call) c.args.list c.leaving.self c.leaving.invariant.list (sym c.in_default.ensures.first)) ∙ c.leaving.invariant.same
