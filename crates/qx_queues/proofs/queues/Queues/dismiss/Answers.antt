use Rattle.std.proofs.Common.{◌≡◌, ◌∙◌, [], ◌∷◌, ap, refl, sym}
use Rattle.qx_queues.specs.Queues.{UsersCall, answer_to, with_more_answers}
use Rattle.qx_queues.specs.Waits.{handed, leaves, users_call}
use Rattle.qx_queues.proofs.LeavingLemmas.{dismissed, dismissed-first, dismissed-none, first-fewer, first_gone, has-waiting}
use Rattle.qx_queues.proofs.queues.Queues.dismiss.Goals as goal

pub leaving-init : goal.leaving-init
leaving-init c = record { list = c.requires.list; same = refl }

pub take_first-requires : goal.take_first-requires
take_first-requires c = record { list = c.leaving.invariant.list }

pub leaving-preserved : goal.leaving-preserved
leaving-preserved c =
    let test = λ (own : UsersCall). leaves c.args.which own.call in
    let own = users_call c.in-Some.user.0 c.in-Some.call in
    let after : c.answer.new.self ≡ with_more_answers (first_gone test c.args.list c.leaving.self) (answer_to own (handed c.args.answer) ∷ []) =
    c.answer.ensures.answered ∙ ap (λ q. with_more_answers q (answer_to own (handed c.args.answer) ∷ [])) c.in-Some.ensures.taken in
    record {
      list = rw after (has-waiting c.leaving.self c.args.list _);
      same = ap (dismissed test c.args.list (handed c.args.answer)) after ∙ dismissed-first test c.args.list c.leaving.self own (sym c.in-Some.ensures.first) (handed c.args.answer) ∙ c.leaving.invariant.same;
    }

pub leaving-smaller : goal.leaving-smaller
leaving-smaller c =
    let test = λ (own : UsersCall). leaves c.args.which own.call in
    let own = users_call c.in-Some.user.0 c.in-Some.call in
    let after : c.answer.new.self ≡ with_more_answers (first_gone test c.args.list c.leaving.self) (answer_to own (handed c.args.answer) ∷ []) =
    c.answer.ensures.answered ∙ ap (λ q. with_more_answers q (answer_to own (handed c.args.answer) ∷ [])) c.in-Some.ensures.taken in
    rw after (first-fewer test c.args.list c.leaving.self own (sym c.in-Some.ensures.first))

pub returns : goal.returns
returns c =
    let test = λ (own : UsersCall). leaves c.args.which own.call in
    c.in_default.ensures.nobody ∙ sym (dismissed-none test c.args.list c.leaving.self c.leaving.invariant.list (sym c.in_default.ensures.first) (handed c.args.answer)) ∙ c.leaving.invariant.same
