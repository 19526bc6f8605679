use Rattle.std.specs.Prelude.{is_some}
use Rattle.std.proofs.Common.{◌≡◌, false, List, [], ◌∷◌, slice_get, ap, refl, subst, sym, ◌∙◌}
use Rattle.std.proofs.lemmas.Bool.{false≢true}
use Rattle.qx_queues.specs.Queues.{UsersAnswer}
use Rattle.qx_shared.specs.Shared.{Shared}
use Rattle.qx_chan.specs.inner.Kept.{StandTogether}
use Rattle.qx_chan.proofs.answers.give_answers.Goals as goal

-- where there is no first one there is none
nobody : (answers : List UsersAnswer) → is_some (slice_get answers 0) ≡ false → answers ≡ []
nobody [] none = refl
nobody (first ∷ answers) none = absurd (false≢true (sym none))

cleared : (queues : Shared) → is_some (slice_get queues.answered 0) ≡ false → ◌≡◌ {A = Shared} (record queues { answered = [] }) queues
cleared queues none = ap (λ answers. record queues { answered = answers }) (sym (nobody queues.answered none))

pub returns-else-has_answered-clause-users : goal.returns-else-has_answered-clause-users
returns-else-has_answered-clause-users c =
    rw (nobody c.args.queues.now.answered (sym c.has_answered.ensures.answered ∙ c.if-has_answered.false)) refl

pub returns-else-has_answered-clause-queues : goal.returns-else-has_answered-clause-queues
returns-else-has_answered-clause-queues c =
    rw (nobody c.args.queues.now.answered (sym c.has_answered.ensures.answered ∙ c.if-has_answered.false)) refl

pub returns-else-has_answered-clause-kept : goal.returns-else-has_answered-clause-kept
returns-else-has_answered-clause-kept c =
    subst (λ queues. StandTogether c.args.users.now queues) (cleared c.args.queues.now (sym c.has_answered.ensures.answered ∙ c.if-has_answered.false)) c.requires.answering.kept
