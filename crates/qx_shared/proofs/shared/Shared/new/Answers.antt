use Rattle.std.proofs.Common.{◌≡◌, ◌+◌, ◌++◌, ◌∷◌, [], replicate, ap, arith, ◌∙◌}
use Rattle.std.proofs.lemmas.List.{replicate_more}
use Rattle.qx_shared.proofs.OwnLemmas.{boot-all, boot-told, no_rows}
use Rattle.qx_shared.proofs.shared.Shared.new.Goals as goal

pub users-preserved : goal.users-preserved
users-preserved c = c.in_ok-push.ensures.items ∙ ap (λ none. c.users.pipes.items ++ none ∷ []) c.in_ok-none.ensures.none ∙ ap (λ xs. xs ++ no_rows ∷ []) c.users.invariant ∙ replicate_more c.users.counter no_rows

pub invariant_of-result : goal.invariant_of-result
invariant_of-result c =
    let all : c.users.counter ≡ c.args.users + 1 = omega (arith, c.users-test.false, c.users.auto.counter-end) in
    rw c.in_ok-queues.ensures.empty (boot-all c.args.users c.users.pipes.items (c.users.invariant ∙ ap (λ n. replicate n no_rows) all))

pub returns : goal.returns
returns c =
    let all : c.users.counter ≡ c.args.users + 1 = omega (arith, c.users-test.false, c.users.auto.counter-end) in
    rw c.in_ok-queues.ensures.empty (record { empty = boot-told c.args.users c.users.pipes.items (c.users.invariant ∙ ap (λ n. replicate n no_rows) all) })
