use Rattle.std.proofs.Common.{◌≡◌, ◌+◌, ◌++◌, [], ◌∷◌, length, length-append, replicate, sym, ap, ◌∙◌, arith}
use Rattle.std.proofs.lemmas.List.{replicate_more}
use Rattle.qx_notify.proofs.BootLemmas.{empty-kept, empty-more, empty-none, empty-told}
use Rattle.qx_notify.proofs.all.AllEvents.new.Goals as goal

pub users-init : goal.users-init
users-init c = record {
  count = ap length c.new-lists.ensures.items;
  counts = c.new-counts.ensures.items;
  room = ap (λ t. t.room) c.new-table.ensures;
  empty = rw c.new-lists.ensures.items (empty-none c.new-table.result);
}

pub users-preserved : goal.users-preserved
users-preserved c = record {
  count = ap length c.in_ok-push.ensures.items ∙ length-append c.users.lists.items _ ∙ ap (λ n. n + 1) c.users.invariant.count;
  counts = c.in_ok-push-2.ensures.items ∙ ap (λ xs. xs ++ 0 ∷ []) c.users.invariant.counts ∙ replicate_more c.users.counter 0;
  room = c.in_ok-new.ensures.added.room ∙ c.users.invariant.room;
  empty = rw c.in_ok-push.ensures.items (empty-more c.users.table c.new.new.table c.users.lists.items c.in_ok-new.field-0 c.users.invariant.empty c.in_ok-new.ensures.added c.in_ok-new.ensures.places);
}

pub invariant_of-result : goal.invariant_of-result
invariant_of-result c =
    empty-kept c.users.table c.users.lists.items c.users.invariant.empty c.users.counts.items (c.users.invariant.counts ∙ ap (λ n. replicate n 0) (sym c.users.invariant.count))

pub returns : goal.returns
returns c =
    let all : c.users.counter ≡ c.args.users + 1 = omega (arith, c.users-test.false, c.users.auto.counter-end) in
    record { empty = empty-told c.users.table c.users.lists.items c.users.invariant.empty c.args.users (c.users.invariant.count ∙ all) c.users.invariant.room }
