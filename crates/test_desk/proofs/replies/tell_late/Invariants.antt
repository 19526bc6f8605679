use Rattle.std.proofs.Common.{◌≡◌, ◌++◌, drop}
use Rattle.test_desk.specs.Asking.{late, still}
use Rattle.test_desk.proofs.replies.tell_late.Given as goal

-- the answers so far, and those to the requests that are left
abbrev pub invariant-waiting : goal.invariant-waiting
invariant-waiting l = record {
  left : l.left.items ++ still l.seen (drop l.one-index l.waiting) ≡ still l.seen l.waiting;
  told : l.told.items ++ late l.seen (drop l.one-index l.waiting) ≡ l.initial.told.items ++ late l.seen l.waiting;
}
