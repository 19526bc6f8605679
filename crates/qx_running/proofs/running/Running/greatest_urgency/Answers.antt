use Rattle.std.proofs.Common.{◌≡◌, ◌∙◌, ◌+◌, ◌≤◌, ap, arith, drop, find, length, max, sym}
use Rattle.std.proofs.Math.ListN.{drop_of_length-le}
use Rattle.qx_types.specs.Managers.{manager_number, managers}
use Rattle.qx_types.proofs.Managers.{count_managers}
use Rattle.qx_machine.specs.Reads.{has_item}
use Rattle.qx_running.specs.Running.{greatest_urgency, urgency}
use Rattle.qx_running.proofs.NextLemmas.{empty_urges}
use Rattle.qx_world.proofs.NextLemmas.{next_told, none_told_from}
use Rattle.qx_running.proofs.running.Running.greatest_urgency.Goals as goal

pub returns-in_default : goal.returns-in_default
returns-in_default c =
    let w = c.args.self.now.world in
    let none : max c.managers.most 0 ≡ c.managers.most = omega arith in
    sym none ∙ ap (max c.managers.most) (sym (none_told_from (has_item w) (greatest_urgency w) (empty_urges w) c.managers.number (sym c.in_default.is ∙ c.next_from.ensures ∙ ap (λ v. find (has_item v) (drop c.managers.number managers)) (ap (λ now. now.world) c.self.view_is)))) ∙ c.managers.invariant.most

pub managers-preserved : goal.managers-preserved
managers-preserved c =
    let w = c.args.self.now.world in
    let same = ap (λ now. now.world) c.self.view_is in
    let next = next_told (has_item w) (greatest_urgency w) (empty_urges w) c.managers.number c.in-Some.manager (sym c.in-Some.is ∙ c.next_from.ensures ∙ ap (λ v. find (has_item v) (drop c.managers.number managers)) same) in
    let later = greatest_urgency w (drop (manager_number c.in-Some.manager + 1) managers) in
    let three : max (max c.managers.most c.urgency.result) later ≡ max c.managers.most (max c.urgency.result later) = omega arith in
    record {
      most =
          ap (λ n. max c.max-most.result (greatest_urgency w (drop (n + 1) managers))) c.number-number.ensures.number
          ∙ ap (λ most. max most later) c.max-most.ensures ∙ three
          ∙ ap (λ here. max c.managers.most (max here later)) (c.urgency.ensures ∙ ap (λ v. urgency v c.in-Some.manager) same)
          ∙ ap (max c.managers.most) (sym next.same)
          ∙ c.managers.invariant.most;
      fewer = omega (arith, c.managers.invariant.fewer, next.behind, c.number-number.ensures.number);
    }

pub returns : goal.returns
returns c =
    let all = count_managers in
    let past : length managers ≤ c.managers.number = omega (arith, all, c.count-end.ensures.count, c.managers.invariant.fewer, c.managers-test.false) in
    let none : max c.managers.most 0 ≡ c.managers.most = omega arith in
    sym none ∙ ap (λ some. max c.managers.most (greatest_urgency c.args.self.now.world some)) (sym (drop_of_length-le managers past)) ∙ c.managers.invariant.most
