use Rattle.std.proofs.Common.{◌≡◌, ◌∙◌, ◌+◌, ◌≤◌, Some, true, false, cond, ap, arith, drop, find, length, sym}
use Rattle.std.proofs.Math.ListN.{drop_of_length-le}
use Rattle.qx_types.specs.Managers.{manager_number, managers}
use Rattle.qx_types.proofs.Managers.{count_managers}
use Rattle.qx_machine.specs.Reads.{has_item}
use Rattle.qx_running.specs.Running.{is_as_urgent}
use Rattle.qx_running.proofs.NextLemmas.{empty_found}
use Rattle.qx_world.proofs.NextLemmas.{next_told, none_told_from}
use Rattle.qx_running.proofs.running.Running.first_urgent.Goals as goal

pub returns-in_err-manager : goal.returns-in_err-manager
returns-in_err-manager c =
    let w = c.args.self.now.world in
    c.from_residual.ensures ∙ sym (none_told_from (has_item w) (find (is_as_urgent w c.args.most)) (empty_found w c.args.most) c.managers.number (sym c.in_err-manager.was ∙ c.next_from.ensures ∙ ap (λ v. find (has_item v) (drop c.managers.number managers)) (ap (λ now. now.world) c.self.view_is))) ∙ c.managers.invariant.first

pub returns-then-is_urgent : goal.returns-then-is_urgent
returns-then-is_urgent c =
    let w = c.args.self.now.world in
    let same = ap (λ now. now.world) c.self.view_is in
    let q = is_as_urgent w c.args.most in
    let manager = c.in_ok-manager.manager in
    let next = next_told (has_item w) (find q) (empty_found w c.args.most) c.managers.number manager (sym c.in_ok-manager.was ∙ c.next_from.ensures ∙ ap (λ v. find (has_item v) (drop c.managers.number managers)) same) in
    let passes : q manager ≡ true = ap (λ v. is_as_urgent v c.args.most manager) (sym same) ∙ sym c.is_urgent.ensures ∙ c.if-is_urgent.true in
    sym (ap (λ test. cond test (Some manager) (find q (drop (manager_number manager + 1) managers))) passes) ∙ sym next.same ∙ c.managers.invariant.first

pub managers-preserved : goal.managers-preserved
managers-preserved c =
    let w = c.args.self.now.world in
    let same = ap (λ now. now.world) c.self.view_is in
    let q = is_as_urgent w c.args.most in
    let manager = c.in_ok-manager.manager in
    let next = next_told (has_item w) (find q) (empty_found w c.args.most) c.managers.number manager (sym c.in_ok-manager.was ∙ c.next_from.ensures ∙ ap (λ v. find (has_item v) (drop c.managers.number managers)) same) in
    let fails : q manager ≡ false = ap (λ v. is_as_urgent v c.args.most manager) (sym same) ∙ sym c.is_urgent.ensures ∙ c.if-is_urgent.false in
    record {
      first =
          ap (λ n. find q (drop (n + 1) managers)) c.number-number.ensures.number
          ∙ sym (ap (λ test. cond test (Some manager) (find q (drop (manager_number manager + 1) managers))) fails)
          ∙ sym next.same ∙ c.managers.invariant.first;
      fewer = omega (arith, c.managers.invariant.fewer, next.behind, c.number-number.ensures.number);
    }

pub returns : goal.returns
returns c =
    let all = count_managers in
    let past : length managers ≤ c.managers.number = omega (arith, all, c.count-end.ensures.count, c.managers.invariant.fewer, c.managers-test.false) in
    ap (find (is_as_urgent c.args.self.now.world c.args.most)) (sym (drop_of_length-le managers past)) ∙ c.managers.invariant.first
