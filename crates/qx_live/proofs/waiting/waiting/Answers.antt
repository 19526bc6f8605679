use Rattle.std.proofs.Common.{◌≡◌, ◌∙◌, ◌+◌, ◌≤◌, ap, arith, drop, length, sym}
use Rattle.std.proofs.Math.ListN.{drop_of_length-le}
use Rattle.std.specs.Prelude.{sum_by}
use Rattle.qx_types.specs.Managers.{manager_number, managers}
use Rattle.qx_types.proofs.Managers.{count_managers}
use Rattle.qx_machine.specs.Reads.{has_item}
use Rattle.qx_world.proofs.NextLemmas.{next_told, none_told_from}
use Rattle.qx_live.proofs.Emptied.{empty_waits, line_of_each, more_waits, waits_among}
use Rattle.qx_live.proofs.Reached.{reached_lines}
use Rattle.qx_live.proofs.waiting.waiting.Goals as goal

pub returns-in_default-clause-number : goal.returns-in_default-clause-number
returns-in_default-clause-number c =
    let w = c.args.world.now in
    let none = none_told_from (has_item w) (waits_among w) (empty_waits w) c.lines.number (sym c.in_default.is ∙ c.next_from.ensures) in
    let all = ap (sum_by length) (line_of_each w (reached_lines w c.know_reached.ensures)) in
    (omega (arith, none, c.lines.invariant.sum)) ∙ all

pub returns-clause-number : goal.returns-clause-number
returns-clause-number c =
    let w = c.args.world.now in
    let all = count_managers in
    let past : length managers ≤ c.lines.number = omega (arith, all, c.count-end.ensures.count, c.lines.invariant.fewer, c.lines-test.false) in
    let none : waits_among w (drop c.lines.number managers) ≡ 0 = ap (waits_among w) (drop_of_length-le managers past) in
    (omega (arith, none, c.lines.invariant.sum)) ∙ ap (sum_by length) (line_of_each w (reached_lines w c.know_reached.ensures))

pub lines-preserved : goal.lines-preserved
lines-preserved c =
    let w = c.args.world.now in
    let next = next_told (has_item w) (waits_among w) (empty_waits w) c.lines.number c.in-Some.manager (sym c.in-Some.is ∙ c.next_from.ensures) in
    let more = next.same ∙ more_waits w c.in-Some.manager (drop (manager_number c.in-Some.manager + 1) managers) in
    let place = ap (λ n. waits_among w (drop (n + 1) managers)) c.number-number.ensures.number in
    record {
      sum = omega (arith, more, place, c.waiting.ensures, c.lines.invariant.sum);
      small = omega (arith, c.lines.invariant.small);
      fewer = omega (arith, c.lines.invariant.fewer, next.behind, c.number-number.ensures.number);
    }
