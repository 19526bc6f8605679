use Rattle.std.proofs.Common.{◌≡◌, ◌∙◌, ◌-◌, Some, ap, arith, drop, length, length-drop, length-take, min, option_copied, slice_get, sym, take}
use Rattle.std.specs.Prelude.{◌+◌}
use Rattle.qx_running.proofs.PieceLemmas.{copied_all, copied_more, copied_none}
use Rattle.qx_running.proofs.running.Running.copies.Goals as goal
use Rattle.qx_running.proofs.running.Running.copies.Goals.{in-Some+in_ok-clone, in_default}

pub loop-number-preserved : goal.loop-number-preserved
loop-number-preserved c =
    let read = c.get.ensures ∙ ap (λ now. slice_get now.last (c.args.skipped + c.loop-number.number)) c.self.view_is in
    let few = c.loop-number.invariant.few in
    elim c.match-get.branch [
      | in-Some+in_ok-clone w ↦ rw (w.steps-is) (record {
        copied = rw (w.push_reserved.ensures.items, c.loop-number.invariant.copied) (copied_more c.args.self.now.last c.args.skipped c.loop-number.number _ (ap Some w.in_ok-clone.ensures.cases ∙ ap option_copied (sym w.in-Some.is) ∙ read));
        room = w.push_reserved.ensures.capacity ∙ c.loop-number.invariant.room;
        few = let len = w.push_reserved.ensures.len in omega (arith, len, few);
      })
      | in_default w ↦ rw (w.steps-is) (record {
        copied = c.loop-number.invariant.copied ∙ copied_none c.args.self.now.last c.args.skipped c.loop-number.number (ap option_copied (sym w.in_default.is) ∙ read);
        room = c.loop-number.invariant.room;
        few = omega (arith, few);
      })
    ]

-- all of them were read
reached_all : (c : goal.After-loop-number) → c.loop-number.number ≡ min 64 (length c.args.self.now.last - c.args.skipped)
reached_all c =
    let last = c.args.self.now.last in
    let same : length c.self.inside.recorder.items ≡ length last = ap (λ now. length now.last) c.self.view_is in
    let len = c.len.ensures.len in
    let left = c.saturating_sub.ensures in
    let count = c.min-count.ensures in
    let reached = c.loop-number-test.false in
    let within = c.loop-number.auto.number-end in
    omega (arith, same, len, left, count, reached, within)

pub returns-clause-steps : goal.returns-clause-steps
returns-clause-steps c =
    let last = c.args.self.now.last in
    c.loop-number.invariant.copied ∙ ap (λ n. take n (drop c.args.skipped last)) (reached_all c) ∙ copied_all last c.args.skipped 64

pub returns-clause-capacity : goal.returns-clause-capacity
returns-clause-capacity c =
    let rest = drop c.args.skipped c.args.self.now.last in
    let all = reached_all c in
    let size = ap length c.loop-number.invariant.copied ∙ length-take c.loop-number.number rest in
    let left = length-drop c.args.skipped c.args.self.now.last in
    let count = c.min-count.ensures in
    let reached = c.loop-number-test.false in
    let within = c.loop-number.auto.number-end in
    omega (arith, all, size, left, count, reached, within, c.loop-number.invariant.room, c.loop-number.steps.ok.0)
