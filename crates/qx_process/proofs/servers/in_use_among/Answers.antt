use Rattle.std.proofs.Common.{◌≡◌, ◌<◌, ◌≤◌, None, get_or, length, sym, ◌∙◌, ap, arith, true, below_more}
use Rattle.qx_machine.specs.Servers.{is_in_use}
use Rattle.qx_process.proofs.ServerLemmas.{in_use_at, in_use_nowhere}
use Rattle.qx_process.proofs.servers.in_use_among.Goals as goal

pub returns-then-is_in_use : goal.returns-then-is_in_use
returns-then-is_in_use c =
    let places = c.args.places.now.items in
    let number = c.loop-number.number in
    let is : is_in_use (get_or places number None) ≡ true = ap (λ all. is_in_use (get_or all number None)) (sym c.deref.ensures.0) ∙ sym c.is_in_use.ensures ∙ c.if-is_in_use.true in
    let here : number < length places = omega arith in
    record { number = sym (in_use_at places number here c.loop-number.invariant is) }

pub loop-number-preserved : goal.loop-number-preserved
loop-number-preserved c =
    let places = c.args.places.now.items in
    let number = c.loop-number.number in
    below_more _ _ c.loop-number.invariant
    (ap (λ all. is_in_use (get_or all number None)) (sym c.deref.ensures.0) ∙ sym c.is_in_use.ensures ∙ c.if-is_in_use.false)

pub returns : goal.returns
returns c =
    let places = c.args.places.now.items in
    let all : length places ≤ c.loop-number.number = omega arith in
    record { number = sym (in_use_nowhere places c.loop-number.number all c.loop-number.invariant) }
