use Rattle.std.proofs.Common.{rules, ◌≡◌, ◌∷◌, ◌+◌, ◌<◌, [], length, ap, ◌∙◌, arith, get_or}
use Rattle.std.proofs.lemmas.List.{get_or_default}
use Rattle.std.specs.Vec.{vec_capacity}
use Rattle.qx_paths.proofs.RowLemmas.{begun, begun-all, begun-fewer, begun-next, begun-none, length-begun, table-none}
use Rattle.qx_paths.proofs.mounts.Mounts.boot.Goals as goal

pub invariant_of-mounts : goal.invariant_of-mounts
invariant_of-mounts c = rw (c.in_ok-with_capacity.ensures.items) (table-none (c.user_count-places.result + 1) (vec_capacity c.in_ok-with_capacity.field-0) (search rules))

-- before the first user
pub loop-number-init : goal.loop-number-init
loop-number-init c = rw (c.in_ok-with_capacity.ensures.items, c.user_count-places.ensures.count) (begun-none c.args.root c.args.config.now.users)

pub push-requires-clause-user : goal.push-requires-clause-user
push-requires-clause-user c = rw (c.loop-number.invariant) (omega (arith, length-begun c.args.root c.args.config.now.users c.loop-number.number, ap length c.names-name-items.ensures, c.loop-number-test.true))

pub push-requires-clause-fewer : goal.push-requires-clause-fewer
push-requires-clause-fewer c = rw (c.loop-number.invariant) (begun-fewer c.args.root c.args.config.now.users c.loop-number.number)

pub loop-number-preserved : goal.loop-number-preserved
loop-number-preserved c =
    let within : c.loop-number.number < length c.args.config.now.users = omega (arith, ap length c.names-name-items.ensures, c.loop-number-test.true) in
    let name : c.as_slice.result.now ≡ get_or c.args.config.now.users c.loop-number.number [] = c.as_slice.ensures ∙ c.name-item.is ∙ ap (λ names. get_or names c.loop-number.number c.name-item.result) c.names-name-items.ensures ∙ get_or_default c.args.config.now.users c.loop-number.number c.name-item.result [] within in
    rw (c.push.ensures.mounted, c.loop-number.invariant, c.in_ok-top.ensures.mount, name) (begun-next c.args.root c.args.config.now.users c.loop-number.number within)

pub returns : goal.returns
returns c = record { tops = c.loop-number.invariant ∙ ap (λ table. [] ∷ table) (ap (begun c.args.root c.args.config.now.users) (omega (arith, c.loop-number-test.false, c.loop-number.auto.number-end, ap length c.names-name-items.ensures)) ∙ begun-all c.args.root c.args.config.now.users) }
