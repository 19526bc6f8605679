use Rattle.std.proofs.Common.{◌≡◌, ◌<◌, ◌∙◌, arith, get_or, length, rules, refl, Some, None}
use Rattle.qx_machine.specs.declared.rows.Connection.{Connection}
use Rattle.qx_rows.proofs.RowLemmas.{changed_place, same_default, unchanged_row}
use Rattle.qx_process.proofs.connections.set_block.Goals as goal

pub returns-in-Some : goal.returns-in-Some
returns-in-Some c =
    let changed : Connection → Connection = λ connection. record connection { block = Some c.args.block } in
    let within : c.args.coid.0 < length c.deref_mut.result.now = search rules in
    let here : get_or c.deref_mut.result.now c.args.coid.0 c.index-deref_mut-place.result ≡ Some c.in-Some.connection.now = search rules in
    record { block = changed_place _ _ _ changed c.in-Some.connection.now _ c.deref_mut.ensures.value (same_default c.deref_mut.result.now c.args.coid.0 None c.index-deref_mut-place.result within ∙ here) refl }

pub returns-in_default : goal.returns-in_default
returns-in_default c =
    let within : c.args.coid.0 < length c.deref_mut.result.now = search rules in
    let here : get_or c.deref_mut.result.now c.args.coid.0 c.index-deref_mut-place.result ≡ None = search rules in
    let same = same_default c.deref_mut.result.now c.args.coid.0 c.index-deref_mut-place.result None within in
    let none = same_default c.deref_mut.result.now c.args.coid.0 None c.index-deref_mut-place.result within ∙ here in
    rw same (record { block = unchanged_row _ _ _ _ c.deref_mut.ensures.value (omega arith) none })
