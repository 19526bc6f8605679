use Rattle.std.proofs.Common.{◌≡◌, None, Some, sym}
use Rattle.qx_isolation.specs.Rows.{row_at}
use Rattle.qx_attr.specs.inner.Blocks.{rows_of}
use Rattle.qx_attr.proofs.BlockLemmas.{nothing-changed, nothing-there, rows-with}
use Rattle.qx_attr.proofs.blocks.Blocks.set.Goals as goal

pub index_mut-requires : goal.index_mut-requires
index_mut-requires c =
    let is : row_at c.self.inside.keys.items c.args.number ≡ Some c.in-Some.key = cc in
    c.self.invariant.keyed.there c.args.number c.in-Some.key is

pub returns-in_default : goal.returns-in_default
returns-in_default c =
    let none : row_at c.self.inside.keys.items c.args.number ≡ None = cc in
    let same = nothing-changed (rows_of c.self.inside.values c.self.inside.keys.items) c.args.number (λ _. c.args.block) (nothing-there c.self.inside.values c.self.inside.keys.items c.args.number none) in
    rw (← c.self.view_is) (record { row = λ i. record { rows = sym same i; made = c.self.inside.made.items; room = c.self.inside.room } })

pub returns : goal.returns
returns c =
    let is : row_at c.self.inside.keys.items c.args.number ≡ Some c.in-Some.key = cc in
    let written = rows-with c.self.inside.values c.self.inside.keys.items c.args.number c.in-Some.key c.args.block c.self.invariant.keyed is in
    rw (← c.self.view_is) (record { row = λ i. record { rows = written i; made = c.self.inside.made.items; room = c.self.inside.room } })
