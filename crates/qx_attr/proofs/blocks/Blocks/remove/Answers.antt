use Rattle.std.proofs.Common.{rules, ◌≡◌, ◌==◌, not, arith, filter, is_some, None, refl, Some, sym}
use Rattle.std.proofs.Math.ListN.{length-set}
use Rattle.std.proofs.lemmas.Fn.{filter_same}
use Rattle.qx_isolation.specs.Rows.{row_at}
use Rattle.qx_attr.specs.inner.Blocks.{rows_of}
use Rattle.qx_attr.proofs.BlockLemmas.{keyed-without, row-of, rows-without, nothing-freed, nothing-there}
use Rattle.qx_attr.proofs.CountLemmas.{count-free}
use Rattle.qx_attr.proofs.MadeLemmas.{made_without, nothing_unmade}
use Rattle.qx_attr.proofs.blocks.Blocks.remove.Goals as goal

pub remove-requires : goal.remove-requires
remove-requires c =
    let is : row_at c.self.inside.keys.items c.args.number ≡ Some c.in_ok-key.key = search rules in
    c.self.invariant.keyed.there c.args.number c.in_ok-key.key is

pub returns-in_err-key : goal.returns-in_err-key
returns-in_err-key c =
    let inside = c.self.inside in
    let none : row_at inside.keys.items c.args.number ≡ None = search rules in
    let no_row = nothing-there inside.values inside.keys.items c.args.number none in
    let rows = sym (nothing-freed (rows_of inside.values inside.keys.items) c.args.number no_row) in
    let made = sym (nothing_unmade inside.keys.items inside.made.items c.args.number c.self.invariant.once none) in
    rw (← c.self.view_is) (record { block = search rules; row = λ i. record { rows = rows i; made = made i; room = inside.room } })

pub invariant_of-self : goal.invariant_of-self
invariant_of-self c =
    let inside = c.self.inside in
    let is : row_at inside.keys.items c.args.number ≡ Some c.in_ok-key.key = search rules in
    let same = length-set inside.keys.items c.args.number None in
    let left : c.retain.new.self.items ≡ filter (λ other. not (other == c.args.number)) inside.made.items = filter_same _ _ _ (λ x b f' k. search rules) _ _ c.retain.ensures.filtered in
    record {
      keyed = keyed-without inside.values c.remove.new.self inside.keys.items c.args.number c.in_ok-key.key c.self.invariant.keyed is c.remove.ensures.updates;
      held = omega (arith, count-free is_some refl inside.keys.items c.args.number c.in_ok-key.key is);
      once = rw left (made_without inside.keys.items inside.made.items c.args.number c.self.invariant.once);
      some = omega (arith, same);
      numbers = c.self.invariant.numbers;
      no_more = omega (arith, same);
      slots = omega arith;
      places = omega arith;
    }

pub returns : goal.returns
returns c =
    let inside = c.self.inside in
    let is : row_at inside.keys.items c.args.number ≡ Some c.in_ok-key.key = search rules in
    let rows = rows-without inside.values c.remove.new.self inside.keys.items c.args.number c.in_ok-key.key c.self.invariant.keyed is c.remove.ensures.updates in
    let made : c.retain.new.self.items ≡ filter (λ other. not (other == c.args.number)) inside.made.items = filter_same _ _ _ (λ x b f' k. search rules) _ _ c.retain.ensures.filtered in
    rw (← c.self.view_is) (record {
      block = rw (row-of inside.values inside.keys.items c.args.number, is) (sym c.remove.ensures.value);
      row = λ i. record { rows = rows i; made = made i; room = inside.room };
    })
