use Rattle.std.proofs.Common.{◌≡◌, ℕ, ◌+◌, ◌/◌, ◌++◌, ◌<◌, arith, ap, take, drop, length, ◌∙◌}
use Rattle.std.proofs.lemmas.Grind.{common_steps}
use Rattle.std.proofs.lemmas.Result.{err_from_is_err_and}
use Rattle.qx_files.specs.Blocks.{blocks_after, blocks_for, with_blocks}
use Rattle.qx_files.specs.inner.Places.{byte_after, byte_at, there}
use Rattle.qx_files.proofs.DataLemmas.{lacks_some, made_all, made_some}
use Rattle.qx_files.proofs.places.write_bytes.Goals as goal

pub returns-in_err-make_lacking-clause-lacks : goal.returns-in_err-make_lacking-clause-lacks
returns-in_err-make_lacking-clause-lacks c =
    let p = err_from_is_err_and c.from_residual.result c.from_residual.ensures.1 in
    let some : 0 < length c.args.new.now = grind arith in
    rw p.1 (lacks_some c.args.places.now.items c.args.offset (length c.args.new.now) some c.in_err-make_lacking.ensures.lacks)

pub put_bytes-requires-clause-made : goal.put_bytes-requires-clause-made
put_bytes-requires-clause-made c =
    rw c.as_slice.ensures.value (made_all c.args.places.now.items c.make_lacking.new.places.items (c.args.offset / 512) (blocks_for (c.args.offset + length c.args.new.now)) c.in_ok-make_lacking.ensures.made)

pub returns-clause-none : goal.returns-clause-none
returns-clause-none c = λ empty.
    let some : 0 < length c.args.new.now = grind arith in
    let long = made_some c.args.places.now.items c.make_lacking.new.places.items c.args.offset (length c.args.new.now) some c.in_ok-make_lacking.ensures.made in
    absurd (omega (arith, empty, long))

pub returns-clause-bytes : goal.returns-clause-bytes
returns-clause-bytes c =
    let back : take c.make_lacking.new.bytes.len (c.put_bytes.new.bytes ++ drop (length c.put_bytes.new.bytes) c.make_lacking.new.bytes.items) ≡ c.put_bytes.new.bytes = grind (arith, common_steps) in
    let put : (n : ℕ) → byte_at c.put_bytes.new.bytes c.make_lacking.new.places.items n ≡ byte_after c.args.offset c.args.new.now (byte_at c.make_lacking.new.bytes.items c.make_lacking.new.places.items) n = rw (← c.as_slice.ensures.value, ← c.as_mut_slice.ensures.value) c.put_bytes.ensures.bytes in
    rw back (λ n. put n ∙ ap (λ before. byte_after c.args.offset c.args.new.now before n) (λ i k. c.in_ok-make_lacking.ensures.bytes k i))

pub returns-clause-there : goal.returns-clause-there
returns-clause-there c =
    let some : 0 < length c.args.new.now = grind arith in
    let old = there c.args.places.now.items in
    let after : with_blocks old (c.args.offset / 512) (blocks_for (c.args.offset + length c.args.new.now)) ≡ blocks_after old c.args.offset (length c.args.new.now) = grind (arith, some) in
    c.in_ok-make_lacking.ensures.made ∙ after
