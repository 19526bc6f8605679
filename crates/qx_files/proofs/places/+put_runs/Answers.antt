use Rattle.std.proofs.Common.{rules, ◌≡◌, ◌-◌, ◌/◌, ◌<◌, arith, length}
use Rattle.qx_files.specs.inner.Places.{byte_at}
use Rattle.qx_files.proofs.BlockLemmas.{has_rest, has_row, runs_put}
use Rattle.qx_files.proofs.places.+put_runs.Goals as goal

pub put_run-requires-clause-made : goal.put_run-requires-clause-made
put_run-requires-clause-made t c =
    let some : 0 < length c.args.new.now = grind arith in
    has_row c.args.places.now (c.args.offset / 512) (c.requires.made (c.args.offset / 512) (omega arith) (omega (arith, some)))

pub put_runs-requires : goal.put_runs-requires
put_runs-requires t c =
    let some : 0 < length c.args.new.now = grind arith in
    let long : length c.split_at.result.1.now ≡ length c.args.new.now - c.run_length-count.result = omega (arith, c.split_at.ensures.back_len, c.run_length-count.ensures.most) in
    let less : length c.split_at.result.1.now < length c.args.new.now = omega (arith, some, long, c.run_length-count.ensures.some) in
    let kept : length c.put_run.new.bytes ≡ length c.args.bytes.now = search rules in
    (search (rules, less), (omega (arith, long, c.run_length-count.ensures.most, c.requires.within), (rw kept c.requires.stand, (c.requires.ordered, has_rest c.args.offset c.run_length-count.result c.args.new.now c.split_at.result.0.now c.split_at.result.1.now c.run_length-count.ensures.most c.split_at.ensures.front c.split_at.ensures.back c.args.places.now c.requires.made))))

pub returns : goal.returns
returns t c =
    let places = c.args.places.now in
    record { bytes = runs_put c.args.offset c.run_length-count.result c.args.new.now c.split_at.result.0.now c.split_at.result.1.now c.run_length-count.ensures.most c.split_at.ensures.front c.split_at.ensures.back (byte_at c.args.bytes.now places) (byte_at c.put_run.new.bytes places) (byte_at c.put_runs.new.bytes places) c.put_run.ensures.put c.put_runs.ensures.bytes }
