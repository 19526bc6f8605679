use Rattle.std.proofs.Common.{sym, ◌∙◌, arith}
use Rattle.qx_devices.proofs.Listed.{devices_at, listed_of, none_of}
use Rattle.qx_devices.proofs.Device.of_number.Goals as goal

pub returns-then-number-count : goal.returns-then-number-count
returns-then-number-count c = sym (devices_at c.args.number ∙ listed_of c.args.number _)

pub returns-else-number-count : goal.returns-else-number-count
returns-else-number-count c = sym (devices_at c.args.number ∙ none_of c.args.number (omega (arith, c.if-number-count.false, c.count.ensures.count)))
