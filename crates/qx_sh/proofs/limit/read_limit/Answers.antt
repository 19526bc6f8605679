use Rattle.std.proofs.Common.{◌≡◌, arith}
use Rattle.qx_sh.proofs.LimitLemmas.{begins_with_digit, reads_limit, writes_parsed}
use Rattle.qx_sh.proofs.limit.read_limit.Goals as goal

pub returns-then-not-begins_with_nonzero_digit-clause-none : goal.returns-then-not-begins_with_nonzero_digit-clause-none
returns-then-not-begins_with_nonzero_digit-clause-none c = λ limit writes.
    let begins = c.begins_with_nonzero_digit.ensures.1 (begins_with_digit _ limit writes) in cc

pub returns-in-Ok-clause-written : goal.returns-in-Ok-clause-written
returns-in-Ok-clause-written c =
    let begins = c.begins_with_nonzero_digit.ensures.0 c.if-not-begins_with_nonzero_digit.false in
    writes_parsed _ c.parse.result c.in-Ok.limit c.parse.ensures.value.0 c.in-Ok.is begins.0 begins.1
    c.if-limit-le-LARGEST_LIMIT.true

pub returns-in_default-clause-none : goal.returns-in_default-clause-none
returns-in_default-clause-none c = λ limit writes.
    let read = reads_limit _ c.parse.result limit c.parse.ensures.value.0 writes in
    let same : limit ≡ c.in-Ok.limit = cc in
    omega (arith, writes.2)

pub returns-in_default-2-clause-none : goal.returns-in_default-2-clause-none
returns-in_default-2-clause-none c = λ limit writes.
    let read = reads_limit _ c.parse.result limit c.parse.ensures.value.0 writes in cc
