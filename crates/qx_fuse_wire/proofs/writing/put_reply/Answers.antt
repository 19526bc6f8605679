use Rattle.std.proofs.Common.{refl, sym, append_assoc, zero-add}
use Rattle.qx_fuse_wire.specs.Replies.{reply_bytes}
use Rattle.qx_fuse_wire.proofs.writing.put_reply.Goals as goal

pub returns-clause-reply : goal.returns-clause-reply
unfolding reply_bytes
returns-clause-reply c =
    rw (sym c.body_length-length.ensures.length, sym c.error_number-error.ensures.number, c.put_body.ensures.bytes, c.put_numbers.ensures.bytes, c.in_ok-reserve.ensures.items, append_assoc, zero-add) refl
