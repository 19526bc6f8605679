-- What a READ or a WRITE is told at once: the status and the bytes of the reply to its message.
use Rattle.std.specs.Prelude.{ℕ, List, [], Option, Some, None, option_map, Result, Ok, Err}
use Rattle.qx_base.specs.declared.errno.Errno.{Errno}
use Rattle.qx_machine.specs.Functions as functions
use Rattle.qx_machine.specs.Functions.{Deed}
use Rattle.qx_machine.specs.Resources.{Resources}

-- the status that is told then
abbrev pub status_told : Result (Deed Resources) Errno → Result (Option ℕ) Errno
status_told (Ok deed) = Ok (option_map (λ (reply : functions.Reply). reply.status) deed.reply)
status_told (Err error) = Err error

abbrev pub reply_bytes : Option functions.Reply → List ℕ
reply_bytes None = []
reply_bytes (Some reply) = reply.bytes

-- the bytes that are told then
abbrev pub bytes_told : Result (Deed Resources) Errno → List ℕ
bytes_told (Ok deed) = reply_bytes deed.reply
bytes_told (Err error) = []
