-- What only the proofs need of Calls.
use Rattle.std.specs.Prelude.{Option}
use Rattle.qx_machine.specs.declared.rows.ThreadRow.{ThreadRow}
use Rattle.qx_machine.specs.Performing.{taken_in}
use Rattle.qx_chan.specs.declared.call.Call.{Call}
use Rattle.qx_chan.specs.Calls.{sent_call}

-- of one whose message was received and is not served
abbrev pub taken_call : Option ThreadRow → Option Call
taken_call row = sent_call taken_in row
