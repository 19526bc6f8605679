-- Where the room for a thread's reply is, and which answers bring it.
use Rattle.std.proofs.Common.{◌≡◌, List, ℕ, true, Option, Some, None, refl}
use Rattle.std.proofs.lemmas.Bool.{false≢true}
use Rattle.std.specs.Prelude.{IfSome, IsSome, IsTrue, is_some}
use Rattle.qx_base.specs.declared.errno.Errno.{Errno}
use Rattle.qx_types.specs.declared.outcome.Answer.{Answer}
use Rattle.qx_types.specs.declared.outcome.Answer.TheVariants.{Failed}
use Rattle.qx_machine.specs.declared.rows.State.{State}
use Rattle.qx_machine.specs.declared.rows.State.TheVariants as state
use Rattle.qx_machine.specs.declared.rows.ThreadRow.{ThreadRow}
use Rattle.qx_machine.specs.Performing.{taken_in}
use Rattle.qx_machine.specs.Processes.{keeps_room}
use Rattle.qx_process.specs.Reads.{AwaitsReply, BringsRoom, BringsRoomIn, is_waiting}
use Rattle.qx_process.specs.Reads.{queued_in}
use Rattle.qx_chan.specs.Calls.{queued_call}
use Rattle.qx_chan.specs.inner.Calls.{taken_call}
use Rattle.qx_chan.specs.inner.Kept.{is_waiting_for, waits_for}
use Rattle.qx_chan.specs.declared.call.Call.{Call}
use Rattle.qx_chan.proofs.CallLemmas.{queued_is, waits}

abbrev Waits : Option ThreadRow → Type 0
Waits place = IfSome place (λ row. IsTrue (is_waiting row.state))

-- an error to a thread whose message stands in a line brings none
pub queued-brings : (error : Errno) (place : Option ThreadRow) (call : Call) → Some call ≡ queued_call place → BringsRoom (Failed error) None place
queued-brings error place call is =
    let it = waits queued_in place call is in
    rw (it.there, queued_is it.row.state it.sent it.is) (refl, refl)

-- an answer to a thread whose message was served brings what it does not take along
pub waiting-brings : (answer : Answer) (room : Option (List ℕ)) (place : Option ThreadRow) → Waits place → is_some room ≡ keeps_room answer → BringsRoom answer room place
waiting-brings answer room None waiting is = tt
waiting-brings answer room (Some row) waiting is = by_state row.state waiting
  where
    by_state : (s : State) → IsTrue (is_waiting s) → BringsRoomIn answer room s
    by_state state.Ready waiting = absurd (false≢true waiting)
    by_state (state.Queued sent) waiting = absurd (false≢true waiting)
    by_state (state.Taken sent) waiting = absurd (false≢true waiting)
    by_state (state.Waiting sent) waiting = is
    by_state (state.Answered given) waiting = absurd (false≢true waiting)

-- a thread that waits for the answer to a call
pub awaited-waits : (call : ℕ) (place : Option ThreadRow) → waits_for call place ≡ true → Waits place
awaited-waits call None is = tt
awaited-waits call (Some row) is = by_state row.state is
  where
    by_state : (s : State) → is_waiting_for call row.calls s ≡ true → IsTrue (is_waiting s)
    by_state state.Ready is = absurd (false≢true is)
    by_state (state.Queued sent) is = absurd (false≢true is)
    by_state (state.Taken sent) is = absurd (false≢true is)
    by_state (state.Waiting sent) is = refl
    by_state (state.Answered given) is = absurd (false≢true is)

-- it is there
pub awaited-there : (call : ℕ) (place : Option ThreadRow) → waits_for call place ≡ true → IsSome place
awaited-there call None is = absurd (false≢true is)
awaited-there call (Some row) is = refl

-- a thread whose message was received awaits a reply
pub taken_awaits : (place : Option ThreadRow) (call : Call) → Some call ≡ taken_call place → AwaitsReply place
taken_awaits place call is =
    let it = waits taken_in place call is in
    rw (it.there, it.is) refl
