-- What only the proofs need of Serving.
use Rattle.std.specs.Prelude.{◌≡◌, ℕ, Bool, List, Result, Ok, Err, slice_set}
use Rattle.qx_base.specs.declared.errno.Errno.{Errno}
use Rattle.qx_types.specs.declared.names.Thread.{Thread}
use Rattle.qx_wire.specs.Reading.{meaning}
use Rattle.qx_machine.specs.declared.rows.Caller.{Caller}
use Rattle.qx_machine.specs.Functions.{Deed}
use Rattle.qx_machine.specs.Notification.{events_settled}
use Rattle.qx_machine.specs.Resources.{Resources}
use Rattle.qx_machine.specs.Performing.{context_of, deed_of}
use Rattle.qx_machine.specs.Processes.{Process}
use Rattle.qx_shared.specs.Shared.{with_pipes}
use Rattle.qx_resmgr.specs.Deeds.{reply_with}
use Rattle.qx_resmgr.specs.declared.functions.Done.{Done}
use Rattle.qx_resources.specs.State.{told, Kept}
use Rattle.qx_resources.specs.declared.tables.Tables.{Tables}
use Rattle.qx_chan.specs.declared.call.Call.{Call}

-- whose call it is
abbrev pub caller_of_call : Thread → Call → Caller
caller_of_call thread call = record { process = thread.proc.num; thread = thread.tid; call = call.number; is_asked = call.is_asked }

-- what a message of a process with these bytes comes to
abbrev pub deed_in : Kept → Tables → Process → Thread → Call → ℕ → List ℕ → Result (Deed Resources) Errno
deed_in resources waits process thread call moment bytes =
    deed_of (told resources waits) (context_of process (caller_of_call thread call) call.target moment (meaning bytes)) (meaning bytes)

-- what a deed to a user's resources leaves, once the events that are due by it have given their pulses to the processes that live: its answers
-- are on their way, and of the room for events nothing is said
pub record Leaves (lives : ℕ → Bool) (k : Kept) (w : Tables) (l : Kept) (v : Tables) (deed : Deed Resources) : Type 0 where
  pub told_is : told l v ≡ record deed.state { events = events_settled lives (told k w) deed.state }
  pub shared : v.shared ≡ with_pipes w.shared k.user deed.state.pipes deed.answers
  pub events : v.events.events ≡ slice_set w.events.events k.user (events_settled lives (told k w) deed.state)
  pub mounts : v.mounts ≡ w.mounts
  pub user : l.user ≡ k.user

-- that a message came to that: it is replied as it is to be, and leaves that, or it is that error, and nothing is different
abbrev pub Comes : (ℕ → Bool) → Kept → Tables → Kept → Tables → List ℕ → Result Done Errno → Result (Deed Resources) Errno → Type 0
Comes lives k w l v bytes (Ok done) (Ok deed) = (reply_with bytes done ≡ deed.reply) × Leaves lives k w l v deed
Comes lives k w l v bytes (Err error) (Err meant) = (error ≡ meant) × (l ≡ k) × (v ≡ w)
Comes lives k w l v bytes _ _ = ⊥
