-- What only the proofs need of Held.
use Rattle.std.specs.Prelude.{ℕ, Option, None, IsSome}
use Rattle.qx_isolation.specs.declared.rows.Held.{Held}
use Rattle.qx_isolation.specs.declared.rows.OwnItem.{OwnItem}
use Rattle.qx_isolation.specs.declared.rows.OwnItem.TheVariants as item
use Rattle.qx_machine.specs.declared.rows.Sent.{Sent}
use Rattle.qx_machine.specs.Machine.{named_thread}
use Rattle.qx_chan.specs.Calls.{taken_of}
use Rattle.qx_chan.specs.Users.{Users, thread_row}

abbrev pub taken_by : Users → ℕ → OwnItem → Option Sent
taken_by users user (item.Message process thread) = taken_of (thread_row users (named_thread user process thread))
taken_by users user _ = None

-- the message that is held, which was received and is not served
abbrev pub taken_item : Users → Held → Option Sent
taken_item users held = taken_by users held.user.0 held.item

-- the thread is there whose message is held; no pulse says so
abbrev pub IsThereBy : Users → ℕ → OwnItem → Type 0
IsThereBy users user (item.Message process thread) = IsSome (thread_row users (named_thread user process thread))
IsThereBy users user _ = ⊥

abbrev pub IsThere : Users → Held → Type 0
IsThere users held = IsThereBy users held.user.0 held.item
