-- What only the proofs need of State.
use Rattle.std.specs.Prelude.{◌≡◌, ◌≤◌, Result, Ok, Err}
use Rattle.qx_base.specs.declared.errno.Errno.{Errno}
use Rattle.qx_types.specs.declared.limits.TheConstants.Limits.{PROCESSES}
use Rattle.qx_machine.specs.Waiting.{caller_in}
use Rattle.qx_machine.specs.declared.rows.Opened.{Opened}
use Rattle.qx_machine.specs.Functions.{Deed}
use Rattle.qx_machine.specs.Resources.{Resources}
use Rattle.qx_shared.specs.Shared.{IsReceived, callers_thread}
use Rattle.qx_resources.specs.State.{Kept, SameUser, shared, told}
use Rattle.qx_resources.specs.declared.tables.Tables.{Tables}

-- an opened connection's caller is of a process that may be; its message was received, and no call of it waits
pub record IsCallerReceived (k : Kept) (w : Tables) (opened : Opened) : Type 0 where
  pub process : opened.process ≤ PROCESSES
  pub received : IsReceived w.shared (callers_thread k.user (caller_in opened))

-- what is kept for a user, and what all share, are as the machine left them
pub record AreLeft (k : Kept) (w : Tables) (l : Kept) (v : Tables) (deed : Deed Resources) : Type 0 where
  pub state : told l v ≡ deed.state
  pub shared : v ≡ shared k w deed.state deed.answers
  pub user : SameUser k l

-- so they are, or it gave an error, and they are as they were
abbrev pub Came : Kept → Tables → Kept → Tables → Result (Unit {0}) Errno → Result (Deed Resources) Errno → Type 0
Came k w l v (Ok done) (Ok deed) = AreLeft k w l v deed
Came k w l v (Err error) (Err meant) = (error ≡ meant) × (l ≡ k) × (v ≡ w)
Came k w l v _ _ = ⊥
