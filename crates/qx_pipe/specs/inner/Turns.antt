-- What is left to settle, and what becomes of a call that is served at once and of one that can't be.
use Rattle.std.specs.Prelude.{◌≡◌, ◌+◌, ◌++◌, ◌∷◌, [], ◌||◌, ℕ, Bool, IsSome, List, None, Option, Some, length}
use Rattle.qx_base.specs.declared.device.Told.{Told}
use Rattle.qx_base.specs.declared.device.Told.TheVariants as told
use Rattle.qx_types.specs.declared.outcome.Answer.{Answer}
use Rattle.qx_machine.specs.declared.rows.Manner.{Manner}
use Rattle.qx_machine.specs.declared.rows.WaitingCall.{WaitingCall}
use Rattle.qx_machine.specs.Waiting.{offered, wanted}
use Rattle.qx_machine.specs.Pipes.{PipeAfter, Pipe, settle, waiting_unless}
use Rattle.qx_shared.specs.Shared.{HasPipe, Shared, after_own, pipe_at, waiting_on, went_in, with_pipe_after, with_waiting_on}
use Rattle.qx_shared.specs.declared.side.Side.{Side}

-- what settling does to a pipe
abbrev pub settling : Shared → ℕ → ℕ → PipeAfter WaitingCall
settling c user inode = settle wanted offered (pipe_at c user inode)

abbrev pub pipe_settled : Shared → ℕ → ℕ → Shared
pipe_settled c user inode = with_pipe_after c user inode (settling c user inode)

-- nobody waits in a pipe
abbrev pub NobodyWaits : Pipe WaitingCall → Type 0
NobodyWaits p = (p.readers ≡ []) × (p.writers ≡ [])

-- how many wait in a pipe
abbrev pub waiting_count : Pipe WaitingCall → ℕ
waiting_count p = length p.readers + length p.writers

-- some were served, and bytes went in or not: settling what there is then is settling what there was
pub record Turning (old now : Shared) (user inode : ℕ) (filled : Bool) : Type 0 where
  pub pipe : HasPipe now user inode
  pub device : (pipe_at now user inode).device ≡ (pipe_at old user inode).device
  pub after : pipe_settled old user inode ≡ pipe_settled now user inode
  pub went : went_in (settling old user inode).answers ≡ (filled || went_in (settling now user inode).answers)

-- a call was told that, and bytes went in or not
pub record Served (old now : Shared) (user inode : ℕ) (call : WaitingCall) (told : Option (Answer × List ℕ)) (filled : Bool) : Type 0 where
  pub some : IsSome told
  pub after : now ≡ with_pipe_after old user inode (after_own call (pipe_at old user inode) told)
  pub went : filled ≡ went_in (after_own call (pipe_at old user inode) told).answers

-- the status of a reply that a call to a device is told
abbrev pub status_given : Told → Option ℕ
status_given told.Waits = None
status_given (told.Gives status) = Some status
status_given (told.Fails error) = None

-- a call that can't be served at once waits last on a side of the pipe, unless its block is NONBLOCK or it was asked to unblock
abbrev pub unless_served : Side → Manner → WaitingCall → Pipe WaitingCall → PipeAfter WaitingCall
unless_served side manner call p = waiting_unless manner call p (with_waiting_on side (waiting_on side p ++ call ∷ []) p)
