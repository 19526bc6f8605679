-- What a process that ends leaves in lines and nodes.
use Rattle.std.specs.Prelude.{◌≡◌, ◌≢◌, ◌≤◌, ◌<◌, ℕ, zero, suc, List, [], ◌++◌, Option, Some, None, IfSome, IsTrue, true, false, length}
use Rattle.qx_types.specs.Managers.{manager_count, manager_number}
use Rattle.qx_types.specs.declared.names.Proc.{Proc}
use Rattle.qx_types.specs.declared.names.Thread.{Thread}
use Rattle.qx_isolation.specs.declared.rows.ServerName.{ServerName}
use Rattle.qx_machine.specs.declared.rows.ThreadRow.{ThreadRow}
use Rattle.qx_machine.specs.Clients.{dropped_by}
use Rattle.qx_isolation.specs.Lines.{line_at}
use Rattle.qx_machine.specs.Machine.{lines_after}
use Rattle.qx_machine.specs.Parts.{Change}
use Rattle.qx_isolation.specs.Rows.{row_at}
use Rattle.qx_queues.specs.Queues.{stands, unblock_call}
use Rattle.qx_shared.specs.Shared.{Shared, has_disconnect_node}
use Rattle.qx_chan.specs.inner.Kept.{asked_call, stands_at}
use Rattle.qx_chan.specs.Users.{Users, thread_row}

-- the lines tell of a thread what a row says
pub record StandsFor (queues : Shared) (thread : Thread) (row : Option ThreadRow) : Type 0 where
  pub lines : (number : ℕ) → stands (line_at queues.lines number) thread ≡ stands_at number row
  pub pulses : (number call : ℕ) → unblock_call (line_at queues.lines number) thread ≡ Some call → asked_call number call row ≡ true

-- no message and no unblock pulse of a thread stands in a line
pub record HasNothing (queues : Shared) (thread : Thread) : Type 0 where
  pub idle : (number : ℕ) → stands (line_at queues.lines number) thread ≡ false
  pub unasked : (number : ℕ) → unblock_call (line_at queues.lines number) thread ≡ None

-- the lines tell of a thread what they told before
pub record IsAsBefore (old new : Shared) (thread : Thread) : Type 0 where
  pub stand : (number : ℕ) → stands (line_at new.lines number) thread ≡ stands (line_at old.lines number) thread
  pub calls : (number : ℕ) → unblock_call (line_at new.lines number) thread ≡ unblock_call (line_at old.lines number) thread

-- what a thread has in lines is gone
pub record Drops (old new : Shared) (thread : Thread) (row : Option ThreadRow) : Type 0 where
  pub queues : new ≡ record old { lines = lines_after thread.proc.user.0 old.lines (dropped_by thread.proc.num thread.tid row) }
  pub own : HasNothing new thread
  pub others : (other : Thread) → other ≢ thread → IsAsBefore old new other

-- what the threads of a process have in lines, those of numbers below one
abbrev pub dropped_below : Users → Proc → ℕ → List Change
dropped_below users proc zero = []
dropped_below users proc (suc count) = dropped_below users proc count ++ dropped_by proc.num count (thread_row users (record { proc = proc; tid = count }))

-- is gone
pub record DropsBelow (users : Users) (old new : Shared) (proc : Proc) (count : ℕ) : Type 0 where
  pub queues : new ≡ record old { lines = lines_after proc.user.0 old.lines (dropped_below users proc count) }
  pub managers : length new.lines ≡ manager_count
  pub own : (tid : ℕ) → tid < count → HasNothing new (record { proc = proc; tid = tid })
  pub others : (other : Thread) → (other.proc ≡ proc → count ≤ other.tid) → IsAsBefore old new other

-- each server connection that was lost has its disconnect node, and each is at a manager of its own
pub record AllHaveNodes (queues : Shared) (proc : Proc) (lost : List (Option ServerName)) : Type 0 where
  pub there : (number : ℕ) → IfSome (row_at lost number) (λ server. IsTrue (has_disconnect_node queues proc (manager_number server.manager)))
  pub apart : (one other : ℕ) (server second : ServerName) → one ≢ other → row_at lost one ≡ Some server → row_at lost other ≡ Some second → manager_number server.manager ≢ manager_number second.manager
