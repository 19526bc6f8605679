-- Sets of threads, as bits, and where the threads sleep.
use Rattle.std.specs.Prelude.{ℕ, ◌≤◌, ◌+◌, ◌-◌, ◌*◌, ◌%◌, ◌==◌, ◌&&◌, Bool, get_or}
use Rattle.std.specs.Int.{bit_at}
use Rattle.qx_types.specs.declared.limits.TheConstants.Limits.{PROCESSES, THREADS, USERS}
use Rattle.qx_types.specs.declared.names.Thread.{Thread}
use Rattle.qx_types.specs.declared.names.User.{User}
use Rattle.qx_monitor.specs.declared.waits.TheConstants.{EACH}
use Rattle.qx_monitor.specs.declared.waits.ThreadSet.{ThreadSet}
use Rattle.qx_monitor.specs.declared.waits.Waits.{Waits}

-- a user of a configuration, by the number
pub record IsUser (user : User) : Type 0 where
  pub first : 1 ≤ user.0
  pub last : user.0 ≤ USERS

-- a thread that a user can have: one of 4 of one of 16 processes
pub record IsPossible (thread : Thread) : Type 0 where
  pub first_process : 1 ≤ thread.proc.num
  pub last_process : thread.proc.num ≤ PROCESSES
  pub first_thread : 1 ≤ thread.tid
  pub last_thread : thread.tid ≤ THREADS

-- the thread's number among those that its user can have, from 0
abbrev pub number_of : Thread → ℕ
number_of thread = (thread.proc.num - 1) % PROCESSES * THREADS + (thread.tid - 1) % THREADS

-- its number among those that all users can have, from 0
abbrev pub place_of : Thread → ℕ
place_of thread = (thread.proc.user.0 - 1) % USERS * EACH + number_of thread

-- the bit of the thread's number is set
unfoldable pub has : ℕ → Thread → Bool
has bits thread = bit_at bits (number_of thread) == 1

-- the thread is in the set
abbrev pub is_in : ThreadSet → Thread → Bool
is_in set thread = (thread.proc.user.0 == set.user.0) && has set.bits thread

-- a client waits for the thread's answer
abbrev pub is_awaited : Waits → Thread → Bool
is_awaited waits thread = has (get_or waits.words thread.proc.user.0 0) thread
