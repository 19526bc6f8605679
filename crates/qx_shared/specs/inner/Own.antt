-- How the pipes of all users stand over the lists of the queues. No public clause cites this module.
use Rattle.std.specs.Prelude.{◌≡◌, ◌<◌, ◌+◌, ℕ, List, [], Some, get_or, length, map, option_map}
use Rattle.qx_types.specs.declared.limits.TheConstants.Limits.{INODES}
use Rattle.qx_machine.specs.declared.rows.WaitingCall.{WaitingCall}
use Rattle.qx_machine.specs.Waiting.{Pipes}
use Rattle.qx_machine.specs.Pipes.{Pipe}
use Rattle.qx_queues.specs.Queues.{HasList, Queues, waiting_in_list}
use Rattle.qx_queues.specs.Waits.{users_call}
use Rattle.qx_shared.specs.inner.Row.{Place, Rows, list_of_place}
use Rattle.qx_shared.specs.Row.{PipeRow}
use Rattle.qx_shared.specs.Shared.{Shared}

-- the calls that wait in the list of a number
abbrev pub calls_of : Queues → ℕ → List WaitingCall
calls_of c list = map (λ own. own.call) (waiting_in_list c list)

abbrev pub shown_pipe : Queues → PipeRow → Pipe WaitingCall
shown_pipe c row = record { device = row.device; bytes = row.bytes; readers = calls_of c row.readers; writers = calls_of c row.writers }

abbrev pub pipes_in : Queues → Rows → Pipes
pipes_in c rows = map (option_map (shown_pipe c)) rows

abbrev pub shown_shared : Queues → List Rows → Shared
shown_shared c all = record { lines = c.lines; threads = c.threads; servers = c.servers; room = c.room; pipes = map (pipes_in c) all; answered = c.answered }

-- all who wait in a list are the user's
abbrev pub AreUsers : Queues → ℕ → ℕ → Type 0
AreUsers c user list = waiting_in_list c list ≡ map (users_call user) (calls_of c list)

-- each side of a pipe has a list of its own, in which calls of the pipe's user wait, and each list is one's
pub record AreAllPipes (c : Queues) (all : List Rows) : Type 0 where
  pub count : length all ≡ c.users
  pub places : (user : ℕ) → user < length all → length (get_or all user []) ≡ INODES + 1
  pub there : (p : Place) (list : ℕ) → list_of_place all p ≡ Some list → HasList c list
  pub users : (p : Place) (list : ℕ) → list_of_place all p ≡ Some list → AreUsers c p.user list
  pub apart : (p q : Place) (list : ℕ) → list_of_place all p ≡ Some list → list_of_place all q ≡ Some list → p ≡ q
  pub owned : (list : ℕ) → HasList c list → (p : Place) × (list_of_place all p ≡ Some list)
