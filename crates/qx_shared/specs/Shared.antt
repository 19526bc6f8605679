-- What contracts see of what all users share, and what its calls make of it.
use Rattle.std.specs.Prelude.{◌≡◌, ℕ, zero, suc, unwrap_or, IsSome, ◌+◌, ◌-◌, if◌then◌else◌, refl, IsTrue, Bool, false, List, [], ◌∷◌, ◌++◌, drop, take, length, Option, Some, None, Result, Ok, Err, get_or, map, option_map, replicate, slice_get, slice_set}
use Rattle.std.specs.Coded.{Coded, code_by, coded×, coded_ℕ, coded_list, coded_option}
use Rattle.std.specs.FinSet as set
use Rattle.std.specs.List.{flat_map, list_any}
use Rattle.qx_devices.specs.contracts.Device as device_row
use Rattle.qx_devices.specs.declared.Device.{Device}
use Rattle.qx_types.specs.contracts.names.Proc as proc_row
use Rattle.qx_types.specs.contracts.names.Thread as thread_row
use Rattle.qx_types.specs.Managers.{manager_count, manager_number}
use Rattle.qx_types.specs.declared.limits.TheConstants.Limits.{THREADS}
use Rattle.qx_types.specs.declared.names.Proc.{Proc}
use Rattle.qx_types.specs.declared.names.Thread.{Thread}
use Rattle.qx_types.specs.declared.outcome.Answer.{Answer}
use Rattle.qx_types.specs.declared.outcome.Answer.TheVariants.{Reply}
use Rattle.qx_isolation.specs.contracts.rows.Queued as queued_row
use Rattle.qx_machine.specs.contracts.rows.WaitingCall as call_row
use Rattle.qx_isolation.specs.declared.rows.Queued.{Queued}
use Rattle.qx_isolation.specs.declared.rows.ServerName.{ServerName}
use Rattle.qx_machine.specs.declared.rows.WaitingCall.{WaitingCall}
use Rattle.qx_machine.specs.Clients.{with_abandoned}
use Rattle.qx_machine.specs.Functions.{Deed}
use Rattle.qx_isolation.specs.Lines.{into, line_at, with_line}
use Rattle.qx_machine.specs.Machine.{rank}
use Rattle.qx_machine.specs.Waiting.{Pipes, is_written, no_pipes, offered, wanted}
use Rattle.qx_machine.specs.Pipes.{PipeAfter, Pipe, nobody_answered, one_answered, pipe_of, read_told, readers_dismissed, write_told, writers_dismissed}
use Rattle.qx_machine.specs.Resources.{Resources}
use Rattle.qx_isolation.specs.Rows.{row_at}
use Rattle.qx_queues.specs.Queues.{UsersAnswer, UsersCall, answer_code, answer_to, caller, disconnect_of, has_call, has_answer_among, nodes_freed, server_cmp, stands, thread_cmp}
use Rattle.qx_queues.specs.Waits.{users_call}
use Rattle.qx_shared.specs.declared.side.Side.{Side}
use Rattle.qx_shared.specs.declared.side.Side.TheVariants.{Reading, Writing}
use Rattle.qx_machine.specs.declared.rows.Caller.{Caller}

-- the lines under their managers' numbers, which threads and which server connections have nodes, how many more nodes can be made with no
-- memory, the pipes of each user, by the calls that wait there, and who was answered what, in order
pub record Shared : Type 0 where
  pub lines : List (List Queued)
  pub threads : set.FinSet thread_cmp
  pub servers : set.FinSet server_cmp
  pub room : ℕ
  pub pipes : List Pipes
  pub answered : List UsersAnswer

abbrev pub pipe_code : Coded (Pipe WaitingCall)
pipe_code =
    code_by
    (Option Device × (List ℕ × (List WaitingCall × List WaitingCall)))
    (coded× (coded_option (device_row.the_row).coded) (coded× (coded_list coded_ℕ) (coded× (coded_list (call_row.the_row).coded) (coded_list (call_row.the_row).coded))))
    (λ p. (p.device, (p.bytes, (p.readers, p.writers))))
    (λ p. record { device = p.0; bytes = p.1.0; readers = p.1.1.0; writers = p.1.1.1 })
    (λ _. refl)

abbrev pub all_pipes_code : Coded (List Pipes)
all_pipes_code = coded_list (coded_list (coded_option pipe_code))

abbrev pub shared_code : Coded Shared
shared_code =
    code_by
    (List (List Queued) × (set.FinSet thread_cmp × (set.FinSet server_cmp × (ℕ × (List Pipes × List UsersAnswer)))))
    (coded× (coded_list (coded_list (queued_row.the_row).coded)) (coded× (set.code (thread_row.the_row).coded) (coded× (set.code (coded× (proc_row.the_row).coded coded_ℕ)) (coded× coded_ℕ (coded× all_pipes_code (coded_list answer_code))))))
    (λ c. (c.lines, (c.threads, (c.servers, (c.room, (c.pipes, c.answered))))))
    (λ p. record { lines = p.0; threads = p.1.0; servers = p.1.1.0; room = p.1.1.1.0; pipes = p.1.1.1.1.0; answered = p.1.1.1.1.1 })
    (λ _. refl)

-- nobody has nodes, the lines are empty, no user has a pipe, and nobody was answered
abbrev pub nothing_shared : ℕ → Shared
nothing_shared users = record { lines = replicate manager_count []; threads = set.empty; servers = set.empty; room = 0; pipes = replicate (users + 1) no_pipes; answered = [] }

-- the line of the manager of a number
abbrev pub shared_line : Shared → ℕ → List Queued
shared_line c number = line_at c.lines number

-- one line changed, and nothing else
abbrev pub with_shared_line : Shared → ℕ → (List Queued → List Queued) → Shared
with_shared_line c number change = record c { lines = with_line c.lines number change }

-- ---- nodes

-- the thread has nodes
abbrev pub has_thread : Shared → Thread → Bool
has_thread c thread = set.contains c.threads thread

-- the process has a disconnect node at the manager of a number
abbrev pub has_disconnect_node : Shared → Proc → ℕ → Bool
has_disconnect_node c proc number = set.contains c.servers (proc, number)

-- a thread of the process has nodes
abbrev pub HasThread : Shared → Proc → Type 0
HasThread c proc = (tid : ℕ) × IsTrue (has_thread c (record { proc = proc; tid = tid }))

-- a thread has nodes from now on
abbrev pub with_shared_thread : Shared → Thread → Shared
with_shared_thread c thread = record c { threads = set.insert c.threads thread; room = c.room - 2 }

-- the first threads of a process have nodes from now on
abbrev pub with_shared_process : Shared → Proc → ℕ → Shared
with_shared_process c proc zero = c
with_shared_process c proc (suc threads) = with_shared_thread (with_shared_process c proc threads) (record { proc = proc; tid = suc threads })

-- a thread has no nodes any more, and there is room for those that it had
abbrev pub without_shared_thread : Shared → Thread → Shared
without_shared_thread c thread = record c { threads = set.remove c.threads thread; room = if has_thread c thread then c.room + 2 else c.room }

-- the threads of a process below a number have no nodes any more
abbrev pub without_threads_below : Shared → Proc → ℕ → Shared
without_threads_below c proc zero = c
without_threads_below c proc (suc thread) = without_shared_thread (without_threads_below c proc thread) (record { proc = proc; tid = thread })

-- no thread of a process has nodes any more
unfoldable pub without_shared_process : Shared → Proc → Shared
without_shared_process c proc = without_threads_below c proc (THREADS + 1)

-- a process has a disconnect node at a manager from now on
abbrev pub with_shared_server : Shared → Proc → ℕ → Shared
with_shared_server c proc number = record c { servers = set.insert c.servers (proc, number); room = if has_disconnect_node c proc number then c.room else c.room - 1 }

-- it has none any more, and its disconnect pulse stands in the manager's line
abbrev pub with_shared_disconnect : Shared → Proc → ServerName → ℕ → Shared
with_shared_disconnect c proc server prio = record (with_shared_line c (manager_number server.manager) (λ line. into rank line (disconnect_of proc server prio))) { servers = set.remove c.servers (proc, manager_number server.manager) }

-- the first item of a line is taken, and there is room for the node that is given back
abbrev pub without_first_shared : Shared → ℕ → Shared
without_first_shared c number = record (with_shared_line c number (drop 1)) { room = c.room + nodes_freed (slice_get (shared_line c number) 0) }

-- ---- pipes

-- a user's pipes
abbrev pub pipes_of : Shared → ℕ → Pipes
pipes_of c user = get_or c.pipes user no_pipes

-- the calls of a process wait as those of a process that has ended
abbrev pub with_abandoned_calls : Shared → Proc → Shared
with_abandoned_calls c proc = record c { pipes = slice_set c.pipes proc.user.0 (map (option_map (with_abandoned proc.num)) (pipes_of c proc.user.0)) }

-- who waits in a pipe, and in all of a user's
abbrev pub calls_at : Option (Pipe WaitingCall) → List WaitingCall
calls_at None = []
calls_at (Some pipe) = pipe.readers ++ pipe.writers

abbrev pub waiting_calls : Pipes → List WaitingCall
waiting_calls pipes = flat_map calls_at pipes

-- who waits in a user's pipes, with the user
abbrev pub users_waiting : List Pipes → ℕ → List UsersCall
users_waiting pipes user = map (λ call. record { user = user; call = call }) (waiting_calls (get_or pipes user no_pipes))

abbrev pub waiting_in : Shared → ℕ → List UsersCall
waiting_in c user = users_waiting c.pipes user

-- no call of the thread waits in a pipe or has an answer that was not taken out yet
pub record HasNoCall (c : Shared) (thread : Thread) : Type 0 where
  pub waiting : (user : ℕ) → has_call (waiting_in c user) thread ≡ false
  pub answered : has_answer_among c.answered thread ≡ false

-- the thread's message was received: the thread has nodes, its message stands in no line, and no call of it waits or has an answer
pub record IsReceived (c : Shared) (thread : Thread) : Type 0 where
  pub own : IsTrue (has_thread c thread)
  pub idle : (number : ℕ) → stands (shared_line c number) thread ≡ false
  pub no_call : HasNoCall c thread

abbrev pub users_given : ℕ → WaitingCall × Answer → UsersAnswer
users_given user given = answer_to (users_call user given.0) given.1

-- the thread of a caller
abbrev pub callers_thread : ℕ → Caller → Thread
callers_thread user caller = record { proc = record { user = record { 0 = user }; num = caller.process }; tid = caller.thread }

-- a user's pipes are these, and who was answered stands last, in order
abbrev pub with_pipes : Shared → ℕ → Pipes → List (WaitingCall × Answer) → Shared
with_pipes c user pipes answers = record c { pipes = slice_set c.pipes user pipes; answered = c.answered ++ map (users_given user) answers }

-- ---- one pipe

-- there is a pipe under the number of an inode of a user
abbrev pub HasPipe : Shared → ℕ → ℕ → Type 0
HasPipe c user inode = IsSome (row_at (pipes_of c user) inode)

-- the pipe of an inode of a user; one with no bytes, in which nobody waits, where there is none
abbrev pub pipe_at : Shared → ℕ → ℕ → Pipe WaitingCall
pipe_at c user inode = unwrap_or (row_at (pipes_of c user) inode) (pipe_of None [] [] [])

-- another pipe stands under the number of an inode of a user, or none
abbrev pub with_row_at : Shared → ℕ → ℕ → Option (Pipe WaitingCall) → Shared
with_row_at c user inode row = record c { pipes = slice_set c.pipes user (slice_set (pipes_of c user) inode row) }

-- a pipe as it is once something was done to it, and who was answered stands last, in order
abbrev pub with_pipe_after : Shared → ℕ → ℕ → PipeAfter WaitingCall → Shared
with_pipe_after c user inode after = with_pipes c user (slice_set (pipes_of c user) inode (Some after.pipe)) after.answers

-- who waits on a side of a pipe, in order
abbrev pub waiting_on : Side → Pipe WaitingCall → List WaitingCall
waiting_on Reading p = p.readers
waiting_on Writing p = p.writers

-- others wait on a side
abbrev pub with_waiting_on : Side → List WaitingCall → Pipe WaitingCall → Pipe WaitingCall
with_waiting_on Reading calls p = record p { readers = calls }
with_waiting_on Writing calls p = record p { writers = calls }

-- a call of a user was received and is not answered
abbrev pub IsCallReceived : Shared → ℕ → WaitingCall → Type 0
IsCallReceived c user call = IsReceived c (caller (users_call user call))

-- a call of a user is answered, and nothing else happens
abbrev pub with_answer_to : Shared → ℕ → WaitingCall → Answer → Shared
with_answer_to c user call answer = record c { answered = c.answered ++ users_given user (call, answer) ∷ [] }

-- those who wait on a side and are to leave are answered
abbrev pub dismissed_on : Side → (WaitingCall → Bool) → Answer → Pipe WaitingCall → PipeAfter WaitingCall
dismissed_on Reading leaves answer p = readers_dismissed leaves answer p
dismissed_on Writing leaves answer p = writers_dismissed leaves answer p

-- so many of the first bytes go to these, of whom there is one at most
abbrev pub passed_to : ℕ → List WaitingCall → Pipe WaitingCall → PipeAfter WaitingCall
passed_to count readers p = record { pipe = record p { bytes = drop count p.bytes }; answers = map (λ reader. (reader, Reply count (take count p.bytes))) readers }

-- the bytes of these, of whom there is one at most, go in last
abbrev pub taken_from : List WaitingCall → Pipe WaitingCall → PipeAfter WaitingCall
taken_from writers p = record { pipe = record p { bytes = p.bytes ++ flat_map (λ writer. writer.bytes) writers }; answers = map (λ writer. (writer, Reply (length writer.bytes) [])) writers }

-- ---- a device

-- what the first of these calls comes to
abbrev pub at_first : (WaitingCall → Option (Answer × List ℕ)) → List WaitingCall → Option (Answer × List ℕ)
at_first told [] = None
at_first told (first ∷ rest) = told first

-- what the first call of a side comes to by the bytes that stand
abbrev pub first_told : Side → Pipe WaitingCall → Option (Answer × List ℕ)
first_told Reading p = at_first (read_told wanted offered p.device p.bytes) p.readers
first_told Writing p = at_first (write_told wanted offered p.device p.bytes) p.writers

-- the first call of a side is answered so, if at all, and these bytes stand then
abbrev pub after_told : Side → Pipe WaitingCall → Option (Answer × List ℕ) → PipeAfter WaitingCall
after_told side p None = nobody_answered p
after_told side p (Some (answer, bytes)) = record { pipe = with_waiting_on side (drop 1 (waiting_on side p)) (record p { bytes = bytes }); answers = map (λ call. (call, answer)) (take 1 (waiting_on side p)) }

-- a call that does not wait is answered so, if at all, and these bytes stand then
abbrev pub after_own : WaitingCall → Pipe WaitingCall → Option (Answer × List ℕ) → PipeAfter WaitingCall
after_own call p None = nobody_answered p
after_own call p (Some (answer, bytes)) = one_answered call answer (record p { bytes = bytes })

-- whether bytes go in with these answers
abbrev pub went_in : List (WaitingCall × Answer) → Bool
went_in answers = list_any (λ answer. is_written answer.0.bytes answer.1) answers

-- what there is once the machine did that for a user, or gave its error
module _ {E : Type 0} where
  abbrev pub state_after : Resources → Result (Deed Resources) E → Resources
  state_after r (Ok deed) = deed.state
  state_after r (Err error) = r

  abbrev pub shared_after : Shared → ℕ → Result (Deed Resources) E → Shared
  shared_after c user (Ok deed) = with_pipes c user deed.state.pipes deed.answers
  shared_after c user (Err error) = c
