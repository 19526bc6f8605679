-- What the answers to a message that was served, and to calls that waited, make of the threads' rows and of the lines.
use Rattle.std.specs.Prelude.{ℕ, List, [], ◌∷◌, Result, Ok, Err}
use Rattle.qx_types.specs.Managers.{manager_number}
use Rattle.qx_base.specs.declared.errno.Errno.{Errno}
use Rattle.qx_types.specs.declared.names.Thread.{Thread}
use Rattle.qx_machine.specs.declared.rows.Over.{Over}
use Rattle.qx_isolation.specs.declared.rows.OwnItem.TheVariants as item
use Rattle.qx_isolation.specs.declared.rows.Queued.{Queued}
use Rattle.qx_isolation.specs.Lines.{with_line}
use Rattle.qx_machine.specs.Machine.{line_without}
use Rattle.qx_machine.specs.Performing.{after_serving, called_by}
use Rattle.qx_machine.specs.Processes.{Process, answered_thread, lost_servers}
use Rattle.qx_queues.specs.Queues.{UsersAnswer}
use Rattle.qx_shared.specs.Shared.{Shared, with_shared_line}
use Rattle.qx_resmgr.specs.Deeds.{reply_with}
use Rattle.qx_resmgr.specs.declared.functions.Done.{Done}
use Rattle.qx_resmgr.specs.declared.functions.Done.TheVariants.{Reply, NoReply}
use Rattle.qx_chan.specs.Channel.{failed}
use Rattle.qx_chan.specs.inner.Kept.{with_lost}
use Rattle.qx_chan.specs.Users.{Users, thread_row, with_thread_row}
use Rattle.qx_chan.specs.declared.call.Call.{Call}

-- the thread of a message that was received is answered with what that came to, or waits, where it is left without a reply
abbrev pub answered_process : ℕ → Over → List ℕ → Result Done Errno → Process → Process
answered_process thread over bytes (Ok done) = after_serving thread over (reply_with bytes done)
answered_process thread over bytes (Err error) = failed thread error over

-- its call has no unblock pulse any more, and the disconnect pulse of what its process has lost by that, of this priority, stands in its line
abbrev pub without_pulse : ℕ → Shared → Process → Process → Thread → Call → Shared
without_pulse prio queues before after thread call =
    with_lost prio thread.proc (lost_servers before after) (with_shared_line queues (manager_number call.target.manager) (line_without thread.proc.user.0 (item.Unblock thread.proc.num thread.tid call.number)))

abbrev pub answered_queues : ℕ → Shared → Process → Process → Thread → Call → Result Done Errno → Shared
answered_queues prio queues before after thread call (Ok NoReply) = queues
answered_queues prio queues before after thread call (Ok (Reply status effect)) = without_pulse prio queues before after thread call
answered_queues prio queues before after thread call (Err error) = without_pulse prio queues before after thread call

-- each thread whose call waited has its answer
abbrev pub given_users : Users → List UsersAnswer → Users
given_users users [] = users
given_users users (first ∷ rest) = given_users (with_thread_row users first.thread (answered_thread first.answer)) rest

-- an answer takes an unblock pulse of its call out of the line of the manager that its thread had called
abbrev pub given_line : Users → List (List Queued) → UsersAnswer → List (List Queued)
given_line users lines given =
    with_line lines (manager_number (called_by (thread_row users given.thread))) (line_without given.thread.proc.user.0 (item.Unblock given.thread.proc.num given.thread.tid given.call))

-- and no line has an unblock pulse of its call
abbrev pub given_lines : Users → List (List Queued) → List UsersAnswer → List (List Queued)
given_lines users lines [] = lines
given_lines users lines (first ∷ rest) = given_lines (with_thread_row users first.thread (answered_thread first.answer)) (given_line users lines first) rest
