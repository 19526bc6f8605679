-- What contracts see of a channel, and what its calls make of it.
use Rattle.std.specs.Prelude.{⊤, ℕ, Bool, true, false, ◌+◌, [], ◌∷◌, ◌++◌, List, Option, Some, None, drop, get_or, if◌then◌else◌, is_some, length, map, option_map, replicate, slice_get, slice_set}
use Rattle.qx_types.specs.UserLimits.{UserLimits}
use Rattle.qx_types.specs.Configuration.{Configuration}
use Rattle.qx_types.specs.Managers.{manager_count, manager_number}
use Rattle.qx_base.specs.declared.errno.Errno.{Errno}
use Rattle.qx_base.specs.declared.errno.Errno.TheVariants.{EINTR}
use Rattle.qx_types.specs.declared.names.Manager.{Manager}
use Rattle.qx_types.specs.declared.names.Proc.{Proc}
use Rattle.qx_types.specs.declared.names.Thread.{Thread}
use Rattle.qx_types.specs.declared.outcome.Answer.{Answer}
use Rattle.qx_types.specs.declared.outcome.Answer.TheVariants.{Failed}
use Rattle.qx_types.specs.declared.outcome.Outcome.{Outcome}
use Rattle.qx_types.specs.declared.outcome.Outcome.TheVariants.{Done, NoPulse, WrongState, Pulse as PulseGiven}
use Rattle.qx_paths.specs.Mounts.{all_boot_mounts}
use Rattle.qx_paths.specs.Prefixes.{MountPoint}
use Rattle.qx_machine.specs.declared.rows.Over.{Over}
use Rattle.qx_machine.specs.declared.rows.Over.TheVariants.{Existing}
use Rattle.qx_isolation.specs.declared.rows.OwnItem.{OwnItem}
use Rattle.qx_isolation.specs.declared.rows.OwnItem.TheVariants as item
use Rattle.qx_machine.specs.declared.rows.Pulse.{Pulse}
use Rattle.qx_isolation.specs.declared.rows.Queued.{Queued}
use Rattle.qx_machine.specs.declared.rows.Sent.{Sent}
use Rattle.qx_machine.specs.declared.rows.ThreadRow.{ThreadRow}
use Rattle.qx_machine.specs.Attributes.{top_inode}
use Rattle.qx_machine.specs.Clients.{dropped, spawn_number, with_abandoned}
use Rattle.qx_machine.specs.Events.{Events, first_pulse, no_events, without_first_pulse, without_pulses}
use Rattle.qx_isolation.specs.Lines.{into, line_at, with_line}
use Rattle.qx_machine.specs.Machine.{lines_after, rank}
use Rattle.qx_machine.specs.Parts.{Remove, disconnect, disconnects}
use Rattle.qx_machine.specs.Processes.{Process, after_error, answered_thread, asked_thread, ended, living, lost_servers, ready_thread, taken_thread, with_queued, with_thread}
use Rattle.qx_machine.specs.Settling.{row_left}
use Rattle.qx_machine.specs.Waiting.{Pipes, no_pipes}
use Rattle.qx_isolation.specs.Rows.{row_at, with_row}
use Rattle.qx_clients.specs.Calls.{after_or, spawned, with_prio}
use Rattle.qx_queues.specs.Queues.{message_of, nodes_freed, sender, unblock_of}
use Rattle.qx_resources.specs.declared.tables.Tables.{Tables}
use Rattle.qx_shared.specs.Shared.{nothing_shared}
use Rattle.qx_machine.specs.Reads.{answer_of}
use Rattle.qx_chan.specs.Calls.{queued_call, unasked_call}
use Rattle.qx_chan.specs.declared.call.Call.{Call}
use Rattle.qx_chan.specs.Nodes.{room_for, room_started, room_used, served_at}
use Rattle.qx_chan.specs.Users.{Users, no_processes, process_of, spawn_number_in, thread_row, with_process_of, with_thread_row}

-- the processes of all users, both numbered from 1, the lines under their managers' numbers, the pipes, the events and the mounts of each user,
-- and how many more nodes can be made with no memory
pub record Channel : Type 0 where
  pub users : Users
  pub lines : List (List Queued)
  pub pipes : List Pipes
  pub events : List Events
  pub mounts : List (List MountPoint)
  pub room : ℕ

-- tables with the channel's pipes, events and mounts, and nothing else
abbrev pub lists : Channel → Tables
lists c = record { shared = record (nothing_shared 0) { pipes = c.pipes }; events = record { events = c.events; room = 0 }; mounts = c.mounts }

-- at boot: the users with no process, empty lines, no pipe, no events, and of mounts each user's top
abbrev pub boot_channel : Configuration → Channel
boot_channel config = let users = length config.users in record { users = no_processes users; lines = replicate manager_count []; pipes = replicate (users + 1) no_pipes; events = replicate (users + 1) no_events; mounts = all_boot_mounts config top_inode; room = 0 }

-- a manager's line
abbrev pub channel_line : Channel → Manager → List Queued
channel_line c manager = line_at c.lines (manager_number manager)

-- a user's events
abbrev pub channel_events : Channel → ℕ → Events
channel_events c user = get_or c.events user no_events

-- a message goes over a connection that is there
abbrev pub IsExisting : Over → Type 0
IsExisting (Existing coid) = ⊤
IsExisting _ = ⊥

-- a process has a disconnect node at a manager if it has a server connection in use there, where it was as in a channel before
abbrev pub with_server_used : Channel → Proc → Manager → Channel → Channel
with_server_used before proc manager c = record c { room = room_used c.room (served_at manager (process_of before.users proc)) (served_at manager (process_of c.users proc)) }

-- one process and one line change
abbrev pub with_process_and_line : Channel → Thread → (Process → Process) → Manager → (List Queued → List Queued) → Channel
with_process_and_line c thread process manager line = record c {
  users = with_process_of c.users thread.proc process;
  lines = with_line c.lines (manager_number manager) line;
}

-- once a process of a user with these limits is started, if that is not refused
abbrev pub after_spawn : UserLimits → Channel → ℕ → ℕ → ℕ → Channel
after_spawn limits c user threads prio = record c {
  users = with_row c.users user (λ processes. spawned processes threads prio (spawn_number limits processes threads prio));
  room = room_started c.room threads (spawn_number_in limits threads prio (row_at c.users user));
}

-- once a thread's message is sent, with room for the disconnect node of what it goes over
abbrev pub after_send : Channel → Thread → Sent → Channel
after_send c thread sent =
    with_server_used c thread.proc sent.target.manager
    (with_process_and_line (record c { room = room_for sent.target.over c.room }) thread (with_queued thread.tid sent) sent.target.manager (λ line. into rank line (message_of thread sent.target.prio.0)))

-- the thread of a message that is received waits for its answer
abbrev pub users_with_taken : Users → Thread → OwnItem → Users
users_with_taken users thread (item.Message process number) = with_thread_row users thread taken_thread
users_with_taken users thread _ = users

abbrev pub with_first_taken : Users → Option Queued → Users
with_first_taken users None = users
with_first_taken users (Some first) = users_with_taken users (sender first) first.item

-- once the first item of a line is received; of a disconnect pulse the node makes room for another
abbrev pub after_receive : Channel → Manager → Channel
after_receive c manager = record c {
  users = with_first_taken c.users (slice_get (channel_line c manager) 0);
  lines = with_line c.lines (manager_number manager) (drop 1);
  room = c.room + nodes_freed (slice_get (channel_line c manager) 0);
}

-- a thread of a process gets an error
abbrev pub failed : ℕ → Errno → Over → Process → Process
failed thread error over process = after_error thread over (with_thread thread (answered_thread (Failed error)) process)

abbrev pub asked : Channel → Thread → Option Call → Channel
asked c thread None = c
asked c thread (Some call) =
    with_process_and_line c thread (with_thread thread.tid asked_thread) call.target.manager (λ line. into rank line (unblock_of thread call.number call.target.prio.0))

-- once the message of a thread that was received, and is not asked yet, is asked to unblock it
abbrev pub after_asking : Channel → Thread → Channel
after_asking c thread = asked c thread (unasked_call (thread_row c.users thread))

abbrev pub withdrawn : ℕ → Channel → Thread → Option Call → Channel
withdrawn prio c thread None = c
withdrawn prio c thread (Some call) = record c {
  users = with_process_of c.users thread.proc (failed thread.tid EINTR call.target.over);
  lines = lines_after thread.proc.user.0 c.lines (Remove call.target.manager (item.Message thread.proc.num thread.tid) ∷ disconnects prio thread.proc.num (failed thread.tid EINTR call.target.over) (process_of c.users thread.proc));
}

-- once the message of a thread that stands in a line is gone, and with it what its call attached; a disconnect pulse has this priority
abbrev pub after_withdrawing : ℕ → Channel → Thread → Channel
after_withdrawing prio c thread = withdrawn prio c thread (queued_call (thread_row c.users thread))

-- once a thread is asked to unblock
abbrev pub after_interrupt : ℕ → Channel → Thread → Channel
after_interrupt prio c thread = if is_some (queued_call (thread_row c.users thread)) then after_withdrawing prio c thread else after_asking c thread

-- the outcome for that thread
abbrev pub interrupt_outcome : Option ThreadRow → Outcome
interrupt_outcome None = WrongState
interrupt_outcome (Some row) = Done

abbrev pub readied : Channel → Thread → Option Answer → Channel
readied c thread None = c
readied c thread (Some answer) = record c { users = with_thread_row c.users thread ready_thread }

-- once a thread has taken its answer
abbrev pub after_taking : Channel → Thread → Channel
after_taking c thread = readied c thread (answer_of (thread_row c.users thread))

-- the outcome for a process that is to take its first pulse
abbrev pub pulse_outcome : Option Process → Option Pulse → Outcome
pulse_outcome None first = WrongState
pulse_outcome (Some process) None = NoPulse
pulse_outcome (Some process) (Some first) = PulseGiven first.code first.value

-- a process is told that it has no pulse
abbrev pub is_no_pulse : Outcome → Bool
is_no_pulse NoPulse = true
is_no_pulse _ = false

abbrev pub with_pulse_taken : Channel → Proc → Option Process → Option Pulse → Channel
with_pulse_taken c proc (Some process) (Some first) = record c { events = slice_set c.events proc.user.0 (without_first_pulse proc.num (channel_events c proc.user.0)) }
with_pulse_taken c proc _ _ = c

-- once a process that is there has taken its first pulse, if it has one
abbrev pub after_pulse : Channel → Proc → Channel
after_pulse c proc = with_pulse_taken c proc (living (process_of c.users proc)) (first_pulse proc.num (channel_events c proc.user.0))

-- once a thread of a user with this ceiling has another priority, if that is not refused
abbrev pub after_ranking : ℕ → Channel → Thread → ℕ → Channel
after_ranking ceiling c thread prio = record c { users = with_row c.users thread.proc.user.0 (λ processes. after_or processes (with_prio ceiling processes thread.proc.num thread.tid prio)) }

-- ---- the end of a process

-- a user's pipes
abbrev pub channel_pipes : Channel → ℕ → Pipes
channel_pipes c user = get_or c.pipes user no_pipes

-- the outcome for a process that is to end, where that has not ended
abbrev pub exit_outcome : Option Process → Outcome
exit_outcome None = WrongState
exit_outcome (Some process) = Done

abbrev pub ended_in : ℕ → Channel → Proc → Option Process → Channel
ended_in prio c proc None = c
ended_in prio c proc (Some process) = record c {
  users = with_process_of c.users proc ended;
  lines = lines_after proc.user.0 c.lines (dropped proc.num 0 process.threads ++ map (disconnect prio proc.num) (lost_servers process (ended process)));
  pipes = slice_set c.pipes proc.user.0 (map (option_map (with_abandoned proc.num)) (channel_pipes c proc.user.0));
  events = slice_set c.events proc.user.0 (without_pulses proc.num (channel_events c proc.user.0));
}

-- once a process that is there and has not ended does; its disconnect pulses have this priority
abbrev pub after_exit : ℕ → Channel → Proc → Channel
after_exit prio c proc = ended_in prio c proc (living (process_of c.users proc))

-- once a process that has ended is freed, where no server connection of it is left and no call of it waits
abbrev pub after_freeing : Channel → Proc → Channel
after_freeing c proc = record c { users = with_row c.users proc.user.0 (λ processes. slice_set processes proc.num (row_left [] (channel_pipes c proc.user.0) proc.num (row_at processes proc.num))) }
