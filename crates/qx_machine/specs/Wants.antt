-- Which steps may be refused for want of memory.
use Rattle.std.specs.Prelude.{ℕ, ◌*◌, ◌/◌, ◌==◌, ◌||◌, not, Bool, true, false, List, [], Option, Result, Ok, Err, length, nat_lt}
use Rattle.std.specs.List.{list_all, list_any, range_with_len}
use Rattle.qx_base.specs.declared.errno.Errno.{Errno}
use Rattle.qx_base.specs.declared.errno.Errno.TheVariants.{EBADF}
use Rattle.qx_types.specs.declared.names.Manager.{Manager}
use Rattle.qx_types.specs.declared.names.Manager.TheVariants.{Ram, Pipe, Device}
use Rattle.qx_types.specs.declared.outcome.Outcome.TheVariants.{WrongState}
use Rattle.qx_types.specs.declared.step.Step.{Step}
use Rattle.qx_types.specs.declared.step.Step.TheVariants.{Spawn, Call, Mount, Perform}
use Rattle.qx_wire.specs.declared.message.Meaning.{Meaning}
use Rattle.qx_wire.specs.declared.message.Meaning.TheVariants.{Known}
use Rattle.qx_wire.specs.declared.message.Message.{Message}
use Rattle.qx_wire.specs.declared.message.Message.TheVariants.{Open, Mknod, Write, Notify}
use Rattle.qx_wire.specs.Reading.{meaning}
use Rattle.qx_isolation.specs.declared.rows.OwnItem.{OwnItem}
use Rattle.qx_isolation.specs.declared.rows.OwnItem.TheVariants as item
use Rattle.qx_machine.specs.declared.rows.Context.{Context}
use Rattle.qx_machine.specs.declared.rows.Opened.{Opened}
use Rattle.qx_machine.specs.Events.{event_count}
use Rattle.qx_machine.specs.Files.{get, write_offset}
use Rattle.qx_machine.specs.Functions.{Deed}
use Rattle.qx_isolation.specs.Judgements.{◌>>=◌, found, or_false}
use Rattle.qx_machine.specs.Laws.{is_refusal}
use Rattle.qx_machine.specs.Machine.{World, item_to_do, step}
use Rattle.qx_machine.specs.Parts.{Part}
use Rattle.qx_machine.specs.Performing.{caller_of, context_of, deed_of, taken_in}
use Rattle.qx_machine.specs.Resources.{Resources}
use Rattle.qx_isolation.specs.Rows.{row_at}

-- what a message asks for may want memory, where a write of such bytes, or a notification, which writes none, may or may not
abbrev pub message_wants_memory : (List ℕ → Bool) → Message → Bool
message_wants_memory writes (Open flags mode rest) = true
message_wants_memory writes (Mknod mode rest) = true
message_wants_memory writes (Write bytes) = writes bytes
message_wants_memory writes (Notify action conditions code value) = writes []
message_wants_memory writes _ = false

-- that is done, and makes such a difference to what the functions work on
abbrev pub is_done_so : {S : Type 0} → (S → S → Bool) → S → Result (Deed S) Errno → Bool
is_done_so so state (Ok deed) = so state deed.state
is_done_so so state (Err error) = false

-- a message that comes to this may want memory, of a manager of whose writes and notifications those may that have such bytes and make
-- such a difference
abbrev pub deed_wants_memory : {S : Type 0} → (List ℕ → S → S → Bool) → S → Message → Result (Deed S) Errno → Bool
deed_wants_memory writes state message deed = is_done_so (λ before after. message_wants_memory (λ bytes. writes bytes before after) message) state deed

-- of the blocks of 512 bytes of a file, this one has no byte but zero
abbrev pub is_blank : List ℕ → ℕ → Bool
is_blank bytes block = list_all (λ byte. byte == 0) (get bytes (512 * block) 512)

-- one of so many places from an offset on is in such a block
abbrev pub reaches_blank : List ℕ → ℕ → ℕ → Bool
reaches_blank bytes offset count = list_any (λ place. is_blank bytes (place / 512)) (range_with_len offset count)

-- of bytes that are written over what is open, one comes to stand in a block of its file that has no byte but zero: where nothing was
-- written to a block before, there is no memory for it yet
abbrev pub writes_to_blank : Resources → Result Opened Errno → List ℕ → Bool
writes_to_blank r over bytes = or_false (do
  opened ← over
  block ← found (row_at r.inodes.blocks opened.number) EBADF
  old ← found (row_at r.files block.inode) EBADF
  Ok (reaches_blank old (write_offset block old) (length bytes)))

-- and there are more events
abbrev pub got_events : Resources → Resources → Bool
got_events before after = nat_lt (event_count before.events) (event_count after.events)

-- of the writes, those to a blank block of a file at the RAM manager; of the notifications, those that arm an event where there was none
abbrev pub difference_wants_memory : Manager → Result Opened Errno → List ℕ → Resources → Resources → Bool
difference_wants_memory Ram over bytes before after = writes_to_blank before over bytes || got_events before after
difference_wants_memory Pipe over bytes before after = got_events before after
difference_wants_memory (Device device) over bytes before after = got_events before after

-- bytes with this meaning, which were sent so, may want memory
abbrev pub bytes_want_memory : Resources → Context → Meaning → Bool
bytes_want_memory resources context (Known message) =
    deed_wants_memory (difference_wants_memory context.target.manager context.opened) resources message (deed_of resources context (Known message))
bytes_want_memory resources context _ = false

-- performing the message of a thread at a moment may want memory, where these are its user's rows: the message was received, and what
-- it comes to may
abbrev pub thread_wants_memory : Option Part → ℕ → ℕ → ℕ → Bool
thread_wants_memory rows number thread moment = or_false (do
  part ← found rows WrongState
  process ← found (row_at part.processes number) WrongState
  row ← found (row_at process.threads thread) WrongState
  sent ← found (taken_in row.state) WrongState
  Ok (bytes_want_memory part.resources (context_of process (caller_of number thread row sent) sent.target moment (meaning sent.bytes)) (meaning sent.bytes)))

-- a pulse wants none
abbrev pub item_wants_memory : Option Part → OwnItem → ℕ → Bool
item_wants_memory rows (item.Message process thread) moment = thread_wants_memory rows process thread moment
item_wants_memory rows _ moment = false

-- in this world, a step that may be refused for want of memory: a spawn, a call and a mount that are not refused otherwise, and a
-- perform of an open, a mkdir, a write to a blank block of a file or a notification that arms an event where there was none, that is not
-- answered an error
abbrev pub wants_memory : World → Step → Bool
wants_memory w (Spawn user threads prio) = not (is_refusal (step w (Spawn user threads prio)).outcome)
wants_memory w (Call thread request) = not (is_refusal (step w (Call thread request)).outcome)
wants_memory w (Mount thread path manager) = not (is_refusal (step w (Mount thread path manager)).outcome)
wants_memory w (Perform worker moment) = or_false (do
  held ← item_to_do w worker.0
  Ok (item_wants_memory (row_at w.parts held.user.0) held.item moment))
wants_memory w _ = false
