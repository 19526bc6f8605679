-- The null manager: nothing is ever read, and what is written is gone. No read and no write waits, so both conditions always hold.
use Rattle.std.specs.Prelude.{ℕ, ◌≡◌, ◌≤◌, ◌<◌, ◌==◌, Bool, true, List, [], ◌∷◌, Option, Some, None, Result, Ok, length, nat_le, nat_lt, slice_set}
use Rattle.qx_base.specs.declared.errno.Errno.{Errno}
use Rattle.qx_base.specs.declared.errno.Errno.TheVariants.{EBADF, ENFILE, ENOENT}
use Rattle.qx_types.specs.declared.fields.NotifyAction.{NotifyAction}
use Rattle.qx_types.specs.declared.flags.OFlags.{OFlags}
use Rattle.qx_types.specs.declared.limits.TheConstants.Limits.{BLOCKS, EVENTS, PROCESSES}
use Rattle.qx_types.specs.declared.names.Coid.{Coid}
use Rattle.qx_types.specs.declared.outcome.Answer.{Answer}
use Rattle.qx_machine.specs.declared.rows.Caller.{Caller}
use Rattle.qx_machine.specs.declared.rows.Conditions.{Conditions}
use Rattle.qx_machine.specs.declared.rows.Effect.{Effect}
use Rattle.qx_machine.specs.declared.rows.Effect.TheVariants.{Keeps, Opens, Closes}
use Rattle.qx_machine.specs.declared.rows.NewOpen.{NewOpen}
use Rattle.qx_machine.specs.declared.rows.Ocb.{Ocb}
use Rattle.qx_machine.specs.declared.rows.Opened.{Opened}
use Rattle.qx_machine.specs.declared.rows.PulseWish.{PulseWish}
use Rattle.qx_machine.specs.declared.rows.WaitingCall.{WaitingCall}
use Rattle.qx_machine.specs.Events.{Events, disarmed, event_count, notified}
use Rattle.qx_machine.specs.Functions.{ConnectFunctions, Deed, IoFunctions, no_connect, no_io, reply_alone}
use Rattle.qx_machine.specs.Inodes.{new_block}
use Rattle.qx_isolation.specs.Judgements.{◌>>=◌, found, need}
use Rattle.qx_machine.specs.Notification.{event_of}
use Rattle.qx_isolation.specs.Rows.{row_at, lowest_from, put_row}
use Rattle.qx_notify.specs.Events.{AllEvents, events_of, with_events}

-- ---- open control blocks, from 1

abbrev pub Blocks : Type 0
Blocks = List (Option Ocb)

-- what a caller's connection has open
abbrev pub opened_at : Blocks → Caller → Coid → ℕ → ℕ → Result Opened Errno
opened_at blocks caller coid number moment = do
  block ← found (row_at blocks number) EBADF
  Ok (record { process = caller.process; thread = caller.thread; coid = coid; is_asked = caller.is_asked; number = number; call = caller.call; moment = moment })

-- the number of a new block (C Library Reference: open, ENFILE)
abbrev pub free_number : Blocks → Result ℕ Errno
free_number blocks = do
  free ← need (nat_le (lowest_from 1 blocks) BLOCKS) ENFILE
  Ok (lowest_from 1 blocks)

-- ---- what the manager works on

-- what it keeps for a user
pub record Kept : Type 0 where
  pub user : ℕ
  pub blocks : Blocks

-- what its tables work on: these blocks, and the user's events
pub record Told : Type 0 where
  pub blocks : Blocks
  pub events : Events

-- nothing is open
abbrev pub nothing_kept : ℕ → Kept
nothing_kept user = record { user = user; blocks = None ∷ [] }

abbrev pub told : Kept → AllEvents → Told
told k all = record { blocks = k.blocks; events = events_of all k.user }

-- nobody waits, so nobody is answered
abbrev pub shared : Kept → AllEvents → Told → List (WaitingCall × Answer) → AllEvents
shared k all own answers = with_events all k.user own.events

-- the user is one of those whose events these are
abbrev pub HasUser : Kept → AllEvents → Type 0
HasUser k all = k.user < length all.events

abbrev pub SameUser : Kept → Kept → Type 0
SameUser k l = l.user ≡ k.user

-- ---- the tables

-- a reply without bytes
abbrev pub reply_deed : ℕ → Effect → Told → Result (Deed Told) Errno
reply_deed status effect own = Ok (reply_alone status [] effect own)

-- the mount's root alone is there (C Library Reference: open, ENOENT)
abbrev pub open_deed : Told → NewOpen → OFlags → List (List ℕ) → Result (Deed Told) Errno
open_deed own over flags rest = do
  there ← need (length rest == 0) ENOENT
  number ← free_number own.blocks
  reply_deed over.coid.0 (Opens over.coid number) (record own { blocks = put_row own.blocks number (new_block over.root flags over.client) })

-- a block goes, and its event with it (iofunc_notify_remove)
abbrev pub close_deed : Told → Opened → Result (Deed Told) Errno
close_deed own opened = reply_deed 0 (Closes opened.coid) (record { blocks = slice_set own.blocks opened.number None; events = disarmed opened.number own.events })

-- both conditions hold of whatever is open
abbrev pub holding : Conditions
holding = record { input = true; output = true }

-- a notification tells which wanted conditions hold, and arms or takes away the event of its block (iofunc_notify)
abbrev pub notify_deed : Told → Opened → NotifyAction → PulseWish → Result (Deed Told) Errno
notify_deed own opened action wish = do
  block ← found (row_at own.blocks opened.number) EBADF
  given ← notified EVENTS action (event_of opened wish) holding own.events
  reply_deed given.status Keeps (record own { events = given.events })

abbrev pub null_connect : ConnectFunctions Told
null_connect = record no_connect { «open» = Some (λ own over rest wish. open_deed own over wish.flags rest) }

abbrev pub null_io : IoFunctions Told
null_io = record no_io {
  read = Some (λ own opened count. reply_deed 0 Keeps own);
  write = Some (λ own opened bytes. reply_deed (length bytes) Keeps own);
  close = Some (λ own opened. close_deed own opened);
  notify = Some (λ own opened action wish. notify_deed own opened action wish);
}

-- ---- what a notification needs

-- that its caller is of a process that may be
abbrev pub MayArm : Kept → AllEvents → Opened → Type 0
MayArm k all opened = opened.process ≤ PROCESSES

-- memory, where there are more events after it
abbrev pub got_events : Told → Told → Bool
got_events before after = nat_lt (event_count before.events) (event_count after.events)
