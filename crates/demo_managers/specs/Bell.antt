-- A bell: a read waits until somebody writes. Calls wait in a place under the number of an inode, as in a pipe that they read.
use Rattle.std.specs.Prelude.{ℕ, ◌≡◌, ◌==◌, not, true, List, [], ◌∷◌, Option, Some, None, Result, Ok, length, slice_set}
use Rattle.qx_base.specs.declared.errno.Errno.{Errno}
use Rattle.qx_base.specs.declared.errno.Errno.TheVariants.{EBADF, EINTR, ENOENT}
use Rattle.qx_types.specs.declared.flags.OFlags.{OFlags}
use Rattle.qx_types.specs.declared.outcome.Answer.{Answer}
use Rattle.qx_types.specs.declared.outcome.Answer.TheVariants as answer
use Rattle.qx_machine.specs.declared.rows.Effect.TheVariants.{Keeps, Opens, Closes}
use Rattle.qx_machine.specs.declared.rows.NewOpen.{NewOpen}
use Rattle.qx_machine.specs.declared.rows.Opened.{Opened}
use Rattle.qx_machine.specs.declared.rows.WaitingCall.{WaitingCall}
use Rattle.qx_machine.specs.Functions.{ConnectFunctions, Deed, IoFunctions, Reply, no_connect, no_io}
use Rattle.qx_machine.specs.Inodes.{new_block}
use Rattle.qx_isolation.specs.Judgements.{◌>>=◌, need}
use Rattle.qx_machine.specs.Waiting.{caller_in, waiting_call}
use Rattle.qx_machine.specs.Pipes.{PipeAfter, Pipe, nobody_answered, readers_dismissed, with_reader}
use Rattle.qx_isolation.specs.Rows.{put_row}
use Rattle.qx_shared.specs.Shared.{HasPipe, IsReceived, Shared, pipe_at, callers_thread, with_pipe_after}
use Rattle.demo_managers.specs.Null.{Blocks, free_number}

-- what the manager keeps for a user: which inode of the user its place is under, and the open control blocks, from 1
pub record KeptBells : Type 0 where
  pub user : ℕ
  pub inode : ℕ
  pub blocks : Blocks

-- what its functions work on: these blocks, and who waits
pub record Bells : Type 0 where
  pub blocks : Blocks
  pub place : Pipe WaitingCall

-- nothing is open
abbrev pub new_bell : ℕ → ℕ → KeptBells
new_bell user inode = record { user = user; inode = inode; blocks = None ∷ [] }

-- ---- how it stands together with what all users share

abbrev pub bells_told : KeptBells → Shared → Bells
bells_told k c = record { blocks = k.blocks; place = pipe_at c k.user k.inode }

abbrev pub bells_shared : KeptBells → Shared → Bells → List (WaitingCall × Answer) → Shared
bells_shared k c bells answers = with_pipe_after c k.user k.inode (record { pipe = bells.place; answers = answers })

-- the place is there
abbrev pub HasOwnPlace : KeptBells → Shared → Type 0
HasOwnPlace k c = HasPipe c k.user k.inode

abbrev pub SamePlace : KeptBells → KeptBells → Type 0
SamePlace k l = (l.user ≡ k.user) × (l.inode ≡ k.inode)

-- the message of an opened connection's caller was received, and no call of it waits
abbrev pub CanWork : KeptBells → Shared → Opened → Type 0
CanWork k c opened = IsReceived c (callers_thread k.user (caller_in opened))

-- ---- the tables

-- a message comes to that reply, these blocks, and what was done to who waits
abbrev pub comes_to : Option Reply → Blocks → PipeAfter WaitingCall → Result (Deed Bells) Errno
comes_to reply blocks after = Ok (record { reply = reply; state = record { blocks = blocks; place = after.pipe }; answers = after.answers })

-- as at the null manager (C Library Reference: open, ENOENT)
abbrev pub open_deed : Bells → NewOpen → OFlags → List (List ℕ) → Result (Deed Bells) Errno
open_deed bells over flags rest = do
  there ← need (length rest == 0) ENOENT
  number ← free_number bells.blocks
  comes_to (Some (record { status = over.coid.0; bytes = []; effect = Opens over.coid number }))
      (put_row bells.blocks number (new_block over.root flags over.client))
      (nobody_answered bells.place)

-- who was asked to unblock does not wait (Writing a Resource Manager: the unblock pulse)
abbrev pub read_deed : Bells → Opened → ℕ → Result (Deed Bells) Errno
read_deed bells opened count = do
  patient ← need (not opened.is_asked) EINTR
  comes_to None bells.blocks (nobody_answered (with_reader bells.place (waiting_call opened count [])))

-- all who wait are answered with no bytes
abbrev pub write_deed : Bells → List ℕ → Result (Deed Bells) Errno
write_deed bells bytes =
    comes_to (Some (record { status = length bytes; bytes = []; effect = Keeps })) bells.blocks
    (readers_dismissed (λ call. true) (answer.Reply 0 []) bells.place)

-- who waits over the block that goes is answered EBADF
abbrev pub close_deed : Bells → Opened → Result (Deed Bells) Errno
close_deed bells opened =
    comes_to (Some (record { status = 0; bytes = []; effect = Closes opened.coid })) (slice_set bells.blocks opened.number None)
    (readers_dismissed (λ call. call.block == opened.number) (answer.Failed EBADF) bells.place)

abbrev pub bell_connect : ConnectFunctions Bells
bell_connect = record no_connect { «open» = Some (λ bells over rest wish. open_deed bells over wish.flags rest) }

abbrev pub bell_io : IoFunctions Bells
bell_io = record no_io {
  read = Some (λ bells opened count. read_deed bells opened count);
  write = Some (λ bells opened bytes. write_deed bells bytes);
  close = Some (λ bells opened. close_deed bells opened);
}
