-- What the pipe manager does to pipes and the calls that wait there (C Library Reference: read, write, lseek, close; that nobody waits for a
-- pipe to be opened, and that a pipe mount has no directory but its root, is this profile).
use Rattle.std.specs.Prelude.{ℕ, ℤ, not, List, [], Option, Some, None, Result, Ok, Err, position, length, slice_set, if◌then◌else◌}
use Rattle.std.specs.List.{list_any}
use Rattle.qx_base.specs.declared.errno.Errno.{Errno}
use Rattle.qx_base.specs.declared.errno.Errno.TheVariants.{EBADF, EINVAL, EISDIR, ESPIPE}
use Rattle.qx_types.specs.declared.fields.Whence.{Whence}
use Rattle.qx_types.specs.declared.outcome.Outcome.{Outcome}
use Rattle.qx_types.specs.declared.outcome.Outcome.TheVariants.{WrongState}
use Rattle.qx_machine.specs.declared.rows.Attribute.{Attribute}
use Rattle.qx_machine.specs.declared.rows.Effect.TheVariants.{Keeps}
use Rattle.qx_machine.specs.declared.rows.Opened.{Opened}
use Rattle.qx_machine.specs.declared.rows.WaitingCall.{WaitingCall}
use Rattle.qx_machine.specs.Functions.{Deed, reply_alone}
use Rattle.qx_machine.specs.Inodes.{readers_of, reads, writers_of, writes}
use Rattle.qx_isolation.specs.Judgements.{◌>>=◌, found, need}
use Rattle.qx_machine.specs.Names.{has_calls, is_directory}
use Rattle.qx_machine.specs.Pipes.{PipeAfter, Pipe, cancel, is_idle, only_reply, read, release, write}
use Rattle.qx_machine.specs.Resources.{Resources, resized}
use Rattle.qx_isolation.specs.Rows.{row_at, with_row}
use Rattle.qx_machine.specs.Waiting.{holds, is_call, is_gone, is_over, is_written, manner_of, offered, sides_of, waiting_call, wanted}

-- the size of a pipe is the number of the bytes that stand; where some went in, its times are the moment
abbrev pub filled : ℕ → PipeAfter WaitingCall → Attribute → Attribute
filled moment after attribute =
    if not (has_calls attribute.kind) then attribute
    else if list_any (λ answer. is_written (offered answer.0) answer.1) after.answers then resized (length after.pipe.bytes) moment attribute
    else record attribute { size = length after.pipe.bytes }

-- a message is left without a reply: whoever is answered, and its own call among them or not, is told in the order of the answers
abbrev pub unreplied : Resources → Deed Resources
unreplied r = record { reply = None; state = r; answers = [] }

-- a pipe as it is once something was done to it
abbrev pub deed_of_pipe : Resources → ℕ → ℕ → PipeAfter WaitingCall → Deed Resources
deed_of_pipe r inode moment after = record {
  reply = None;
  state = record r {
    inodes = record r.inodes { attributes = with_row r.inodes.attributes inode (filled moment after) };
    pipes = slice_set r.pipes inode (Some after.pipe);
  };
  answers = after.answers;
}

-- the status and the bytes that a message is told at once are its reply, and nobody else is answered
abbrev pub replied_at_once : Deed Resources → Option (ℕ × List ℕ) → Deed Resources
replied_at_once deed None = deed
replied_at_once deed (Some (status, bytes)) = reply_alone status bytes Keeps deed.state

-- a READ or a WRITE was done to a pipe: where nobody waited there, none but its own call can be answered, and a reply to that is told as the
-- reply to its message; else its message is left without a reply, whoever is answered
abbrev pub deed_of_call : Resources → ℕ → ℕ → Pipe WaitingCall → PipeAfter WaitingCall → Deed Resources
deed_of_call r inode moment pipe after =
    if is_idle pipe then replied_at_once (deed_of_pipe r inode moment after) (only_reply after.answers) else deed_of_pipe r inode moment after

-- a READ is replied to, is answered with those who waited, or waits; the mount's root can't be read
abbrev pub read_pipe : Resources → Opened → ℕ → Result (Deed Resources) Errno
read_pipe r opened count = do
  block ← found (row_at r.inodes.blocks opened.number) EBADF
  reading ← need (reads block.flags) EBADF
  pipe ← found (row_at r.pipes block.inode) EISDIR
  Ok (deed_of_call r block.inode opened.moment pipe (read wanted offered is_gone (manner_of (writers_of r.inodes block.inode) block opened.is_asked) (waiting_call opened count []) pipe))

-- a WRITE is replied to, is answered with those who waited, or waits
abbrev pub write_pipe : Resources → Opened → List ℕ → Result (Deed Resources) Errno
write_pipe r opened bytes = do
  block ← found (row_at r.inodes.blocks opened.number) EBADF
  writing ← need (writes block.flags) EBADF
  pipe ← found (row_at r.pipes block.inode) EBADF
  Ok (deed_of_call r block.inode opened.moment pipe (write wanted offered is_gone (manner_of (readers_of r.inodes block.inode) block opened.is_asked) (waiting_call opened 0 bytes) pipe))

-- a pipe has no offset (C Library Reference: lseek, ESPIPE), nor has the mount's root
abbrev pub seek_pipe : Resources → Opened → Whence → ℤ → Result (Deed Resources) Errno
seek_pipe r opened whence by = do
  block ← found (row_at r.inodes.blocks opened.number) EBADF
  attribute ← found (row_at r.inodes.attributes block.inode) EBADF
  pipe ← need (not (is_directory attribute.kind)) EINVAL
  Err ESPIPE

-- what is done to the pipe of an inode, if it is one, once the block of a number was taken away
abbrev pub released : Resources → ℕ → ℕ → ℕ → Option (Pipe WaitingCall) → Deed Resources
released r number inode moment None = unreplied r
released r number inode moment (Some pipe) = deed_of_pipe r inode moment (release wanted offered is_gone (is_over number) (sides_of r.inodes inode) pipe)

-- who waits is asked to unblock: they are answered EINTR, if they still wait once their pipe is clean (Writing a Resource Manager: the
-- unblock pulse); nothing happens where they wait in no pipe
abbrev pub cancel_call : Resources → ℕ → ℕ → ℕ → ℕ → Result (Deed Resources) Outcome
cancel_call r process thread call moment = do
  inode ← found (position (holds (is_call process thread call)) r.pipes) WrongState
  pipe ← found (row_at r.pipes inode) WrongState
  Ok (deed_of_pipe r inode moment (cancel wanted offered is_gone (is_call process thread call) pipe))
