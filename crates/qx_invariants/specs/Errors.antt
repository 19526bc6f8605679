-- The errors that `docs/MACHINE.md` names: how each step may be refused, and with which errors each message may be answered. The parts below
-- have that page's headings, in its order.
use Rattle.std.specs.Prelude.{◌≡◌, ◌⊎◌, ℕ, List, [], ◌∷◌, ◌++◌, map, Option, Some, None}
use Rattle.qx_base.specs.declared.errno.Errno.{Errno}
use Rattle.qx_base.specs.declared.errno.Errno.TheVariants.{EACCES, EAGAIN, EBADF, EBUSY, EEXIST, EFBIG, EINTR, EINVAL, EISDIR, EMFILE, ENAMETOOLONG, ENFILE, ENOENT, ENOSPC, ENOSYS, ENOTDIR, ENOTEMPTY, EPERM, EPIPE, ESPIPE, EXDEV}
use Rattle.qx_types.specs.Configuration.{Configuration}
use Rattle.qx_types.specs.declared.names.Manager.{Manager}
use Rattle.qx_types.specs.declared.names.Manager.TheVariants.{Device, Pipe, Ram}
use Rattle.qx_types.specs.declared.names.Thread.{Thread}
use Rattle.qx_types.specs.declared.outcome.Outcome.{Outcome}
use Rattle.qx_types.specs.declared.outcome.Outcome.TheVariants.{Busy, Idle, Nothing, Refused, WrongState}
use Rattle.qx_types.specs.declared.request.Request.{Request}
use Rattle.qx_types.specs.declared.request.Request.TheVariants as request
use Rattle.qx_types.specs.declared.step.Step.{Step}
use Rattle.qx_types.specs.declared.step.Step.TheVariants.{Call, Exit, Interrupt, Mount, Perform, Receive, SetPrio, Spawn, TakePulse, TakeReply}
use Rattle.qx_wire.specs.declared.message.Meaning.{Meaning}
use Rattle.qx_wire.specs.declared.message.Meaning.TheVariants.{Known, Malformed, Unknown}
use Rattle.qx_wire.specs.declared.message.Message.{Message}
use Rattle.qx_wire.specs.declared.message.Message.TheVariants as msg
use Rattle.qx_wire.specs.Reading.{meaning}
use Rattle.qx_machine.specs.declared.rows.Sent.{Sent}
use Rattle.qx_machine.specs.declared.rows.State.{State}
use Rattle.qx_machine.specs.declared.rows.State.TheVariants.{Queued}
use Rattle.qx_machine.specs.declared.rows.ThreadRow.{ThreadRow}
use Rattle.qx_machine.specs.Calls.{bytes_of, content_of}
use Rattle.qx_machine.specs.Machine.{World, boot, step}
use Rattle.qx_machine.specs.Parts.{Part, thread_at}
use Rattle.qx_isolation.specs.Rows.{row_at}

-- one of a list
abbrev pub IsAmong : {A : Type 0} → A → List A → Type 0
IsAmong it [] = ⊥
IsAmong it (first ∷ rest) = (it ≡ first) ⊎ IsAmong it rest

-- ---- Paths and mounts

-- a path's form
abbrev pub form : List Errno
form = ENAMETOOLONG ∷ EINVAL ∷ []

-- its form, and where it leads
abbrev pub path : List Errno
path = form ++ EACCES ∷ ENOENT ∷ []

-- ---- The ten steps

-- a call, by what its request names
abbrev pub call : Request → List Errno
call (request.OpenPath flags mode name) = path ++ EMFILE ∷ EAGAIN ∷ []
call (request.StatPath name) = path ++ EAGAIN ∷ []
call (request.Unlink name) = path ++ EAGAIN ∷ []
call (request.Mkdir mode name) = path ++ EAGAIN ∷ []
call (request.Rename old new) = path ++ EXDEV ∷ EAGAIN ∷ []
call (request.Dup coid) = EBADF ∷ EMFILE ∷ []
call _ = EBADF ∷ []

-- a wrong state, or one of these errors
abbrev pub refused : List Errno → List Outcome
refused errors = WrongState ∷ map Refused errors

-- how a step may be refused
abbrev pub refusals : Step → List Outcome
refusals (Spawn user threads prio) = refused (EINVAL ∷ EPERM ∷ EAGAIN ∷ [])
refusals (Exit process) = refused []
refusals (Call thread asked) = refused (EINVAL ∷ EAGAIN ∷ call asked)
refusals (Interrupt thread) = refused []
refusals (TakeReply thread) = refused []
refusals (TakePulse process) = refused []
refusals (SetPrio thread prio) = refused (EINVAL ∷ EPERM ∷ [])
refusals (Mount thread name manager) = refused (form ++ EACCES ∷ EEXIST ∷ ENOSPC ∷ [])
refusals (Receive worker manager) = WrongState ∷ Busy ∷ Idle ∷ []
refusals (Perform worker moment) = WrongState ∷ Nothing ∷ []

-- ---- Performing a message

-- these errors; or any, where a device's own function answers: there they are its author's
pub data Errors : Type 0 where
  Any : Errors
  These : (errors : List Errno) → Errors

abbrev pub IsOneOf : Errors → Errno → Type 0
IsOneOf Any error = Unit {0}
IsOneOf (These errors) error = IsAmong error errors

-- the manager has no function for the message
abbrev pub missing : Errors
missing = These (ENOSYS ∷ [])

-- a message over a connection, or a DUP: it came another way, or the connection is not there
abbrev pub over : List Errno → Errors
over errors = These (EINVAL ∷ EBADF ∷ errors)

-- a message to a path: it came another way, or the walk from its mount's root fails
abbrev pub walked : List Errno → Errors
walked errors = These (EINVAL ∷ ENOTDIR ∷ EACCES ∷ ENOENT ∷ errors)

-- ---- Files and directories

abbrev pub ram : Message → Errors
ram (msg.Open flags mode rest) = walked (EEXIST ∷ EISDIR ∷ ENFILE ∷ ENOSPC ∷ [])
ram (msg.Stat rest) = walked []
ram (msg.Mknod mode rest) = walked (EEXIST ∷ ENOSPC ∷ [])
ram (msg.Unlink rest) = walked (EBUSY ∷ ENOTEMPTY ∷ [])
ram (msg.Rename rests) = walked (EBUSY ∷ EISDIR ∷ ENOTEMPTY ∷ [])
ram (msg.Read count) = over (EISDIR ∷ [])
ram (msg.Write bytes) = over (EFBIG ∷ ENOSPC ∷ [])
ram (msg.Lseek whence offset) = over []
ram (msg.List after) = over (ENOTDIR ∷ [])
ram (msg.Chmod mode) = over (EPERM ∷ [])
ram msg.Fstat = over []
ram (msg.Dup old) = over (EMFILE ∷ [])
ram msg.Close = over []
ram (msg.Notify action conditions code value) = over (EAGAIN ∷ [])

-- ---- Pipes

-- where they differ from files
abbrev pub pipe : Message → Errors
pipe (msg.Mknod mode rest) = missing
pipe (msg.Rename rests) = missing
pipe (msg.Read count) = over (EISDIR ∷ EAGAIN ∷ EINTR ∷ [])
pipe (msg.Write bytes) = over (EPIPE ∷ EAGAIN ∷ EINTR ∷ [])
pipe (msg.Lseek whence offset) = over (ESPIPE ∷ [])
pipe message = ram message

-- ---- Devices

-- where they differ from pipes
abbrev pub device : Message → Errors
device (msg.Read count) = Any
device (msg.Write bytes) = Any
device message = pipe message

-- ---- all of them

-- a message of each manager
abbrev pub served : Manager → Message → Errors
served Ram = ram
served Pipe = pipe
served (Device of_an_author) = device

-- any bytes
abbrev pub performed : Manager → Meaning → Errors
performed manager Malformed = These (EINVAL ∷ [])
performed manager Unknown = These (ENOSYS ∷ [])
performed manager (Known message) = served manager message

-- what was sent may be answered so: with EINTR if its thread was interrupted before it was received, or by its manager
abbrev pub MayAnswer : Sent → Errno → Type 0
MayAnswer sent error = (error ≡ EINTR) ⊎ IsOneOf (performed sent.target.manager (meaning sent.bytes)) error

-- ---- what a thread sent last

-- the message that stands in a line, or else what was sent before
abbrev pub queued_or : Option Sent → State → Option Sent
queued_or before (Queued sent) = Some sent
queued_or before _ = before

abbrev pub sent_in : Option Sent → Option ThreadRow → Option Sent
sent_in before None = before
sent_in before (Some row) = queued_or before row.state

abbrev pub sent_by : Thread → Option Sent → Option Part → Option Sent
sent_by thread before None = before
sent_by thread before (Some part) = sent_in before (thread_at part thread.proc.num thread.tid)

-- looked at after each step
abbrev pub sent_from : Thread → World → Option Sent → List Step → Option Sent
sent_from thread w before [] = before
sent_from thread w before (e ∷ steps) = sent_from thread (step w e).world (sent_by thread before (row_at (step w e).world.parts thread.proc.user.0)) steps

abbrev pub last_sent : Thread → Configuration → List Step → Option Sent
last_sent thread config steps = sent_from thread (boot config) None steps

-- it is the message of that request, with what its paths have behind their mounts
abbrev pub IsMessageOf : Request → Option Sent → Type 0
IsMessageOf asked None = ⊥
IsMessageOf asked (Some sent) = (rest : List (List ℕ)) × (to : List (List ℕ)) × (sent.bytes ≡ bytes_of (content_of asked rest to))

-- something was sent, and may be answered so
abbrev pub MayFail : Option Sent → Errno → Type 0
MayFail None error = ⊥
MayFail (Some sent) error = MayAnswer sent error
