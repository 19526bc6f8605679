-- What a function gave, as a deed, with what it left.
use Rattle.std.specs.Prelude.{ℕ, List, [], Option, Some, Result, Ok, Err, if◌then◌else◌}
use Rattle.arrayvec.specs.ArrayVec.{ArrayVec}
use Rattle.qx_base.specs.declared.errno.Errno.{Errno}
use Rattle.qx_types.specs.declared.names.Coid.{Coid}
use Rattle.qx_iofunc.specs.declared.found.Opening.{Opening}
use Rattle.qx_machine.specs.declared.rows.Effect.TheVariants.{Keeps, Opens}
use Rattle.qx_machine.specs.declared.rows.Kind.{Kind}
use Rattle.qx_machine.specs.declared.rows.Kind.TheVariants.{Device, Pipe}
use Rattle.qx_machine.specs.Functions.{Deed, reply_alone}
use Rattle.qx_machine.specs.Resources.{Resources, with_empty, without_content}

-- a number is replied, with these bytes
abbrev pub number_replied : List ℕ → Resources → Result ℕ Errno → Result (Deed Resources) Errno
number_replied bytes r (Ok status) = Ok (reply_alone status bytes Keeps r)
number_replied bytes r (Err error) = Err error

-- it is done, and nothing is told
abbrev pub done : Resources → Result (Unit {0}) Errno → Result (Deed Resources) Errno
done r (Ok nothing) = Ok (reply_alone 0 [] Keeps r)
done r (Err error) = Err error

-- the bytes of a status are told
abbrev pub status_told : Resources → Result (ArrayVec ℕ) Errno → Result (Deed Resources) Errno
status_told r (Ok status) = Ok (reply_alone 0 status.items Keeps r)
status_told r (Err error) = Err error

-- ---- what a manager keeps elsewhere in its inodes, a pipe or a device, is the manager's to make and to take away

abbrev pub with_pipe_made : Kind → Opening → Resources → Resources
with_pipe_made Pipe opening r = if opening.is_new then with_empty Pipe opening.inode r else r
with_pipe_made (Device device) opening r = if opening.is_new then with_empty (Device device) opening.inode r else r
with_pipe_made _ opening r = r

abbrev pub with_pipe_gone : Kind → Option ℕ → Resources → Resources
with_pipe_gone Pipe (Some inode) r = without_content Pipe inode r
with_pipe_gone (Device device) (Some inode) r = without_content (Device device) inode r
with_pipe_gone _ _ r = r

-- an open of a connection
abbrev pub open_given : Coid → Kind → Opening → Resources → Deed Resources
open_given coid kind opening r = reply_alone coid.0 [] (Opens coid opening.number) (with_pipe_made kind opening r)

-- a name is gone, and the inode that it named or not
abbrev pub unlink_given : Kind → Resources → Result (Option ℕ) Errno → Result (Deed Resources) Errno
unlink_given own r (Ok gone) = Ok (reply_alone 0 [] Keeps (with_pipe_gone own gone r))
unlink_given own r (Err error) = Err error
