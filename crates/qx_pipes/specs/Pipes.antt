-- What the steps of a message to the pipe manager, or to a device's, leave of a store and of what all users share.
use Rattle.std.specs.Prelude.{ℕ, ◌≡◌, [], Option, Some, None, Result, Ok, Err}
use Rattle.qx_base.specs.declared.errno.Errno.{Errno}
use Rattle.qx_devices.specs.declared.Device.{Device}
use Rattle.qx_types.specs.declared.names.Coid.{Coid}
use Rattle.qx_iofunc.specs.Store.{Stored, with_stored}
use Rattle.qx_machine.specs.declared.rows.Effect.TheVariants.{Opens}
use Rattle.qx_machine.specs.declared.rows.Kind.{Kind}
use Rattle.qx_machine.specs.declared.rows.Kind.TheVariants as kind
use Rattle.qx_machine.specs.Functions.{Deed, reply_alone}
use Rattle.qx_machine.specs.Resources.{Resources}
use Rattle.qx_shared.specs.Shared.{Shared, pipes_of, shared_after, state_after}

-- the kind of inode that a device's manager has of its own, or the pipe manager
abbrev pub kind_with : Option Device → Kind
kind_with None = kind.Pipe
kind_with (Some device) = kind.Device device

-- what the managers keep for a user, with this of the user's in a store, and the pipes that the user has of what all share
abbrev pub seen : Resources → Stored → Shared → Resources
seen r s c = record (with_stored r s) { pipes = pipes_of c s.user }

module _ {E : Type 0} where
  -- that it was done
  abbrev pub done_of : Result (Deed Resources) E → Result Unit E
  done_of (Ok deed) = Ok tt
  done_of (Err error) = Err error

  -- a store and what all share are as the machine left them
  pub record Follows (s : Stored) (c : Shared) (new : Stored) (left : Shared) (r : Resources) (meant : Result (Deed Resources) E) : Type 0 where
    pub state : seen r new left ≡ state_after (seen r s c) meant
    pub shared : left ≡ shared_after c s.user meant

-- an open of a connection gave it this block
abbrev pub open_of_block : Coid → Resources → Result ℕ Errno → Result (Deed Resources) Errno
open_of_block coid r (Ok number) = Ok (reply_alone coid.0 [] (Opens coid number) r)
open_of_block coid r (Err error) = Err error
