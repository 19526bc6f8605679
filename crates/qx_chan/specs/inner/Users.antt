-- What only the proofs need of Users.
use Rattle.std.specs.Prelude.{◌<◌, ⊤, List, Option, Some, None, length}
use Rattle.qx_machine.specs.Processes.{Process}

-- the table of a user's processes has a place for each number below the next one
abbrev pub HasPlace : Option (List (Option Process)) → Type 0
HasPlace None = ⊤
HasPlace (Some processes) = 0 < length processes
