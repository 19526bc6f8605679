-- What serving a message or an unblock pulse makes of a channel and of its user's resources.
use Rattle.std.specs.Prelude.{◌≡◌, ⊤, ℕ, List, Option, Some, None, option_map, slice_set}
use Rattle.qx_machine.specs.declared.rows.Sent.{Sent}
use Rattle.qx_machine.specs.Machine.{lines_after}
use Rattle.qx_machine.specs.Notification.{events_settled}
use Rattle.qx_machine.specs.Parts.{Part}
use Rattle.qx_machine.specs.Performing.{Served}
use Rattle.qx_isolation.specs.Rows.{row_at, with_row}
use Rattle.qx_machine.specs.Settling.{is_living}
use Rattle.qx_resources.specs.State.{told, Kept}
use Rattle.qx_chan.specs.Channel.{Channel, lists}

-- bytes that were read before are those of the message
abbrev pub IsReadOf : Option (List ℕ) → Option Sent → Type 0
IsReadOf (Some bytes) (Some sent) = bytes ≡ sent.bytes
IsReadOf _ _ = ⊤

-- a user's part of the machine, where the user has processes
abbrev pub part_in : Channel → Kept → Option Part
part_in c k = option_map (λ processes. record { processes = processes; resources = told k (lists c) }) (row_at c.users k.user)

-- what is served, once the user's events that are due by it have given their pulses
abbrev pub settled : Part → Served → Served
settled before given = record given { part = record given.part { resources = record given.part.resources { events = events_settled (is_living given.part.processes) before.resources given.part.resources } } }

module _ (c d : Channel) (k l : Kept) (served : Part → Served) where
  -- the user's part and the lines became that, and nothing else is different but the room for nodes
  abbrev pub PartServed : Option Part → Type 0
  PartServed None = (d ≡ c) × (l ≡ k)
  PartServed (Some part) =
      (d ≡ record {
        users = with_row c.users k.user (λ _. (served part).part.processes);
        lines = lines_after k.user c.lines (served part).changes;
        pipes = slice_set c.pipes k.user (served part).part.resources.pipes;
        events = slice_set c.events k.user (served part).part.resources.events;
        mounts = c.mounts;
        room = d.room;
      })
      × (told l (lists d) ≡ (served part).part.resources)

  -- that is done for a user whose processes are there
  pub record Serves : Type 0 where
    pub did : PartServed (part_in c k)
    pub user : l.user ≡ k.user
