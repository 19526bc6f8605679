-- What becomes of a user's resources as a client is gone.
use Rattle.std.specs.Prelude.{ℕ, Bool}
use Rattle.qx_machine.specs.declared.rows.Client.{Client}
use Rattle.qx_machine.specs.Functions.{Deed}
use Rattle.qx_machine.specs.Managers.{close_client}
use Rattle.qx_machine.specs.Notification.{events_settled}
use Rattle.qx_machine.specs.Resources.{Resources}

-- events that are due by what was done since before have given their pulses to the processes that live
abbrev pub deed_settled : (ℕ → Bool) → Resources → Deed Resources → Deed Resources
deed_settled lives before deed = record deed { state = record deed.state { events = events_settled lives before deed.state } }

-- the open control blocks of a client are gone, and due events have given their pulses
abbrev pub disconnected : (ℕ → Bool) → Resources → Client → ℕ → Deed Resources
disconnected lives r client moment = deed_settled lives r (close_client r client moment)
