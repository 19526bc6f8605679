-- The words of the machine's laws.
use Rattle.std.specs.Prelude.{◌≡◌, ℕ, Bool, true, false, List, Some, count_by, filter}
use Rattle.qx_types.specs.declared.step.Step.{Step}
use Rattle.qx_isolation.specs.declared.rows.OwnItem.{OwnItem}
use Rattle.qx_isolation.specs.declared.rows.OwnItem.TheVariants.{Message}
use Rattle.qx_machine.specs.declared.rows.Event.{Event}
use Rattle.qx_machine.specs.Events.{is_due}
use Rattle.qx_machine.specs.Machine.{World, machine, own_held}
use Rattle.qx_machine.specs.Notification.{block_conditions}
use Rattle.qx_machine.specs.Parts.{Change, Part, Put, Remove}
use Rattle.qx_isolation.specs.Rows.{row_at}
use Rattle.qx_isolation.specs.System as system
pub use Rattle.qx_isolation.specs.System.{IsInOrder, is_refusal, own_entries}
use Rattle.qx_machine.specs.Users.{settle_part}

-- this holds in each world that a run reaches, of each step that is taken by or for the user there
abbrev pub HoldsOfOwnSteps : (ℕ → World → Step → Type 0) → Type 0
HoldsOfOwnSteps = system.HoldsOfOwnSteps machine

-- how many items changes put into lines
abbrev pub is_put : Change → Bool
is_put (Put manager item prio) = true
is_put (Remove manager item) = false

abbrev pub put_count : List Change → ℕ
put_count changes = count_by is_put changes

-- how many items the performing of an item may put into lines: that of a message one pulse, that of a pulse none
abbrev pub most_put : OwnItem → ℕ
most_put (Message process thread) = 1
most_put _ = 0

-- the events that a user has armed still though a wanted condition of theirs has come to hold since the user's rows were those
abbrev pub due_since : Part → Part → List Event
due_since before after = filter (is_due (block_conditions before.resources) (block_conditions after.resources)) after.resources.events.armed

-- a step that leaves a user's rows alone leaves them so at its end too: no process that has ended could be freed, as no condition comes to hold
abbrev pub IsSettled : World → Type 0
IsSettled w = (user : ℕ) (part : Part) → row_at w.parts user ≡ Some part → settle_part part (own_held user w.hands) part ≡ part
