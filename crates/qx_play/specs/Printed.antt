-- What is printed of outcomes, of what a user was shown, and of a trace.
use Rattle.std.specs.Prelude.{ℕ, ◌+◌, List, [], ◌∷◌, ◌++◌, codes, decimal}
use Rattle.qx_types.specs.Configuration.{Configuration}
use Rattle.qx_base.specs.ErrorNames.{errno_name}
use Rattle.qx_types.specs.declared.names.Actor.{Actor}
use Rattle.qx_types.specs.declared.names.Actor.TheVariants.{OfUser, OfProc, OfThread}
use Rattle.qx_types.specs.declared.names.Item.{Item}
use Rattle.qx_types.specs.declared.names.Item.TheVariants.{Message, Unblock, Disconnect}
use Rattle.qx_types.specs.declared.outcome.Outcome.{Outcome}
use Rattle.qx_types.specs.declared.outcome.Outcome.TheVariants.{Spawned, Refused, Done, Sent, Reply, Failed, Pulse, NoPulse, WrongState, Took, Idle, Busy, Handled, Nothing}
use Rattle.qx_isolation.specs.declared.rows.Entry.{Entry}
use Rattle.qx_isolation.specs.declared.rows.Seen.{Seen}
use Rattle.qx_script.specs.StepText.{step_text}
use Rattle.qx_words.specs.WordText.{bytes_text, process_text, thread_text, user_text}

unfoldable pub actor_text : Configuration → Actor → List ℕ
actor_text config (OfUser user) = user_text config user.0
actor_text config (OfProc process) = process_text config process
actor_text config (OfThread thread) = thread_text config thread

unfoldable pub item_text : Configuration → Item → List ℕ
item_text config (Message thread) = thread_text config thread ++ codes " message"
item_text config (Unblock thread) = thread_text config thread ++ codes " unblock"
item_text config (Disconnect process) = process_text config process ++ codes " disconnect"

unfoldable pub outcome_text : Configuration → Outcome → List ℕ
outcome_text config (Spawned number) = codes "spawned " ++ decimal number
outcome_text config (Refused error) = codes "refused " ++ errno_name error
outcome_text config Done = codes "done"
outcome_text config Sent = codes "sent"
outcome_text config (Reply status bytes) = codes "reply " ++ decimal status ++ codes " " ++ bytes_text bytes
outcome_text config (Failed error) = codes "error " ++ errno_name error
outcome_text config (Pulse code value) = codes "pulse " ++ decimal code ++ codes " " ++ decimal value
outcome_text config NoPulse = codes "nopulse"
outcome_text config WrongState = codes "wrongstate"
outcome_text config (Took item) = codes "took " ++ item_text config item
outcome_text config Idle = codes "idle"
outcome_text config Busy = codes "busy"
outcome_text config Handled = codes "handled"
outcome_text config Nothing = codes "nothing"

-- one line: who, and what came of it
unfoldable pub seen_text : Configuration → Seen → List ℕ
seen_text config seen = actor_text config seen.actor ++ codes " " ++ outcome_text config seen.outcome ++ codes "\n"

abbrev pub transcript_text : Configuration → List Seen → List ℕ
transcript_text config [] = []
transcript_text config (seen ∷ more) = seen_text config seen ++ transcript_text config more

-- one line: the step's number, the step, and what came of it
unfoldable pub entry_text : Configuration → ℕ → Entry → List ℕ
entry_text config number entry =
    decimal number ++ codes " " ++ step_text config entry.step ++ codes " -> " ++ outcome_text config entry.outcome ++ codes "\n"

-- the lines of the steps from this number on
abbrev pub entries_text : Configuration → ℕ → List Entry → List ℕ
entries_text config number [] = []
entries_text config number (entry ∷ more) = entry_text config number entry ++ entries_text config (number + 1) more

-- the lines of all steps, numbered from 1
abbrev pub trace_text : Configuration → List Entry → List ℕ
trace_text config entries = entries_text config 1 entries
