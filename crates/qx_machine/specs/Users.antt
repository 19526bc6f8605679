-- What the steps do to one user's rows, from these alone: all that the machine knows of them.
use Rattle.std.specs.Prelude.{ℕ, List, [], ◌∷◌, None}
use Rattle.qx_types.specs.Configuration.{Configuration, limits_of, name_bytes}
use Rattle.qx_types.specs.declared.step.Step.{Step}
use Rattle.qx_isolation.specs.declared.rows.OwnItem.{OwnItem}
use Rattle.qx_isolation.specs.declared.rows.OwnItem.TheVariants.{Message, Unblock, Disconnect}
use Rattle.qx_machine.specs.Clients.{ClientStep, client_given, or_unchanged}
use Rattle.qx_machine.specs.Mounting.{new_resources}
use Rattle.qx_machine.specs.Parts.{Part, with_process}
use Rattle.qx_machine.specs.Performing.{Served, or_kept, serve_disconnect, serve_message, serve_pulse}
use Rattle.qx_machine.specs.Processes.{taken_thread, with_thread}
use Rattle.qx_machine.specs.Settling.{settled}

-- the rows of a user at boot
unfoldable pub boot_part : Configuration → ℕ → Part
boot_part config user = record { processes = None ∷ []; resources = new_resources (limits_of config user) user (name_bytes config user) }

-- a client's step, from its user's rows and the items of that user in workers' hands
unfoldable pub client : Configuration → ℕ → List OwnItem → Part → Step → ClientStep
client config user held part e = or_unchanged part (client_given config user held part e)

-- an item of the user goes from a line into a worker's hand
unfoldable pub take : Part → OwnItem → Part
take part (Message process thread) = with_process process (with_thread thread taken_thread) part
take part (Unblock process thread call) = part
take part (Disconnect process server) = part

-- what a worker does with an item that it holds, at a moment
unfoldable pub serve : Configuration → ℕ → List OwnItem → Part → OwnItem → ℕ → Served
serve config user held part (Message process thread) moment = or_kept part (serve_message (limits_of config user).disconnect part process thread moment)
serve config user held part (Unblock process thread call) moment = or_kept part (serve_pulse part process thread call moment)
serve config user held part (Disconnect process server) moment = or_kept part (serve_disconnect part (record { process = process; server = server }) moment)

-- what the end of each step of a user settles, from the rows before it: due events give their pulses, and processes that have ended are
-- freed once nothing of them is left
unfoldable pub settle_part : Part → List OwnItem → Part → Part
settle_part before held after = settled before held after
