-- A first script: one user's process opens its root, closes it, opens it again and asks for its status.
use Rattle.std.specs.Prelude.{ℕ, List, [], ◌∷◌, ◌++◌, map, replicate}
use Rattle.qx_types.specs.Configuration.{Configuration}
use Rattle.qx_types.specs.declared.names.Item.TheVariants.{Message, Disconnect}
use Rattle.qx_types.specs.declared.names.Manager.TheVariants.{Ram}
use Rattle.qx_types.specs.declared.names.Thread.{Thread}
use Rattle.qx_types.specs.declared.outcome.Outcome.{Outcome}
use Rattle.qx_types.specs.declared.outcome.Outcome.TheVariants.{Spawned, Sent, Reply, Took, Handled}
use Rattle.qx_types.specs.declared.request.Request.{Request}
use Rattle.qx_types.specs.declared.request.Request.TheVariants.{OpenPath, Close, Fstat}
use Rattle.qx_types.specs.declared.step.Step.{Step}
use Rattle.qx_types.specs.declared.step.Step.TheVariants.{Spawn, Call, TakeReply, Receive, Perform}
use Rattle.qx_types.specs.UserLimits.{default_limits}
use Rattle.qx_machine.specs.Runs.{Run}

-- the user ann, and one worker
abbrev pub one_user : Configuration
one_user = record { users = (97 ∷ 110 ∷ 110 ∷ []) ∷ []; workers = 1; limits = default_limits ∷ [] }

-- the first thread of ann's first process
abbrev pub ann : Thread
ann = record { proc = record { user = record { 0 = 1 }; num = 1 }; tid = 1 }

-- a call, with what the worker does for it at a moment, and its reply
abbrev pub exchange : Request → ℕ → List Step
exchange request moment =
    Call ann request ∷ Receive (record { 0 = 1 }) Ram ∷ Perform (record { 0 = 1 }) moment ∷ TakeReply ann ∷ []

-- what the worker does for a disconnect pulse at a moment
abbrev pub pulse : ℕ → List Step
pulse moment = Receive (record { 0 = 1 }) Ram ∷ Perform (record { 0 = 1 }) moment ∷ []

-- an open of ann's root, /ann, to read
abbrev pub open_root : Request
open_root = OpenPath (record { 0 = 1 }) 0 (47 ∷ 97 ∷ 110 ∷ 110 ∷ [])

abbrev pub first_script : List Step
first_script =
    Spawn (record { 0 = 1 }) 1 (record { 0 = 10 }) ∷
    exchange open_root 5 ++
    exchange (Close (record { 0 = 3 })) 6 ++
    pulse 6 ++
    exchange open_root 7 ++
    exchange (Fstat (record { 0 = 3 })) 8

-- a call's outcomes, to its reply
abbrev pub exchanged : ℕ → List ℕ → List Outcome
exchanged status bytes = Sent ∷ Took (Message ann) ∷ Handled ∷ Reply status bytes ∷ []

-- the outcomes of a disconnect pulse, once the process has no connection any more
abbrev pub pulsed : List Outcome
pulsed = Took (Disconnect ann.proc) ∷ Handled ∷ []

-- the status of ann's root: inode 1, a directory of mode 0700 with one link, of user 1, empty, never changed
abbrev pub root_status : List ℕ
root_status = 1 ∷ 0 ∷ 0 ∷ 0 ∷ 2 ∷ 0 ∷ 192 ∷ 1 ∷ 1 ∷ 0 ∷ 0 ∷ 0 ∷ 1 ∷ 0 ∷ 0 ∷ 0 ∷ replicate 24 0

abbrev pub first_outcomes : List Outcome
first_outcomes = Spawned 1 ∷ exchanged 3 [] ++ exchanged 0 [] ++ pulsed ++ exchanged 3 [] ++ exchanged 0 root_status

-- the outcomes that a run stored
abbrev pub outcomes_of : Run → List Outcome
outcomes_of stored = map (λ entry. entry.outcome) stored.entries
