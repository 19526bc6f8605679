-- Steps that are chosen in a world, and then in the world after them; and the steps by which one worker serves all that waits.
use Rattle.std.specs.Prelude.{ℕ, zero, suc, ◌*◌, List, [], ◌∷◌, ◌++◌, Some, None, length, sum_by}
use Rattle.qx_types.specs.declared.names.Manager.{Manager}
use Rattle.qx_types.specs.declared.names.Worker.{Worker}
use Rattle.qx_types.specs.declared.step.Step.{Step}
use Rattle.qx_types.specs.declared.step.Step.TheVariants.{Receive, Perform}
use Rattle.qx_isolation.specs.System as system
use Rattle.qx_isolation.specs.System.{Behaviour, world_after}
use Rattle.qx_machine.specs.Machine.{World}
use Rattle.qx_machine.specs.Reads.{next_manager}

-- the worker that serves
abbrev pub first_worker : Worker
first_worker = record { 0 = 1 }

-- it takes the first item of a line and does it, at a moment
abbrev pub round_steps : ℕ → Manager → List Step
round_steps moment manager = Receive first_worker manager ∷ Perform first_worker moment ∷ []

module _ {Part : Type 0} {b : Behaviour Part} where
  -- steps, and then those that are chosen in the world after them
  abbrev pub followed : system.World b → List Step → (system.World b → List Step) → List Step
  followed w steps next = steps ++ next (world_after w steps)

  -- what is chosen for one after the other
  abbrev pub each : {A : Type 0} → (A → system.World b → List Step) → List A → system.World b → List Step
  each choose [] w = []
  each choose (one ∷ more) w = followed w (choose one w) (each choose more)

-- how many items wait in all lines
abbrev pub items_waiting : World → ℕ
items_waiting w = sum_by length w.lines

-- so many rounds, as long as an item waits
abbrev pub rounds : ℕ → ℕ → World → List Step
rounds zero moment w = []
rounds (suc left) moment w = elim (next_manager w) [ None ↦ [] | Some manager ↦ followed w (round_steps moment manager) (rounds left moment) ]

-- every item that waits is served, and so is what serving puts into a line: each round takes one item from its line, and a message that is
-- done may put one disconnect pulse there, a pulse nothing; so twice as many rounds as items wait are enough
unfoldable pub served_steps : ℕ → World → List Step
served_steps moment w = rounds (2 * items_waiting w) moment w
