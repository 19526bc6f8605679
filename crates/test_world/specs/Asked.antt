-- The steps of one request.
use Rattle.std.specs.Prelude.{◌≡◌, ◌⊎◌, ℕ, List, [], ◌∷◌, ◌++◌}
use Rattle.qx_types.specs.declared.names.Manager.TheVariants.{Ram}
use Rattle.qx_types.specs.declared.names.Thread.{Thread}
use Rattle.qx_types.specs.declared.names.Worker.{Worker}
use Rattle.qx_types.specs.declared.request.Request.{Request}
use Rattle.qx_types.specs.declared.step.Step.{Step}
use Rattle.qx_types.specs.declared.step.Step.TheVariants.{Call, Receive, Perform}

abbrev pub asked_worker : Worker
asked_worker = record { 0 = 1 }

-- earlier steps, the call, and the receive by the first worker
abbrev pub before_perform : List Step → Thread → Request → List Step
before_perform steps thread request = (steps ++ Call thread request ∷ []) ++ Receive asked_worker Ram ∷ []

-- and what the first worker does
abbrev pub before_answer : List Step → Thread → Request → ℕ → List Step
before_answer steps thread request moment = before_perform steps thread request ++ Perform asked_worker moment ∷ []

-- the step that was not stored is the call, or the perform, and the steps before it were
abbrev pub IsRefusedAt : List Step → Thread → Request → ℕ → Step → List Step → Type 0
IsRefusedAt steps thread request moment refused stored =
    ((refused ≡ Call thread request) × (stored ≡ steps))
    ⊎ ((refused ≡ Perform asked_worker moment) × (stored ≡ before_perform steps thread request))
