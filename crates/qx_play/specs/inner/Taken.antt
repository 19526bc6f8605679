-- The steps by which processes take what they are told, from who was told.
use Rattle.std.specs.Prelude.{List, [], ◌∷◌, ◌++◌}
use Rattle.qx_types.specs.declared.names.Actor.{Actor}
use Rattle.qx_types.specs.declared.names.Actor.TheVariants.{OfUser, OfProc, OfThread}
use Rattle.qx_types.specs.declared.step.Step.{Step}
use Rattle.qx_types.specs.declared.step.Step.TheVariants.{TakeReply, TakePulse}
use Rattle.qx_isolation.specs.declared.rows.Seen.{Seen}

-- a thread takes its answer, and a process a pulse
abbrev pub taking : Actor → List Step
taking (OfUser user) = []
taking (OfProc process) = TakePulse process ∷ []
taking (OfThread thread) = TakeReply thread ∷ []

abbrev pub taken_steps : List Seen → List Step
taken_steps [] = []
taken_steps (seen ∷ more) = taking seen.actor ++ taken_steps more
