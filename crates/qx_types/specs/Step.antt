-- Who takes a step.
use Rattle.std.specs.Prelude.{ℕ, Bool, Option, Some, None, is_some}
use Rattle.qx_types.specs.declared.names.Actor.{Actor}
use Rattle.qx_types.specs.declared.names.Actor.TheVariants.{OfUser, OfProc, OfThread}
use Rattle.qx_types.specs.declared.step.Step.{Step}
use Rattle.qx_types.specs.declared.step.Step.TheVariants.{Spawn, Exit, Call, TakeReply, TakePulse, SetPrio, Interrupt, Mount, Receive, Perform}

-- who takes a client's step; a worker takes the others
abbrev pub actor_of : Step → Option Actor
actor_of (Spawn user threads prio) = Some (OfUser user)
actor_of (Exit proc) = Some (OfProc proc)
actor_of (Call thread request) = Some (OfThread thread)
actor_of (TakeReply thread) = Some (OfThread thread)
actor_of (TakePulse proc) = Some (OfProc proc)
actor_of (SetPrio thread prio) = Some (OfThread thread)
actor_of (Interrupt thread) = Some (OfThread thread)
actor_of (Mount thread path manager) = Some (OfThread thread)
actor_of (Receive worker manager) = None
actor_of (Perform worker moment) = None

abbrev pub user_of : Actor → ℕ
user_of (OfUser user) = user.0
user_of (OfProc proc) = proc.user.0
user_of (OfThread thread) = thread.proc.user.0

-- a client takes it, and not a worker
abbrev pub is_client_step : Step → Bool
is_client_step e = is_some (actor_of e)
