-- Runs: the configuration stays, and one step more.
use Rattle.std.proofs.Common.{◌≡◌, ℕ, List, [], ◌∷◌, ◌++◌, Option, Some, None, refl}
use Rattle.qx_types.specs.Configuration.{Configuration}
use Rattle.qx_types.specs.Step.{actor_of, user_of}
use Rattle.qx_types.specs.declared.names.Actor.{Actor}
use Rattle.qx_types.specs.declared.step.Step.{Step}
use Rattle.qx_isolation.specs.declared.rows.Held.{Held}
use Rattle.qx_isolation.specs.System as system
use Rattle.qx_isolation.specs.Rows.{row_at}
use Rattle.qx_isolation.proofs.Workers.{server_leaves}
use Rattle.qx_machine.specs.Machine.{World, boot, step, client_step, performed_part, received_part, server_step, step_of, with_empty_hand, with_taken}
use Rattle.qx_machine.specs.Parts.{Part}
use Rattle.qx_machine.specs.Runs.{world_after}

-- the configuration stays

client_step-config : (w : World) (user : ℕ) (e : Step) (part : Option Part) → (client_step w user e part).world.config ≡ w.config
client_step-config w user e None = refl
client_step-config w user e (Some part) = refl

received_part-config : (w : World) (taken : Held) (part : Option Part) → (received_part w taken part).config ≡ w.config
received_part-config w taken None = refl
received_part-config w taken (Some part) = refl

performed_part-config : (w : World) (held : Held) (moment : ℕ) (part : Option Part) → (performed_part w held moment part).config ≡ w.config
performed_part-config w held moment None = refl
performed_part-config w held moment (Some part) = refl

server_step-config : (w : World) (e : Step) → (server_step w e).world.config ≡ w.config
server_step-config w e = server_leaves w e (λ v. v.config ≡ w.config) refl
    (λ worker manager taken is. received_part-config (with_taken w worker manager taken) taken (row_at w.parts taken.user.0))
    (λ worker moment held is. performed_part-config (with_empty_hand w worker) held moment (row_at w.parts held.user.0))

step_of-config : (w : World) (e : Step) (by : Option Actor) → (step_of w e by).world.config ≡ w.config
step_of-config w e None = server_step-config w e
step_of-config w e (Some actor) = client_step-config w (user_of actor) e (row_at w.parts (user_of actor))

pub step-config : (w : World) (e : Step) → (step w e).world.config ≡ w.config
unfolding step
step-config w e = step_of-config w e (actor_of e)

pub boot-config : (config : Configuration) → (boot config).config ≡ config
unfolding system.boot
boot-config config = refl

-- one step more

pub world_after-append : (w : World) (steps : List Step) (e : Step) → world_after w (steps ++ e ∷ []) ≡ (step (world_after w steps) e).world
world_after-append w [] e = refl
world_after-append w (first ∷ steps) e = world_after-append (step w first).world steps e
