-- The machine: the system with the rows and the functions of `Users.antt`.
use Rattle.std.specs.Prelude.{ℕ, List, Option}
use Rattle.qx_types.specs.Configuration.{Configuration}
use Rattle.qx_machine.specs.Parts.{Part}
use Rattle.qx_isolation.specs.System as system
pub use Rattle.qx_isolation.specs.System.{Behaviour, is_same_item, rank, queued_item, line_without, changed_manager, line_after, lines_after, own_held, is_worker, named_thread, shown_item, user_of_item, own_line, own_hand}
pub use Rattle.qx_isolation.specs.System.{step_end, same_world, client_end, client_step, line_of, with_taken, item_to_take, item_to_do, received_part, receive, with_empty_hand, serve_end, performed_part, perform, server_given, or_same_world, server_step, step_of, server_item, server_owner, owner_of}
unfoldable pub use Rattle.qx_isolation.specs.System.{step, owner, view}
use Rattle.qx_machine.specs.Users.{boot_part, client, take, serve, settle_part}

abbrev pub machine : Behaviour Part
machine = record { boot = boot_part; client = client; take = take; serve = serve; settle = settle_part }

abbrev pub World : Type 0
World = system.World machine

abbrev pub After : Type 0
After = system.After machine

abbrev pub boot_parts : Configuration → ℕ → List (List ℕ) → List (Option Part)
boot_parts = system.boot_parts machine

abbrev pub boot : Configuration → World
boot = system.boot machine
