-- What only the proofs need of Trace.
use Rattle.std.specs.Prelude.{◌≡◌, List, Option, option_map, map}
use Rattle.qx_types.specs.declared.names.User.{User}
use Rattle.qx_types.specs.declared.step.Step.{Step}
use Rattle.qx_isolation.specs.declared.rows.Entry.{Entry}
use Rattle.qx_machine.specs.Machine.{World, boot}
use Rattle.qx_machine.specs.Runs.{run}
use Rattle.qx_world.specs.Trace.{owners_from}

-- the steps that were stored
abbrev pub steps_of : List Entry → List Step
steps_of entries = map (λ entry. entry.step) entries

-- the world, the entries and the owners are those of the run of the stored steps
pub record IsRun (world : World) (entries : List Entry) (owners : List (Option User)) : Type 0 where
  pub same_world : world ≡ (run world.config (steps_of entries)).world
  pub same_entries : entries ≡ (run world.config (steps_of entries)).entries
  pub same_owners : map (option_map (λ user. user.0)) owners ≡ owners_from (boot world.config) (steps_of entries)
