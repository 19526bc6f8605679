-- What holds of each user's resources in each world that a run reaches.
use Rattle.std.proofs.Common.{◌≡◌, ℕ, ◌+◌, ◌-◌, ◌<◌, ◌≤◌, ◌==◌, ◌&&◌, not, true, List, [], ◌∷◌, length, arith, refl, sym, ap, subst, ◌∙◌}
use Rattle.std.specs.Prelude.{All, ◌||◌, nat_le, sum_by, Some}
use Rattle.std.specs.List.{AllByRecursion, list_all}
use Rattle.std.proofs.lemmas.Bool.{and_parts, cond_both, leb-true}
use Rattle.std.proofs.lemmas.Bool.Decides.{nat_tests}
use Rattle.std.proofs.lemmas.List.Elements.{All-filter, All-from_recursion, recursion_from_All}
use Rattle.qx_types.specs.declared.limits.TheConstants.Limits.{COMPONENT, FIRST_CONNECTION, TRANSFER}
use Rattle.qx_wire.specs.Rests.{is_component, is_dots, is_name_byte}
use Rattle.qx_machine.specs.Listings.{HasSizedNames, IsZeroFree}
use Rattle.qx_machine.specs.Names.{names_behind, fitting, listed, listing, names_in}
use Rattle.qx_machine.specs.Resources.{Resources}
use Rattle.qx_invariants.specs.Holds.{HasClients, HasConnections, HasFewConnections, HasFewProcesses, HasFewServers, HasKinds, HasOwnWaiters, HasTree, HasContents, HasMounts, HasOpenWaiters, HasRoom, HasSettledPipes, HasUses, HoldsInRuns, HoldsOfParts, IsOwnedBy}
use Rattle.qx_names.proofs.Keys.{all_names}
use Rattle.qx_types.specs.Configuration.{Configuration, limits_of, name_bytes}
use Rattle.qx_types.proofs.LimitLemmas.{limits_within}
use Rattle.qx_types.specs.declared.step.Step.{Step}
use Rattle.qx_types.specs.UserLimits.{UserLimits}
use Rattle.qx_machine.specs.Calls.{server_count}
use Rattle.qx_machine.specs.Mounting.{new_resources}
use Rattle.qx_machine.specs.Machine.{own_held}
use Rattle.qx_machine.specs.Parts.{Part}
use Rattle.qx_machine.specs.Processes.{Process, has_ended, has_server}
use Rattle.qx_isolation.specs.Rows.{row_at}
use Rattle.qx_machine.specs.Runs.{run}
use Rattle.qx_machine.specs.Settling.{has_waiting, is_held}
use Rattle.qx_machine.proofs.Settled.{ended_kept}
use Rattle.qx_invariants.specs.Changes.{Become, ResourceChange, MayHappen, with_change}
use Rattle.qx_invariants.proofs.Steps.{client-keeps, serve-keeps, settle-keeps, take-keeps, IsKept, run-holds}
use Rattle.qx_machine.specs.Users.{boot_part}
use Rattle.qx_invariants.proofs.Together.{Holds, boot_holds, boot_owned}
use Rattle.qx_invariants.proofs.Rooms.{limits_stay, owner-keeps, room-keeps}
use Rattle.qx_invariants.proofs.Clients.{StandsWell, well_boot, well_kept}
use Rattle.qx_invariants.proofs.Few.{StandsFew, few_boot, few_kept}
use Rattle.qx_invariants.proofs.Once.{Stands}
use Rattle.qx_invariants.proofs.Numbers.{few_connections}
use Rattle.qx_invariants.proofs.Items.{pulses, run-holds-with}
use Rattle.qx_invariants.proofs.Linked.{WellConnected, connected_boot, connected_kept}
use Rattle.qx_invariants.proofs.Remaining.{served_or_held, waiting_served}
use Rattle.qx_machine.proofs.Listings as listings

-- ---- listings

module _ (name : List ℕ) (component : is_component name ≡ true) where
  sizes : (nat_le 1 (length name) && nat_le (length name) COMPONENT) ≡ true
  sizes = (and_parts (nat_le 1 (length name) && nat_le (length name) COMPONENT) (not (is_dots name)) ((and_parts (nat_le 1 (length name) && nat_le (length name) COMPONENT && not (is_dots name)) (list_all is_name_byte name) component).0)).0

  component_sized : (0 < length name) × (length name ≤ COMPONENT)
  component_sized = (leb-true 1 (length name) ((and_parts (nat_le 1 (length name)) (nat_le (length name) COMPONENT) sizes).0), leb-true (length name) COMPONENT ((and_parts (nat_le 1 (length name)) (nat_le (length name) COMPONENT) sizes).1))

  zero_free : IsZeroFree name
  zero_free = All-from_recursion (λ byte. 0 < byte) name (each name ((and_parts (nat_le 1 (length name) && nat_le (length name) COMPONENT && not (is_dots name)) (list_all is_name_byte name) component).1))
    where
      some : (byte : ℕ) → not (byte == 0) ≡ true → 0 < byte
      some byte is = grind (arith, nat_tests, is)

      each : (bytes : List ℕ) → list_all is_name_byte bytes ≡ true → AllByRecursion (λ byte. 0 < byte) bytes
      each [] is = tt
      each (byte ∷ bytes) is = (some byte ((and_parts (not (byte == 0)) (not (byte == 47)) ((and_parts (is_name_byte byte) (list_all is_name_byte bytes) is).0)).0), each bytes ((and_parts (is_name_byte byte) (list_all is_name_byte bytes) is).1))

module _ (r : Resources) (h : HasTree r) (directory : ℕ) where
  pub sized_names : HasSizedNames r.names directory
  sized_names = All-from_recursion _ (names_in r.names directory)
      (all_names r.names directory (λ name. (0 < length name) × (length name ≤ COMPONENT)) (λ above name inode leads is. component_sized name (h.entries above name inode leads).component))

  zero_free_names : All IsZeroFree (names_in r.names directory)
  zero_free_names = All-from_recursion _ (names_in r.names directory) (all_names r.names directory IsZeroFree (λ above name inode leads is. zero_free name (h.entries above name inode leads).component))

  fitting_all : (P : List ℕ → Type 0) (room : ℕ) (names : List (List ℕ)) → AllByRecursion P names → AllByRecursion P (fitting room names)
  fitting_all P room [] all = tt
  fitting_all P room (name ∷ names) all =
      cond_both (nat_le (length name + 1) room) (name ∷ fitting (room - (length name + 1)) names) [] (AllByRecursion P) (λ fits. (all.0, fitting_all P (room - (length name + 1)) names all.1)) (λ full. tt)

  zero_free_listed : (after : List ℕ) → All IsZeroFree (listed r.names directory after)
  zero_free_listed after =
      All-from_recursion _ (listed r.names directory after)
      (fitting_all IsZeroFree TRANSFER (names_behind after (names_in r.names directory)) (recursion_from_All IsZeroFree (names_behind after (names_in r.names directory)) (All-filter _ IsZeroFree (names_in r.names directory) zero_free_names)))

pub told_listings : (r : Resources) → HasTree r → (directory other : ℕ) (after before : List ℕ) → listing (listed r.names directory after) ≡ listing (listed r.names other before) → listed r.names directory after ≡ listed r.names other before
told_listings r h directory other after before same = listings.listing_told _ _ (zero_free_listed r h directory after) (zero_free_listed r h other before) same

-- ---- what can happen

become-keeps : (start : Resources) (change : ResourceChange) (r : Resources) → MayHappen change r → Become start r → Become start (with_change change r)
become-keeps start change r may h = record {
  changes = change ∷ h.changes;
  may = (subst (MayHappen change) (sym h.are) may, h.may);
  are = ap (with_change change) h.are;
}

-- a property of the resources that each change keeps
resources_kept : (config : Configuration) (K : ℕ → Resources → Type 0) → ((user : ℕ) (change : ResourceChange) (r : Resources) → MayHappen change r → K user r → K user (with_change change r)) → IsKept config (λ user part. K user part.resources)
resources_kept config K keeps = record {
  client_step = λ user held part e h. client-keeps (K user) (keeps user) config user held part e h;
  taking = λ user part own h. take-keeps (K user) (keeps user) part own h;
  serving = λ user held part own moment h. serve-keeps (K user) (keeps user) config user held part own moment h;
  settling = λ user before held after h. settle-keeps (K user) (keeps user) before held after h;
}

pub run_becomes : (config : Configuration) (steps : List Step) (user : ℕ) (part : Part) → row_at (run config steps).world.parts user ≡ Some part → Become (new_resources (limits_of config user) user (name_bytes config user)) part.resources
unfolding boot_part
run_becomes config steps =
    run-holds config (λ user part. Become (new_resources (limits_of config user) user (name_bytes config user)) part.resources)
    (resources_kept config (λ user. Become (new_resources (limits_of config user) user (name_bytes config user))) (λ user. become-keeps (new_resources (limits_of config user) user (name_bytes config user))))
    (λ user. record { changes = []; may = tt; are = refl }) steps

pub run_limits : (config : Configuration) (steps : List Step) (user : ℕ) (part : Part) → row_at (run config steps).world.parts user ≡ Some part → part.resources.limits ≡ limits_of config user
unfolding boot_part
run_limits config steps =
    run-holds config (λ user part. part.resources.limits ≡ limits_of config user)
    (resources_kept config (λ user r. r.limits ≡ limits_of config user) (λ user change r may same. limits_stay change r ∙ same))
    (λ user. refl) steps

-- ---- how things stand

pub run_well : HoldsOfParts StandsWell
run_well config steps = run-holds config (λ user. StandsWell) (well_kept config) (well_boot config) steps

pub run_stands : HoldsOfParts Stands
run_stands config steps user part there = (run_well config steps user part there).stands

pub run_kinds : HoldsInRuns HasKinds
run_kinds config steps user part there = (run_well config steps user part there).clientele.kinds.kinds

pub run_clients : HoldsOfParts HasClients
run_clients config steps user part there = (run_well config steps user part there).clientele.has

pub run_holds : HoldsInRuns Holds
run_holds config steps user part there = (run_stands config steps user part there).holds

pub run_contents : HoldsInRuns HasContents
run_contents config steps user part there = (run_holds config steps user part there).contents

pub run_uses : HoldsInRuns HasUses
run_uses config steps user part there = (run_holds config steps user part there).uses

pub run_owned : (config : Configuration) (steps : List Step) (user : ℕ) (part : Part) → row_at (run config steps).world.parts user ≡ Some part → IsOwnedBy user part.resources
unfolding boot_part
run_owned config steps user part there =
    (run-holds config (λ user part. HasRoom part.resources × IsOwnedBy user part.resources)
    (resources_kept config (λ user r. HasRoom r × IsOwnedBy user r) (λ user change r may h. (room-keeps change r may h.0, owner-keeps user change r may h.0 h.1)))
    (λ user. ((boot_holds (limits_of config user) (limits_within config user) user (name_bytes config user)).room, boot_owned (limits_of config user) user (name_bytes config user))) steps user part there).1

pub run_settled : HoldsInRuns HasSettledPipes
run_settled config steps user part there = (run_holds config steps user part there).settled

pub run_mounts : HoldsInRuns HasMounts
run_mounts config steps user part there = (run_holds config steps user part there).mounts

-- ---- how much a user holds

run_few : (config : Configuration) (steps : List Step) (user : ℕ) (part : Part) → row_at (run config steps).world.parts user ≡ Some part → StandsFew config user part
run_few config steps = run-holds config (StandsFew config) (few_kept config) (few_boot config) steps

pub run_few_processes : HoldsOfParts HasFewProcesses
run_few_processes config steps user part there =
    let few = (run_few config steps user part there).few in
    record { numbered = λ number process at. subst (λ (l : UserLimits). (1 ≤ number) × (number ≤ l.processes)) (sym (run_limits config steps user part there)) (few.numbered number process at) }

pub run_few_servers : HoldsOfParts HasFewServers
run_few_servers config steps user part there =
    let few = (run_few config steps user part there).few in
    record { few = λ manager. subst (λ (l : UserLimits). sum_by (server_count manager) part.processes ≤ l.servers) (sym (run_limits config steps user part there)) (few.servers manager) }

-- ---- calls that wait

pub run_waiters : HoldsInRuns HasOpenWaiters
run_waiters config steps user part there = (run_holds config steps user part there).waiters

-- ---- connections

run_connected : (config : Configuration) (steps : List Step) (user : ℕ) (part : Part) → row_at (run config steps).world.parts user ≡ Some part → WellConnected part (pulses user (run config steps).world)
run_connected config steps user part there = run-holds-with (λ user. WellConnected) connected_kept config (connected_boot config) steps user part there

pub run_connections : HoldsOfParts HasConnections
run_connections config steps user part there = (run_connected config steps user part there).connected.has

pub run_few_connections : HoldsOfParts HasFewConnections
run_few_connections config steps user part there =
    let stands = run_few config steps user part there in
    let limits = run_limits config steps user part there in
    few_connections part
    (λ number process at coid connection is. ((stands.well.clientele.sound number process at).numbered coid connection is, subst (λ (l : UserLimits). coid < FIRST_CONNECTION + l.connections) (sym limits) (stands.few.connections number process at coid connection is)))
    (run_connections config steps user part there)

pub run_own_waiters : HoldsInRuns HasOwnWaiters
run_own_waiters config steps user part there = (run_connected config steps user part there).connected.waiters

-- what remains of a process that has ended
pub run_ended : (config : Configuration) (steps : List Step) (user : ℕ) (part : Part) (number : ℕ) (process : Process) → row_at (run config steps).world.parts user ≡ Some part → row_at part.processes number ≡ Some process
    → has_ended process ≡ true → (has_server process || is_held (own_held user (run config steps).world.hands) number) ≡ true
run_ended config steps user part number process here there ended =
    served_or_held (has_server process) (is_held (own_held user (run config steps).world.hands) number) (has_waiting part.resources.pipes number) (ended_kept config steps user part number process here there ended)
    (waiting_served part (run_clients config steps user part here) (run_own_waiters config steps user part here) number process there)
