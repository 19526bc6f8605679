-- What becomes of the threads and the server connections of a process that ends.
use Rattle.std.proofs.Common.{◌≡◌, ◌≢◌, ◌<◌, ◌+◌, ℕ, List, [], ◌∷◌, length, get_or, map, refl, sym, ap, subst, ◌∙◌, arith, false, Option, Some, None, IfSome, slice_get}
use Rattle.std.specs.Prelude.{◌||◌, is_some, option_map, unwrap_or}
use Rattle.std.specs.List.{flat_map, list_any}
use Rattle.std.specs.Option.{option_to_list}
use Rattle.std.proofs.Math.Bool.{or-false}
use Rattle.std.proofs.lemmas.Bool.{eq-eqb}
use Rattle.std.proofs.lemmas.List.{get_or-map}
use Rattle.std.proofs.lemmas.List.Folds.{flat_map-map}
use Rattle.std.proofs.lemmas.Option.{slice_get-map}
use Rattle.qx_types.specs.Managers.{manager_count, manager_number, managers}
use Rattle.qx_types.specs.declared.names.Manager.{Manager}
use Rattle.qx_isolation.specs.declared.rows.ServerName.{ServerName}
use Rattle.qx_isolation.specs.Lines.{line_at}
use Rattle.qx_machine.specs.Processes.{Process, no_sides, servers_at}
use Rattle.qx_isolation.specs.Rows.{row_at}
use Rattle.qx_machine.specs.Servers.{Servers, in_use, is_attached, leaving, lost_by, servers_from}
use Rattle.qx_process.specs.Reads.{LosesAll, is_at, is_served, named, used_at, used_servers}
use Rattle.qx_types.proofs.Managers.{at_one, number_at, number_below}
use Rattle.qx_process.proofs.ServerLemmas.{differs_by, line_at-get_or, none-left, servers_from_again}

-- those at one manager, all left
abbrev pub left : Servers → Servers
left servers = map (option_map leaving) servers

-- nothing is attached any more
pub all-left : (number : ℕ) (all : List Servers) → servers_from (λ number. is_attached number [] no_sides) number all ≡ map left all
all-left number [] = refl
all-left number (servers ∷ all) = ap (λ rest. left servers ∷ rest) (all-left (number + 1) all)

pub left-settled : (all : List Servers) → map left all ≡ servers_from (λ number. is_attached number [] no_sides) 0 (map left all)
left-settled all = rw (← all-left 0 all) (sym (servers_from_again (λ number. is_attached number [] no_sides) 0 all))

-- ---- what is lost

listed : (manager : Manager) (number : Option ℕ) → option_to_list (option_map (named manager) number) ≡ lost_by manager number None
listed manager None = refl
listed manager (Some number) = refl

placed : (manager : Manager) (number : Option ℕ) → IfSome (option_map (named manager) number) (λ server. manager_number server.manager ≡ manager_number manager)
placed manager None = tt
placed manager (Some number) = refl

-- what is in use at a manager is at that manager, and at no other
at_own : (manager : Manager) (number : Option ℕ) → is_at manager (option_map (named manager) number) ≡ is_some number
at_own manager None = refl
at_own manager (Some number) = eq-eqb (manager_number manager) (manager_number manager) refl

at_other : (manager other : Manager) (number : Option ℕ) → manager_number other ≢ manager_number manager → is_at manager (option_map (named other) number) ≡ false
at_other manager other None differs = refl
at_other manager other (Some number) differs = differs_by (manager_number manager) (manager_number other) (λ is. differs (sym is))

-- under a manager's number stands what is in use there
pub used-here : (process : Process) (number : ℕ) (manager : Manager) → slice_get managers number ≡ Some manager → row_at (used_servers process) number ≡ used_at process manager
used-here process number manager is = ap (λ row. unwrap_or row None) (slice_get-map (used_at process) managers number ∙ ap (option_map (used_at process)) is)

-- what holds of what is in use at each manager holds under each number
pub each-used : (process : Process) (Holds : ℕ → ServerName → Type 0) → ((manager : Manager) → IfSome (used_at process manager) (Holds (manager_number manager))) → (number : ℕ) → IfSome (row_at (used_servers process) number) (Holds number)
each-used process Holds here number = rw (slice_get-map (used_at process) managers number) (by (slice_get managers number) refl)
  where
    by : (at : Option Manager) → slice_get managers number ≡ at → IfSome (unwrap_or (option_map (used_at process) at) None) (Holds number)
    by None is = tt
    by (Some manager) is = subst (λ n. IfSome (used_at process manager) (Holds n)) (number_at number manager is) (here manager)

pub used-placed : (process : Process) (number : ℕ) → IfSome (row_at (used_servers process) number) (λ server. manager_number server.manager ≡ number)
used-placed process = each-used process (λ number server. manager_number server.manager ≡ number) (λ manager. placed manager (in_use (servers_at manager process)))

-- one is in use at a manager if one of them is there
pub used-listed : (process : Process) (manager : Manager) → is_served manager process ≡ list_any (is_at manager) (used_servers process)
used-listed process manager = sym
    (at_one (λ some. list_any (is_at manager) (map (used_at process) some)) (λ one rest. is_at manager (used_at process one) || rest) (λ one rest. refl) manager
    (λ other rest differs. rw (at_other manager other (in_use (servers_at other process)) differs) refl)
    ∙ rw (at_own manager (in_use (servers_at manager process))) (or-false (is_served manager process)))

module _ (before after : Process) (count : length before.servers ≡ manager_count) (is_left : after.servers ≡ map left before.servers) where
  none-used : (manager : Manager) → in_use (servers_at manager after) ≡ None
  none-used manager =
      let here : manager_number manager < length before.servers = let within = number_below manager in omega (arith, within, count) in
      ap (λ all. in_use (line_at all (manager_number manager))) is_left
      ∙ ap in_use (line_at-get_or (map left before.servers) (manager_number manager) ∙ get_or-map left before.servers (manager_number manager) [] [] here)
      ∙ none-left (get_or before.servers (manager_number manager) [])

  pub loses-all : LosesAll before after
  loses-all = record {
    lost_are = flat_map-map option_to_list (used_at before) managers ∙ (λ i. flat_map (λ manager. each manager i) managers);
    unserved = λ manager. ap is_some (none-used manager);
  }
    where
      each : (manager : Manager) → option_to_list (used_at before manager) ≡ lost_by manager (in_use (servers_at manager before)) (in_use (servers_at manager after))
      each manager = listed manager (in_use (servers_at manager before)) ∙ ap (lost_by manager (in_use (servers_at manager before))) (sym (none-used manager))
