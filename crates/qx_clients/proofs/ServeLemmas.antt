-- Where a process can be served at a manager.
use Rattle.std.proofs.Common.{◌≡◌, ℕ, zero, suc, ◌+◌, ◌<◌, ◌≤◌, List, [], ◌∷◌, length, get_or, sym, ap, ◌∙◌, arith, true, cond, Option, Some, None}
use Rattle.std.specs.Prelude.{is_some, nat_lt}
use Rattle.std.specs.List.{count_by, sum_by}
use Rattle.std.proofs.lemmas.Bool.Decides.{nat_tests}
use Rattle.std.proofs.lemmas.List.Sums.{get_or-le-sum_by, sum_by-cons}
use Rattle.qx_types.specs.declared.limits.TheConstants.Limits.{SERVERS}
use Rattle.qx_types.specs.declared.names.Manager.{Manager}
use Rattle.qx_machine.specs.Calls.{can_serve, server_count}
use Rattle.qx_machine.specs.Processes.{Process, servers_at}
use Rattle.qx_isolation.specs.Rows.{row_at, lowest_from, taken_places}
use Rattle.qx_rows.proofs.RowLemmas.{row_at-get_or}
use Rattle.qx_process.specs.Reads.{HasPlace}

-- a row that is there is within the table
within_rows : {A : Type 0} (rows : List (Option A)) (number : ℕ) (row : A) → row_at rows number ≡ Some row → number < length rows
within_rows [] number row is = absurd (cc)
within_rows (place ∷ rows) zero row is = omega arith
within_rows (place ∷ rows) (suc number) row is = let h = within_rows rows number row is in omega (arith, h)

-- no more places are taken before the first free one than in all
taken_few : {A : Type 0} (places : List (Option A)) → taken_places places ≤ count_by is_some places
taken_few [] = omega arith
taken_few (None ∷ places) = omega arith
taken_few (Some row ∷ places) = omega (arith, taken_few places, sum_by-cons (λ place. cond (is_some place) 1 0) (Some row) places)

lowest_few : {A : Type 0} (places : List (Option A)) → lowest_from 1 places ≤ count_by is_some places + 1
lowest_few [] = omega arith
lowest_few (place ∷ places) = omega (arith, taken_few places, sum_by-cons (λ place. cond (is_some place) 1 0) place places)

-- no process has more server connections at a manager than the user has there
count_few : (processes : List (Option Process)) (number : ℕ) (process : Process) (manager : Manager) → row_at processes number ≡ Some process → count_by is_some (servers_at manager process) ≤ sum_by (server_count manager) processes
count_few processes number process manager is =
    let le = get_or-le-sum_by (server_count manager) processes number None (within_rows processes number process is) in
    let of : server_count manager (get_or processes number None) ≡ count_by is_some (servers_at manager process) = ap (server_count manager) (sym (row_at-get_or processes number) ∙ is) in
    omega (arith, le, of)

-- where a process can be served at a manager, something more of it can be attached there
pub can_attach : (most : ℕ) (processes : List (Option Process)) (number : ℕ) (process : Process) (manager : Manager) → most ≤ SERVERS → row_at processes number ≡ Some process → can_serve most processes process manager ≡ true → HasPlace (servers_at manager process)
can_attach most processes number process manager within is served none =
    let few : nat_lt (sum_by (server_count manager) processes) most ≡ true = rw none at served in
    let fewer : sum_by (server_count manager) processes < most = grind (arith, nat_tests) in
    omega (arith, fewer, within, lowest_few (servers_at manager process), count_few processes number process manager is)
