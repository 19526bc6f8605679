-- Numbers of connections, as connections come and go, and how many there can be.
use Rattle.std.proofs.Common.{◌≡◌, inl, inr, ℕ, suc, ◌+◌, ◌-◌, ◌<◌, ◌≤◌, Bool, true, false, List, [], ◌∷◌, refl, sym, ◌∙◌, arith}
use Rattle.std.specs.Prelude.{Option, Some, None, is_some, replicate, slice_set}
use Rattle.std.specs.List.{count_by}
use Rattle.qx_types.specs.declared.limits.TheConstants.Limits.{FIRST_CONNECTION}
use Rattle.qx_machine.specs.declared.rows.Connection.{Connection}
use Rattle.qx_machine.specs.Parts.{Part}
use Rattle.qx_machine.specs.Processes.{Process}
use Rattle.qx_isolation.specs.Rows.{row_at, with_row}
use Rattle.qx_isolation.proofs.Places.{row_at-set_cases}
use Rattle.qx_attr.specs.inner.Counts.{one}
use Rattle.qx_iofunc.proofs.StoreLemmas.{row_at-none}
use Rattle.qx_invariants.specs.Holds.{AreNumbered, HasConnections, HasFewConnections, has_open, is_block}
use Rattle.qx_invariants.proofs.Counts.{count-cons, count-le}
use Rattle.qx_invariants.proofs.Rows.{with_row-was}

-- ---- numbers

-- none is numbered below the first
abbrev pub AreFromFirst : List (Option Connection) → Type 0
AreFromFirst connections = (coid : ℕ) (connection : Connection) → row_at connections coid ≡ Some connection → FIRST_CONNECTION ≤ coid

pub none_numbered : AreFromFirst (replicate FIRST_CONNECTION None)
none_numbered coid connection there = let none : None ≡ Some connection = sym (row_at-none FIRST_CONNECTION coid) ∙ there in absurd (cc)

pub changed_numbered : (rows : List (Option Connection)) (coid : ℕ) (change : Connection → Connection) → AreFromFirst rows → AreFromFirst (with_row rows coid change)
changed_numbered rows coid change h m connection there = let was = with_row-was rows coid change m connection there in h m was.0 was.1

pub closed_numbered : (rows : List (Option Connection)) (coid : ℕ) → AreFromFirst rows → AreFromFirst (slice_set rows coid None)
closed_numbered rows coid h m connection there = elim (row_at-set_cases rows coid m None connection there) [ inl was ↦ h m connection was | inr put ↦ absurd (cc) ]

-- ---- how many

-- of rows from a number on no more are there than numbers from that on and from the first on, of which there are so many
numbered_few : (most : ℕ) (rows : List (Option Connection)) (first : ℕ) → ((m : ℕ) (connection : Connection) → row_at rows m ≡ Some connection → (FIRST_CONNECTION ≤ first + m) × (first + m < FIRST_CONNECTION + most))
    → count_by is_some rows ≤ most - (first - FIRST_CONNECTION)
numbered_few most [] first within = omega arith
numbered_few most (None ∷ rows) first within =
    let all = count-cons is_some None rows in
    let rest = numbered_few most rows (first + 1) (λ m connection there. let its = within (suc m) connection there in (omega (arith, its.0), omega (arith, its.1))) in
    omega (arith, all, rest)
numbered_few most (Some connection ∷ rows) first within =
    let all = count-cons is_some (Some connection) rows in
    let here = within 0 connection refl in
    let rest = numbered_few most rows (first + 1) (λ m other there. let its = within (suc m) other there in (omega (arith, its.0), omega (arith, its.1))) in
    omega (arith, all, here.0, here.1, rest)

open_is_there : (which : ℕ) (row : Option Connection) → one (has_open which row) ≤ one (is_some row)
open_is_there which None = omega arith
open_is_there which (Some connection) = most (is_block which connection.block)
  where
    most : (b : Bool) → one b ≤ 1
    most true = omega arith
    most false = omega arith

pub few_connections : (part : Part) → ((number : ℕ) (process : Process) → row_at part.processes number ≡ Some process → AreNumbered part.resources.limits.connections process.connections) → HasConnections part → HasFewConnections part
few_connections part numbered has = record {
  numbered = numbered;
  few = λ number process there.
      let all = numbered_few part.resources.limits.connections process.connections 0 (λ m connection at. let its = numbered number process there m connection at in (omega (arith, its.0), omega (arith, its.1))) in
      omega (arith, all);
  uses = λ which block there process at lives.
      let same = has.uses which block there process at lives in
      let fewer = count-le (has_open which) is_some (open_is_there which) process.connections in
      omega (arith, same, fewer);
}
