-- The server connections of a process follow what is attached to it, whatever becomes of it.
use Rattle.std.proofs.Common.{◌≡◌, inl, inr, ℕ, zero, suc, ◌+◌, ◌<◌, Bool, true, false, List, [], ◌∷◌, length, refl, sym, ap, ◌∙◌, arith}
use Rattle.std.specs.Prelude.{◌||◌, ◌==◌, Option, Some, None, if◌then◌else◌, is_none, is_some, option_map}
use Rattle.std.specs.List.{list_any}
use Rattle.std.proofs.Math.ListN.{length-set}
use Rattle.std.proofs.lemmas.Bool.{cond_both, eq-eqb}
use Rattle.std.proofs.lemmas.List.{length-replicate}
use Rattle.std.proofs.lemmas.List.Quantifiers.{position-Some}
use Rattle.std.proofs.lemmas.Option.{unwrap_or-slice_get}
use Rattle.qx_types.specs.Managers.{manager_count, manager_number}
use Rattle.qx_types.specs.declared.names.Manager.{Manager}
use Rattle.qx_types.proofs.Managers.{number_below}
use Rattle.qx_machine.specs.declared.rows.Connection.{Connection}
use Rattle.qx_machine.specs.declared.rows.Effect.{Effect}
use Rattle.qx_machine.specs.declared.rows.Effect.TheVariants.{Closes, Keeps, Opens}
use Rattle.qx_machine.specs.declared.rows.Over.{Over}
use Rattle.qx_machine.specs.declared.rows.Over.TheVariants.{Existing, New, Side}
use Rattle.qx_machine.specs.declared.rows.ServerConnection.{ServerConnection}
use Rattle.qx_isolation.specs.declared.rows.ServerName.{ServerName}
use Rattle.qx_machine.specs.declared.rows.ThreadRow.{ThreadRow}
use Rattle.qx_isolation.specs.Lines.{line_at}
use Rattle.qx_machine.specs.Processes.{Process, after_effect, after_error, after_reply, ended, new_process, servers_at, with_over, with_thread, without_server}
use Rattle.qx_isolation.specs.Rows.{lowest_from, put_row, row_at}
use Rattle.qx_machine.specs.Servers.{Servers, connects, in_use, is_attached, is_in_use, leaving, new_server, no_servers, servers_from, servers_while, sides_with}
use Rattle.qx_isolation.proofs.Places.{at-map, lowest_from_free}
use Rattle.qx_attr.proofs.TableLemmas.{row-put}
use Rattle.qx_process.proofs.AttachLemmas.{new-settled}
use Rattle.qx_process.proofs.ServerLemmas.{attached-with_block, from-freed, served_while, servers_from_again}

-- what is attached to a process
abbrev pub attached : Process → ℕ → Bool
attached process number = is_attached number process.connections process.sides

-- at each manager a server connection is in use exactly while something is attached there
pub record IsServed (process : Process) : Type 0 where
  pub count : length process.servers ≡ manager_count
  pub settled : process.servers ≡ servers_from (attached process) 0 process.servers

-- a process has a server connection of that number at a manager
abbrev pub serves : Process → Manager → ℕ → Bool
serves process manager number = is_some (row_at (servers_at manager process) number)

-- it still has those that it had
abbrev pub KeepsServers : Process → Process → Type 0
KeepsServers process now = (manager : Manager) (number : ℕ) → serves process manager number ≡ true → serves now manager number ≡ true

-- ---- one manager's

-- the one that is in use is there
pub in_use_there : (servers : Servers) (number : ℕ) → in_use servers ≡ Some number → (is_in_use (row_at servers number) ≡ true) × (is_some (row_at servers number) ≡ true)
in_use_there servers number is =
    let at : is_in_use (row_at servers number) ≡ true = ap is_in_use (unwrap_or-slice_get servers number None) ∙ (position-Some is_in_use servers number None is).1 in
    (at, by (row_at servers number) at)
  where
    by : (row : Option ServerConnection) → is_in_use row ≡ true → is_some row ≡ true
    by None used = used
    by (Some server) used = refl

pub some-leaving : (row : Option ServerConnection) → is_some (option_map leaving row) ≡ is_some row
some-leaving None = refl
some-leaving (Some server) = refl

while_keeps : (attaches : Bool) (servers : Servers) (number : ℕ) → is_some (row_at servers number) ≡ true → is_some (row_at (servers_while attaches servers) number) ≡ true
while_keeps false servers number there = ap is_some (at-map (option_map leaving) servers number None None refl) ∙ (some-leaving (row_at servers number) ∙ there)
while_keeps true servers number there = cond_both (is_some (in_use servers)) servers (put_row servers (lowest_from 1 servers) new_server) (λ now. is_some (row_at now number) ≡ true) (λ used. there)
    (λ unused. elim (row-put servers (lowest_from 1 servers) new_server (lowest_from_free 1 servers) number) [ inl same ↦ ap is_some same ∙ there | inr new ↦ ap is_some new.0 ])

from_keeps : (attaches : ℕ → Bool) (first : ℕ) (all : List Servers) (at number : ℕ) → is_some (row_at (line_at all at) number) ≡ true → is_some (row_at (line_at (servers_from attaches first all) at) number) ≡ true
from_keeps attaches first [] at number there = there
from_keeps attaches first (servers ∷ all) zero number there = while_keeps (attaches first) servers number there
from_keeps attaches first (servers ∷ all) (suc at) number there = from_keeps attaches (first + 1) all at number there

from_at : (attaches : ℕ → Bool) (first : ℕ) (all : List Servers) (at : ℕ) → at < length all → line_at (servers_from attaches first all) at ≡ servers_while (attaches (first + at)) (line_at all at)
from_at attaches first [] at within = absurd (omega (arith, within))
from_at attaches first (servers ∷ all) zero within = ap (λ n. servers_while (attaches n) servers) (omega arith)
from_at attaches first (servers ∷ all) (suc at) within = from_at attaches (first + 1) all at (omega (arith, within)) ∙ ap (λ n. servers_while (attaches n) (line_at all at)) (omega arith)

length-from : (attaches : ℕ → Bool) (first : ℕ) (all : List Servers) → length (servers_from attaches first all) ≡ length all
length-from attaches first [] = refl
length-from attaches first (servers ∷ all) = ap suc (length-from attaches (first + 1) all)

-- ---- a process changes

-- its server connections are settled by what is attached then
abbrev pub IsResettled : Process → Process → Type 0
IsResettled process now = now.servers ≡ servers_from (attached now) 0 process.servers

module _ (process now : Process) (again : IsResettled process now) where
  pub resettled_keeps : KeepsServers process now
  resettled_keeps manager number there = ap (λ (all : List Servers). is_some (row_at (line_at all (manager_number manager)) number)) again ∙ from_keeps (attached now) 0 process.servers (manager_number manager) number there

  module _ (h : IsServed process) where
    pub resettled_served : IsServed now
    resettled_served = record {
      count = ap (λ (all : List Servers). length all) again ∙ (length-from (attached now) 0 process.servers ∙ h.count);
      settled = again ∙ (sym (servers_from_again (attached now) 0 process.servers) ∙ ap (servers_from (attached now) 0) (sym again));
    }

    here : (manager : Manager) → manager_number manager < length process.servers
    here manager = let within = number_below manager in let long = h.count in omega (arith, within, long)

    pub resettled_at : (manager : Manager) → servers_at manager now ≡ servers_while (attached now (manager_number manager)) (servers_at manager process)
    resettled_at manager =
        ap (λ (all : List Servers). line_at all (manager_number manager)) again
        ∙ (from_at (attached now) 0 process.servers (manager_number manager) (here manager) ∙ ap (λ n. servers_while (attached now n) (servers_at manager process)) (omega arith))

    -- where something was attached and is, they are the same
    pub resettled_same : (manager : Manager) → attached now (manager_number manager) ≡ true → attached process (manager_number manager) ≡ true → servers_at manager now ≡ servers_at manager process
    resettled_same manager after before =
        let used : is_some (in_use (servers_at manager process)) ≡ true = served_while (attached process) (manager_number manager) process.servers (here manager) h.settled ∙ before in
        resettled_at manager ∙ (ap (λ b. servers_while b (servers_at manager process)) after ∙ ap (λ b. if b then servers_at manager process else put_row (servers_at manager process) (lowest_from 1 (servers_at manager process)) new_server) used)

-- what stands in connections, side connections and servers alone is seen
same_settled : (process now : Process) → IsServed process → now.servers ≡ process.servers → ((number : ℕ) → attached now number ≡ attached process number) → IsResettled process now
same_settled process now h servers same = servers ∙ (h.settled ∙ ap (λ (attaches : ℕ → Bool). servers_from attaches 0 process.servers) (λ i number. sym (same number) i))

module _ (process : Process) (h : IsServed process) where
  pub thread_resettled : (thread : ℕ) (change : ThreadRow → ThreadRow) → IsResettled process (with_thread thread change process)
  thread_resettled thread change = same_settled process (with_thread thread change process) h refl (λ number. refl)

  module _ (thread : ℕ) (change : ThreadRow → ThreadRow) where
    pub effect_resettled : (effect : Effect) → IsResettled process (after_effect effect (with_thread thread change process))
    effect_resettled Keeps = thread_resettled thread change
    effect_resettled (Opens coid block) = same_settled process (after_effect (Opens coid block) (with_thread thread change process)) h refl (λ number. attached-with_block number coid.0 block process.connections process.sides)
    effect_resettled (Closes coid) = refl

    pub reply_resettled : (over : Over) (effect : Effect) → IsResettled process (after_reply thread over effect (with_thread thread change process))
    reply_resettled (New coid) effect = effect_resettled effect
    reply_resettled (Existing coid) effect = effect_resettled effect
    reply_resettled Side effect = refl

    pub error_resettled : (over : Over) → IsResettled process (after_error thread over (with_thread thread change process))
    error_resettled (New coid) = refl
    error_resettled (Existing coid) = thread_resettled thread change
    error_resettled Side = refl

    pub over_resettled : (over : Over) (manager : Manager) → IsResettled process (with_over thread manager over (with_thread thread change process))
    over_resettled (New coid) manager = refl
    over_resettled (Existing coid) manager = thread_resettled thread change
    over_resettled Side manager = cond_both {A = Process} (is_none (row_at process.sides thread)) _ _ (IsResettled process) (λ none. refl) (λ some. thread_resettled thread change)

pub ended_resettled : (process : Process) → IsResettled process (ended process)
ended_resettled process = refl

-- ---- one that was left goes

pub freed_served : (process : Process) (server : ServerName) → IsServed process → IsServed (without_server server process)
freed_served process server h = record {
  count = length-set process.servers (manager_number server.manager) _ ∙ h.count;
  settled = from-freed (attached process) 0 (manager_number server.manager) server.number process.servers h.settled;
}

-- ---- a new process

pub new_served : (threads prio : ℕ) → IsServed (new_process threads prio)
new_served threads prio = record { count = length-replicate manager_count no_servers; settled = new-settled manager_count 0 }

-- ---- what is attached is served

pub or-true : (b : Bool) → (b || true) ≡ true
or-true true = refl
or-true false = refl

pub any_there : {A : Type 0} (p : Option A → Bool) (rows : List (Option A)) (n : ℕ) → p None ≡ false → p (row_at rows n) ≡ true → list_any p rows ≡ true
any_there p [] n none is = let clash : false ≡ true = sym none ∙ is in absurd (cc)
any_there p (row ∷ rows) zero none is = ap (λ b. b || list_any p rows) is
any_there p (row ∷ rows) (suc n) none is = ap (λ b. p row || b) (any_there p rows n none is) ∙ or-true (p row)

same_number : (n : ℕ) → (n == n) ≡ true
same_number n = eq-eqb n n refl

-- a connection is attached to its manager
pub connection_attached : (process : Process) (coid : ℕ) (connection : Connection) → row_at process.connections coid ≡ Some connection → attached process (manager_number connection.manager) ≡ true
connection_attached process coid connection there =
    ap (λ b. b || list_any (sides_with (manager_number connection.manager)) process.sides)
    (any_there (connects (manager_number connection.manager)) process.connections coid refl (ap (connects (manager_number connection.manager)) there ∙ same_number (manager_number connection.manager)))

-- and a server connection is in use there
pub connection_served : (process : Process) (coid : ℕ) (connection : Connection) → IsServed process → row_at process.connections coid ≡ Some connection → is_some (in_use (servers_at connection.manager process)) ≡ true
connection_served process coid connection h there =
    let within = number_below connection.manager in
    let long = h.count in
    served_while (attached process) (manager_number connection.manager) process.servers (omega (arith, within, long)) h.settled ∙ connection_attached process coid connection there
