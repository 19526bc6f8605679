-- What connections have open, how many have it, who waits over it, and which server connections disconnect pulses name, as processes and open control blocks change.
use Rattle.std.proofs.Common.{◌≡◌, ◌⊎◌, inl, inr, ℕ, zero, suc, ◌+◌, ◌≤◌, ◌==◌, Bool, true, false, List, [], ◌∷◌, refl, sym, ap, ◌∙◌, subst, arith}
use Rattle.std.specs.Prelude.{not, Option, Some, None, is_none, option_map}
use Rattle.std.specs.List.{count_by}
use Rattle.std.proofs.Math.ListN.{length-set}
use Rattle.std.proofs.lemmas.Bool.{cases_eq}
use Rattle.std.proofs.lemmas.List.Sums.{sum_by-cons}
use Rattle.std.proofs.lemmas.Option.{same_Some}
use Rattle.qx_types.specs.declared.names.Manager.{Manager}
use Rattle.qx_types.specs.declared.outcome.Answer.{Answer}
use Rattle.qx_machine.specs.declared.rows.Client.{Client}
use Rattle.qx_machine.specs.declared.rows.Connection.{Connection}
use Rattle.qx_machine.specs.declared.rows.Ocb.{Ocb}
use Rattle.qx_machine.specs.declared.rows.ThreadRow.{ThreadRow}
use Rattle.qx_machine.specs.declared.rows.WaitingCall.{WaitingCall}
use Rattle.qx_machine.specs.Inodes.{is_open}
use Rattle.qx_machine.specs.Parts.{Part}
use Rattle.qx_machine.specs.Performing.{with_answer, with_answers}
use Rattle.qx_machine.specs.Pipes.{Pipe}
use Rattle.qx_machine.specs.Processes.{Process, answered_thread, has_ended, servers_at, with_thread}
use Rattle.qx_machine.specs.Resources.{Resources}
use Rattle.qx_isolation.specs.Rows.{row_at, with_row}
use Rattle.qx_machine.specs.Servers.{Servers, in_use}
use Rattle.qx_machine.specs.Waiting.{Pipes}
use Rattle.qx_attr.specs.inner.Counts.{one}
use Rattle.qx_attr.proofs.CountLemmas.{count-free}
use Rattle.qx_invariants.specs.Holds.{HasConnections, HasOpenWaiters, HasOwnWaiters, IsOpenFor, has_open, is_block}
use Rattle.qx_invariants.specs.Waits.{count_waiting, count_waiting_in, is_astray, is_foreign, is_of_client}
use Rattle.qx_invariants.proofs.Astray.{none_waits}
use Rattle.qx_invariants.proofs.Counts.{count-cons, waiting-le}
use Rattle.qx_invariants.proofs.Holdings.{Holding, holding, holding_of}
use Rattle.qx_invariants.proofs.Lost.{is_left_at, left_of}
use Rattle.qx_invariants.proofs.Rows.{with_row-at, with_row-other}

-- so connections, open control blocks and disconnect pulses stand together
pub record Connected (part : Part) (named : Client → ℕ) : Type 0 where
  -- a disconnect pulse names a server connection that was left, and no two the same
  pub pulses : (client : Client) → named client ≤ one (is_left_at part.processes client)
  pub has : HasConnections part
  pub waiters : HasOwnWaiters part.resources

-- ---- processes that are alike

-- a process with the same connections and server connections, that has ended or not as before
pub record IsAlike (process now : Process) : Type 0 where
  pub connections : now.connections ≡ process.connections
  pub servers : now.servers ≡ process.servers
  pub ended : has_ended now ≡ has_ended process

abbrev pub AlikeRow : Option Process → Option Process → Type 0
AlikeRow None None = Unit {0}
AlikeRow (Some process) (Some now) = IsAlike process now
AlikeRow _ _ = ⊥

abbrev pub AreAlike : List (Option Process) → List (Option Process) → Type 0
AreAlike processes now = (number : ℕ) → AlikeRow (row_at processes number) (row_at now number)

pub same_alike : (processes : List (Option Process)) → AreAlike processes processes
same_alike processes number = by (row_at processes number)
  where
    by : (row : Option Process) → AlikeRow row row
    by None = tt
    by (Some process) = record { connections = refl; servers = refl; ended = refl }

pub alike_then : (processes mid now : List (Option Process)) → AreAlike processes mid → AreAlike mid now → AreAlike processes now
alike_then processes mid now first second number = by (row_at processes number) (row_at mid number) (row_at now number) (first number) (second number)
  where
    by : (a b c : Option Process) → AlikeRow a b → AlikeRow b c → AlikeRow a c
    by None None None one two = tt
    by (Some a) (Some b) (Some c) one two = record { connections = two.connections ∙ one.connections; servers = two.servers ∙ one.servers; ended = two.ended ∙ one.ended }
    by None None (Some c) one two = two
    by None (Some b) c one two = absurd one
    by (Some a) None c one two = absurd one
    by (Some a) (Some b) None one two = two

-- one changes that is like it was
pub alike_with : (processes : List (Option Process)) (number : ℕ) (f : Process → Process) → ((process : Process) → row_at processes number ≡ Some process → IsAlike process (f process)) → AreAlike processes (with_row processes number f)
alike_with processes number f alike n = elim (cases_eq n number) [
  | inl same ↦ subst (λ m. AlikeRow (row_at processes m) (row_at (with_row processes number f) m)) (sym same) (subst (AlikeRow (row_at processes number)) (sym (with_row-at processes number f)) (by (row_at processes number) refl))
  | inr apart ↦ subst (AlikeRow (row_at processes n)) (sym (with_row-other processes number f n apart)) (same_alike processes n)
]
  where
    by : (row : Option Process) → row_at processes number ≡ row → AlikeRow row (option_map f row)
    by None is = tt
    by (Some process) is = alike process is

pub thread_alike : (process : Process) (thread : ℕ) (change : ThreadRow → ThreadRow) → IsAlike process (with_thread thread change process)
thread_alike process thread change = record { connections = refl; servers = refl; ended = ap (λ n. n == 0) (length-set process.threads thread (option_map change (row_at process.threads thread))) }

pub answers_alike : (answers : List (WaitingCall × Answer)) (part : Part) → AreAlike part.processes (with_answers answers part).processes
answers_alike [] part = same_alike part.processes
answers_alike ((call, given) ∷ answers) part =
    alike_then part.processes (with_answer (call, given) part).processes (with_answers answers (with_answer (call, given) part)).processes
    (alike_with part.processes call.process (with_thread call.thread (answered_thread given)) (λ process there. thread_alike process call.thread (answered_thread given))) (answers_alike answers (with_answer (call, given) part))

-- which was there too
alike_was : (processes now : List (Option Process)) → AreAlike processes now → (number : ℕ) (after : Process) → row_at now number ≡ Some after → (process : Process) × (row_at processes number ≡ Some process) × IsAlike process after
alike_was processes now alike number after there = by (row_at processes number) refl (subst (AlikeRow (row_at processes number)) there (alike number))
  where
    by : (row : Option Process) → row_at processes number ≡ row → AlikeRow row (Some after) → (process : Process) × (row_at processes number ≡ Some process) × IsAlike process after
    by None is alike_is = absurd alike_is
    by (Some process) is alike_is = (process, is, alike_is)

alike_left : (processes now : List (Option Process)) → AreAlike processes now → (client : Client) → is_left_at now client ≡ is_left_at processes client
alike_left processes now alike client = by (row_at processes client.process) (row_at now client.process) (alike client.process)
  where
    by : (a b : Option Process) → AlikeRow a b → left_of client.server b ≡ left_of client.server a
    by None None is = refl
    by (Some a) (Some b) is = ap (λ (all : List Servers). left_of client.server (Some (record a { servers = all }))) is.servers
    by None (Some b) is = absurd is
    by (Some a) None is = absurd is

open_alike : (blocks : List (Option Ocb)) (number : ℕ) (process now : Process) → now.servers ≡ process.servers → (manager : Manager) (which : ℕ) → IsOpenFor blocks number process manager which → IsOpenFor blocks number now manager which
open_alike blocks number process now same manager which is = record {
  block = is.block;
  there = is.there;
  process_is = is.process_is;
  manager_is = is.manager_is;
  used = ap (λ (all : List Servers). in_use (servers_at manager (record process { servers = all }))) same ∙ is.used;
}

pub alike_connected : (part : Part) (named : Client → ℕ) (now : List (Option Process)) → AreAlike part.processes now → Connected part named → Connected (record part { processes = now }) named
alike_connected part named now alike h = record {
  pulses = λ client. let few = h.pulses client in let same = ap one (alike_left part.processes now alike client) in omega (arith, few, same);
  has = record {
    opened = λ number after there coid connection which at has.
        let was = alike_was part.processes now alike number after there in
        open_alike part.resources.inodes.blocks number was.0 after was.2.servers connection.manager which (h.has.opened number was.0 was.1 coid connection which (ap (λ rows. row_at rows coid) (sym was.2.connections) ∙ at) has);
    uses = λ which block there after is lives.
        let was = alike_was part.processes now alike block.client.process after is in
        h.has.uses which block there was.0 was.1 (sym was.2.ended ∙ lives) ∙ ap (count_by (has_open which)) (sym was.2.connections);
  };
  waiters = h.waiters;
}

-- ---- fewer pulses

pub fewer_connected : (part : Part) (named less : Client → ℕ) → ((client : Client) → less client ≤ named client) → Connected part named → Connected part less
fewer_connected part named less few h = record { pulses = λ client. let was = h.pulses client in let now = few client in omega (arith, was, now); has = h.has; waiters = h.waiters }

-- ---- holdings

-- what has that holding is there
pub held_there : (row : Option Ocb) (hold : Holding) → holding row ≡ Some hold → (block : Ocb) × (row ≡ Some block) × (holding_of block ≡ hold)
held_there None hold is = absurd (cc)
held_there (Some block) hold is = (block, refl, same_Some _ _ is)

pub none_held : (row : Option Ocb) → holding row ≡ None → row ≡ None
none_held None is = refl
none_held (Some block) is = absurd (cc)

-- it is open for the same then
pub open_held : (blocks now : List (Option Ocb)) (number : ℕ) (process : Process) (manager : Manager) (which : ℕ) (is : IsOpenFor blocks number process manager which) → (hold : Holding) → holding (row_at now which) ≡ Some hold → hold.client ≡ is.block.client → IsOpenFor now number process manager which
open_held blocks now number process manager which is hold at same =
    let block = held_there (row_at now which) hold at in
    let client : block.0.client ≡ is.block.client = ap (λ (h : Holding). h.client) block.2 ∙ same in
    record {
      block = block.0;
      there = block.1;
      process_is = ap (λ (c : Client). c.process) client ∙ is.process_is;
      manager_is = ap (λ (c : Client). c.server.manager) client ∙ is.manager_is;
      used = is.used ∙ ap (λ (c : Client). Some c.server.number) (sym client);
    }

-- ---- how many connections have a block

module _ (which : ℕ) where
  -- one that has it counts
  pub has_counts : (rows : List (Option Connection)) (coid : ℕ) (connection : Connection) → row_at rows coid ≡ Some connection → has_open which (Some connection) ≡ true → 1 ≤ count_by (has_open which) rows
  has_counts rows coid connection there has =
      let freed = count-free (has_open which) refl rows coid connection there in
      let its : one (has_open which (Some connection)) ≡ 1 = ap one has in
      omega (arith, freed, its)

  -- where none has it none is counted
  pub none_counts : (rows : List (Option Connection)) → ((coid : ℕ) (connection : Connection) → row_at rows coid ≡ Some connection → has_open which (Some connection) ≡ false) → count_by (has_open which) rows ≡ 0
  none_counts [] none = refl
  none_counts (None ∷ rows) none = let all = count-cons (has_open which) None rows in let rest = none_counts rows (λ coid. none (suc coid)) in omega (arith, all, rest)
  none_counts (Some connection ∷ rows) none =
      let all = count-cons (has_open which) (Some connection) rows in
      let first : one (has_open which (Some connection)) ≡ 0 = ap one (none 0 connection refl) in
      let rest = none_counts rows (λ coid. none (suc coid)) in
      omega (arith, all, first, rest)

  -- a connection gets an open control block
  pub opened_counts : (rows : List (Option Connection)) (coid : ℕ) (connection : Connection) (block : ℕ) → row_at rows coid ≡ Some connection → connection.block ≡ None
      → count_by (has_open which) (with_row rows coid (λ c. record c { block = Some block })) ≡ count_by (has_open which) rows + one (block == which)
  opened_counts [] coid connection block there none = absurd (cc)
  opened_counts (row ∷ rows) zero connection block there none =
      let now = count-cons (has_open which) (option_map {T = Connection} (λ c. record c { block = Some block }) row) rows in
      let was = count-cons (has_open which) row rows in
      let its : one (has_open which (option_map {T = Connection} (λ c. record c { block = Some block }) row)) ≡ one (block == which) = ap (λ place. one (has_open which (option_map {T = Connection} (λ c. record c { block = Some block }) place))) there in
      let before : one (has_open which row) ≡ 0 = ap (λ place. one (has_open which place)) there ∙ ap (λ b. one (is_block which b)) none in
      omega (arith, now, was, its, before)
  opened_counts (row ∷ rows) (suc coid) connection block there none =
      let now = count-cons (has_open which) row (with_row rows coid (λ c. record c { block = Some block })) in
      let was = count-cons (has_open which) row rows in
      let rest = opened_counts rows coid connection block there none in
      omega (arith, now, was, rest)

-- ---- calls that wait

waiting-le2 : (first second third : WaitingCall → Bool) → ((call : WaitingCall) → one (first call) ≤ one (second call) + one (third call)) → (pipes : Pipes) → count_waiting first pipes ≤ count_waiting second pipes + count_waiting third pipes
waiting-le2 first second third less [] = omega arith
waiting-le2 first second third less (row ∷ pipes) =
    let one_is = sum_by-cons (count_waiting_in first) row pipes in
    let two_is = sum_by-cons (count_waiting_in second) row pipes in
    let three_is = sum_by-cons (count_waiting_in third) row pipes in
    let here = place row in
    let rest = waiting-le2 first second third less pipes in
    omega (arith, one_is, two_is, three_is, here, rest)
  where
    each : (calls : List WaitingCall) → count_by first calls ≤ count_by second calls + count_by third calls
    each [] = omega arith
    each (call ∷ calls) =
        let a = count-cons first call calls in
        let b = count-cons second call calls in
        let c = count-cons third call calls in
        let its = less call in
        let rest = each calls in
        omega (arith, a, b, c, its, rest)

    place : (row : Option (Pipe WaitingCall)) → count_waiting_in first row ≤ count_waiting_in second row + count_waiting_in third row
    place None = omega arith
    place (Some pipe) = let readers = each pipe.readers in let writers = each pipe.writers in omega (arith, readers, writers)

waiting-none : (which : WaitingCall → Bool) (pipes : Pipes) → ((inode : ℕ) → count_waiting_in which (row_at pipes inode) ≡ 0) → count_waiting which pipes ≡ 0
waiting-none which [] none = refl
waiting-none which (row ∷ pipes) none = let all = sum_by-cons (count_waiting_in which) row pipes in let first = none 0 in let rest = waiting-none which pipes (λ inode. none (suc inode)) in omega (arith, all, first, rest)

-- a call over a block of another process's client
abbrev pub misled : ℕ → Option Ocb → Bool
misled process None = false
misled process (Some block) = not (block.client.process == process)

abbrev pub is_misled : List (Option Ocb) → WaitingCall → Bool
is_misled blocks call = misled call.process (row_at blocks call.block)

abbrev is_closed : List (Option Ocb) → WaitingCall → Bool
is_closed blocks call = is_none (row_at blocks call.block)

-- nobody waits over what is not open
none_closed : (r : Resources) → HasOpenWaiters r → count_waiting (is_closed r.inodes.blocks) r.pipes ≡ 0
none_closed r h = waiting-none (is_closed r.inodes.blocks) r.pipes (λ inode.
    none_waits (is_closed r.inodes.blocks) (is_astray r.inodes.blocks inode) (is_astray r.inodes.blocks inode) (λ call is. inl (by inode (row_at r.inodes.blocks call.block) is)) (row_at r.pipes inode) (h.none_astray inode) (h.none_astray inode))
  where
    by : (inode : ℕ) (row : Option Ocb) → is_none row ≡ true → not (is_open (λ flags. true) inode row) ≡ true
    by inode None is = refl
    by inode (Some block) is = absurd (cc)

-- no more wait than waited and came, and what is open is its client's still or was not open before
pub waiters_after : (first r : Resources) (came : List WaitingCall) → HasOwnWaiters first → HasOpenWaiters r → ((which : WaitingCall → Bool) → count_waiting which r.pipes ≤ count_waiting which first.pipes + count_by which came)
    → ((which : ℕ) (block : Ocb) → row_at r.inodes.blocks which ≡ Some block → ((was : Ocb) × (row_at first.inodes.blocks which ≡ Some was) × (was.client ≡ block.client)) ⊎ (row_at first.inodes.blocks which ≡ None)) → count_by (is_misled r.inodes.blocks) came ≡ 0 → HasOwnWaiters r
waiters_after first r came h open_is few rows here = record {
  none_foreign =
      let both = waiting-le2 (is_foreign r.inodes.blocks) (is_closed r.inodes.blocks) (is_misled r.inodes.blocks) (λ call. foreign_is call.process (row_at r.inodes.blocks call.block)) r.pipes in
      let closed = none_closed r open_is in
      let some = few (is_misled r.inodes.blocks) in
      let less = waiting-le (is_misled r.inodes.blocks) (is_foreign first.inodes.blocks) (λ call. misled_was call.process call.block) first.pipes in
      let none = h.none_foreign in
      omega (arith, both, closed, some, less, none, here);
}
  where
    foreign_is : (process : ℕ) (row : Option Ocb) → one (not (is_of_client process row)) ≤ one (is_none row) + one (misled process row)
    foreign_is process None = omega arith
    foreign_is process (Some block) = omega arith

    misled_was : (process which : ℕ) → one (misled process (row_at r.inodes.blocks which)) ≤ one (not (is_of_client process (row_at first.inodes.blocks which)))
    misled_was process which = by (row_at r.inodes.blocks which) refl
      where
        most : (b : Bool) → one b ≤ 1
        most true = omega arith
        most false = omega arith

        by : (row : Option Ocb) → row_at r.inodes.blocks which ≡ row → one (misled process row) ≤ one (not (is_of_client process (row_at first.inodes.blocks which)))
        by None is = omega arith
        by (Some block) is = elim (rows which block is) [
          | inl was ↦
              let same : one (not (is_of_client process (row_at first.inodes.blocks which))) ≡ one (misled process (Some block)) = ap (λ row. one (not (is_of_client process row))) was.1 ∙ ap (λ (c : Client). one (not (c.process == process))) was.2 in
              omega (arith, same)
          | inr none ↦
              let all : one (not (is_of_client process (row_at first.inodes.blocks which))) ≡ 1 = ap (λ row. one (not (is_of_client process row))) none in
              let few = most (misled process (Some block)) in
              omega (arith, all, few)
        ]
