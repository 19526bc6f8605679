-- One process changes, and what is open: connections, open control blocks and disconnect pulses stand together still.
use Rattle.std.proofs.Common.{◌≡◌, ◌≢◌, ◌⊎◌, inl, inr, ℕ, ◌+◌, ◌≤◌, ◌==◌, false, List, [], map, refl, sym, ap, ◌∙◌, subst, arith}
use Rattle.std.specs.Prelude.{Option, Some, None, if◌then◌else◌, option_map, slice_set, take}
use Rattle.std.specs.List.{count_by}
use Rattle.std.proofs.lemmas.Bool.{cases_eq, eq-eqb, ne_eqb}
use Rattle.std.proofs.lemmas.Option.{same_Some}
use Rattle.qx_machine.specs.declared.rows.Client.{Client}
use Rattle.qx_machine.specs.declared.rows.Connection.{Connection}
use Rattle.qx_machine.specs.declared.rows.Ocb.{Ocb}
use Rattle.qx_machine.specs.Parts.{Change, Part, disconnect}
use Rattle.qx_machine.specs.Processes.{Process, has_ended, lost_servers}
use Rattle.qx_machine.specs.Resources.{Resources}
use Rattle.qx_isolation.specs.Rows.{row_at, with_row}
use Rattle.qx_machine.specs.Servers.{in_use}
use Rattle.qx_isolation.proofs.Places.{row_at-set_cases}
use Rattle.qx_attr.specs.inner.Counts.{one}
use Rattle.qx_attr.proofs.CountLemmas.{count-free}
use Rattle.qx_invariants.specs.Holds.{HasOwnWaiters, IsOpenFor, has_open, is_block}
use Rattle.qx_invariants.proofs.Connected.{Connected, held_there, open_held, opened_counts}
use Rattle.qx_invariants.proofs.Holdings.{Holding, holding, holding_of}
use Rattle.qx_invariants.proofs.Items.{puts}
use Rattle.qx_invariants.proofs.Lost.{is_left_at, left_of, lost_left, lost_left_once, none_lost, puts_others}
use Rattle.qx_invariants.proofs.Rows.{with_row-at, with_row-other, with_row-was}
use Rattle.qx_invariants.proofs.Served.{IsResettled, IsServed, connection_attached, resettled_same}

-- ---- disconnect pulses

-- the pulses that are put name server connections that the process loses by that, and no others
pub record Loses (number : ℕ) (process now : Process) (lost : List Change) : Type 0 where
  pub own : (client : Client) → puts client lost + one (left_of client.server (Some process)) ≤ one (left_of client.server (Some now))
  pub others : (client : Client) → number ≢ client.process → puts client lost ≡ 0

module _ (number : ℕ) (process now : Process) (again : IsResettled process now) (served : IsServed process) where
  pub loses_none : Loses number process now []
  loses_none = record { own = λ client. let more = none_lost number client process now again served in omega (arith, more); others = λ client apart. refl }

  pub loses_all : (prio : ℕ) → Loses number process now (map (disconnect prio number) (lost_servers process now))
  loses_all prio = record { own = λ client. lost_left number client process now again served prio; others = λ client. puts_others number client prio (lost_servers process now) }

  pub loses_once : (prio : ℕ) → Loses number process now (map (disconnect prio number) (take 1 (lost_servers process now)))
  loses_once prio = record { own = λ client. lost_left_once number client process now again served prio; others = λ client. puts_others number client prio (take 1 (lost_servers process now)) }

-- ---- a process changes

-- a process is like this then, and the resources are these: its own connections have what is open for it, and what others have stays
pub record Moved (first : Resources) (number : ℕ) (now : Process) (r : Resources) : Type 0 where
  pub opened : (coid : ℕ) (connection : Connection) (which : ℕ) → row_at now.connections coid ≡ Some connection → connection.block ≡ Some which → IsOpenFor r.inodes.blocks number now connection.manager which
  pub uses : (which : ℕ) (block : Ocb) → row_at r.inodes.blocks which ≡ Some block → block.client.process ≡ number → has_ended now ≡ false → block.uses ≡ count_by (has_open which) now.connections
  pub stay : (which : ℕ) (block : Ocb) → row_at first.inodes.blocks which ≡ Some block → block.client.process ≢ number → holding (row_at r.inodes.blocks which) ≡ Some (holding_of block)
  pub were : (which : ℕ) (block : Ocb) → row_at r.inodes.blocks which ≡ Some block → block.client.process ≢ number → holding (row_at first.inodes.blocks which) ≡ Some (holding_of block)
  pub waiters : HasOwnWaiters r

pub moved_connected : (part : Part) (named : Client → ℕ) → Connected part named → (number : ℕ) (process : Process) → row_at part.processes number ≡ Some process → (f : Process → Process) (r : Resources) (lost : List Change) → Loses number process (f process) lost → Moved part.resources number (f process) r
    → Connected (record { processes = with_row part.processes number f; resources = r }) (λ client. named client + puts client lost)
moved_connected part named h number process there f r lost loses moved = record {
  pulses = λ client. elim (cases_eq client.process number) [
    | inl same ↦
        let was = h.pulses client in
        let before : one (is_left_at part.processes client) ≡ one (left_of client.server (Some process)) = ap (λ row. one (left_of client.server row)) (ap (row_at part.processes) same ∙ there) in
        let after : one (is_left_at (with_row part.processes number f) client) ≡ one (left_of client.server (Some (f process))) = ap (λ row. one (left_of client.server row)) (ap (row_at (with_row part.processes number f)) same ∙ now_there) in
        let few = loses.own client in
        omega (arith, was, before, after, few)
    | inr apart ↦
        let was = h.pulses client in
        let none = loses.others client (λ e. apart (sym e)) in
        let same : one (is_left_at (with_row part.processes number f) client) ≡ one (is_left_at part.processes client) = ap (λ row. one (left_of client.server row)) (with_row-other part.processes number f client.process apart) in
        omega (arith, was, none, same)
  ];
  has = record {
    opened = λ n after is coid connection which at has. let was = with_row-was part.processes number f n after is in elim was.2 [
      | inl stays ↦ subst (λ (p : Process). IsOpenFor r.inodes.blocks n p connection.manager which) stays.1 (others n was.0 was.1 stays.0 coid connection which (ap (λ (p : Process). row_at p.connections coid) stays.1 ∙ at) has)
      | inr its ↦
          let now : f process ≡ after = ap f (same_Some _ _ (sym there ∙ (ap (row_at part.processes) (sym its.0) ∙ was.1))) ∙ its.1 in
          subst (λ m. IsOpenFor r.inodes.blocks m after connection.manager which) (sym its.0)
          (subst (λ (p : Process). IsOpenFor r.inodes.blocks number p connection.manager which) now (moved.opened coid connection which (ap (λ (p : Process). row_at p.connections coid) now ∙ at) has))
    ];
    uses = λ which block is after its lives. elim (cases_eq block.client.process number) [
      | inl same ↦
          let now : f process ≡ after = same_Some _ _ (sym now_there ∙ (ap (row_at (with_row part.processes number f)) (sym same) ∙ its)) in
          subst (λ (p : Process). block.uses ≡ count_by (has_open which) p.connections) now (moved.uses which block is same (ap has_ended now ∙ lives))
      | inr apart ↦
          let was = held_there (row_at part.resources.inodes.blocks which) (holding_of block) (moved.were which block is apart) in
          let there_is : row_at part.processes was.0.client.process ≡ Some after = ap (λ (hold : Holding). row_at part.processes hold.client.process) was.2 ∙ (sym (with_row-other part.processes number f block.client.process apart) ∙ its) in
          ap (λ (hold : Holding). hold.uses) (sym was.2) ∙ h.has.uses which was.0 was.1 after there_is lives
    ];
  };
  waiters = moved.waiters;
}
  where
    now_there : row_at (with_row part.processes number f) number ≡ Some (f process)
    now_there = with_row-at part.processes number f ∙ ap (option_map f) there

    others : (n : ℕ) (p : Process) → row_at part.processes n ≡ Some p → n ≢ number → (coid : ℕ) (connection : Connection) (which : ℕ) → row_at p.connections coid ≡ Some connection → connection.block ≡ Some which → IsOpenFor r.inodes.blocks n p connection.manager which
    others n p is apart coid connection which at has =
        let open_is = h.has.opened n p is coid connection which at has in
        open_held part.resources.inodes.blocks r.inodes.blocks n p connection.manager which open_is (holding_of open_is.block) (moved.stay which open_is.block open_is.there (λ e. apart (sym open_is.process_is ∙ e))) refl

-- ---- where it is as before, and where one is another

-- what is chosen by a number
pub chosen_here : {A : Type 0} (n : ℕ) (one_is other : A) → (if n == n then one_is else other) ≡ one_is
chosen_here n one_is other = ap (λ b. if b then one_is else other) (eq-eqb n n refl)

pub chosen_other : {A : Type 0} (n m : ℕ) (one_is other : A) → m ≢ n → (if n == m then one_is else other) ≡ other
chosen_other n m one_is other apart = ap (λ b. if b then one_is else other) (ne_eqb n m (λ e. apart (sym e)))

-- what is open for a process has as many uses as its connections have it
pub uses_counted : (part : Part) (named : Client → ℕ) → Connected part named → (number : ℕ) (process : Process) → row_at part.processes number ≡ Some process → has_ended process ≡ false
    → (which : ℕ) (hold : Holding) → holding (row_at part.resources.inodes.blocks which) ≡ Some hold → hold.client.process ≡ number → hold.uses ≡ count_by (has_open which) process.connections
uses_counted part named h number process there lives which hold at its =
    let block = held_there (row_at part.resources.inodes.blocks which) hold at in
    let there_is : row_at part.processes block.0.client.process ≡ Some process = ap (row_at part.processes) (ap (λ (other : Holding). other.client.process) block.2 ∙ its) ∙ there in
    ap (λ (other : Holding). other.uses) (sym block.2) ∙ h.has.uses which block.0 block.1 process there_is lives

module _ (part : Part) (named : Client → ℕ) (h : Connected part named) (number : ℕ) (process : Process) (there : row_at part.processes number ≡ Some process) (lives : has_ended process ≡ false) (served : IsServed process)
    (now : Process) (again : IsResettled process now) (r : Resources) (waiters : HasOwnWaiters r) where
  abbrev blocks : List (Option Ocb)
  blocks = part.resources.inodes.blocks

  -- a connection that stays has what it had
  open_still : (coid : ℕ) (connection : Connection) (which : ℕ) → row_at process.connections coid ≡ Some connection → row_at now.connections coid ≡ Some connection → (is : IsOpenFor blocks number process connection.manager which) (hold : Holding) → holding (row_at r.inodes.blocks which) ≡ Some hold → hold.client ≡ is.block.client → IsOpenFor r.inodes.blocks number now connection.manager which
  open_still coid connection which was at is hold is_held same =
      let held = open_held blocks r.inodes.blocks number process connection.manager which is hold is_held same in
      record {
        block = held.block;
        there = held.there;
        process_is = held.process_is;
        manager_is = held.manager_is;
        used = ap in_use (resettled_same process now again served connection.manager (connection_attached now coid connection at) (connection_attached process coid connection was)) ∙ held.used;
      }

  -- no block is another, nor is any connection that has one
  pub kept_moved : ((which : ℕ) → holding (row_at r.inodes.blocks which) ≡ holding (row_at blocks which)) → ((coid : ℕ) (connection : Connection) (which : ℕ) → row_at now.connections coid ≡ Some connection → connection.block ≡ Some which → row_at process.connections coid ≡ Some connection)
      → ((which : ℕ) → count_by (has_open which) now.connections ≡ count_by (has_open which) process.connections) → Moved part.resources number now r
  kept_moved rows kept counts = record {
    opened = λ coid connection which at has.
        let was = kept coid connection which at has in
        let is = h.has.opened number process there coid connection which was has in
        open_still coid connection which was at is (holding_of is.block) (rows which ∙ ap holding is.there) refl;
    uses = λ which block at its ends. uses_counted part named h number process there lives which (holding_of block) (sym (rows which) ∙ ap holding at) its ∙ sym (counts which);
    stay = λ which block at apart. rows which ∙ ap holding at;
    were = λ which block at apart. sym (rows which) ∙ ap holding at;
    waiters = waiters;
  }

  -- the same where its connections are the same
  pub same_moved : ((which : ℕ) → holding (row_at r.inodes.blocks which) ≡ holding (row_at blocks which)) → now.connections ≡ process.connections → Moved part.resources number now r
  same_moved rows same = kept_moved rows (λ coid connection which at has. ap (λ all. row_at all coid) (sym same) ∙ at) (λ which. ap (count_by (has_open which)) same)

  -- one block is another, which is its own
  module _ (n : ℕ) (others : (m : ℕ) → m ≢ n → holding (row_at r.inodes.blocks m) ≡ holding (row_at blocks m)) (was_own : (block : Ocb) → row_at blocks n ≡ Some block → block.client.process ≡ number) (is_own : (block : Ocb) → row_at r.inodes.blocks n ≡ Some block → block.client.process ≡ number) where
    one_moved : ((coid : ℕ) (connection : Connection) (which : ℕ) → row_at now.connections coid ≡ Some connection → connection.block ≡ Some which → IsOpenFor r.inodes.blocks number now connection.manager which)
        → ((block : Ocb) → row_at r.inodes.blocks n ≡ Some block → block.uses ≡ count_by (has_open n) now.connections) → ((which : ℕ) → which ≢ n → count_by (has_open which) now.connections ≡ count_by (has_open which) process.connections) → Moved part.resources number now r
    one_moved opened own_uses other_counts = record {
      opened = opened;
      uses = λ which block at its ends. elim (cases_eq which n) [
        | inl same ↦ subst (λ m. block.uses ≡ count_by (has_open m) now.connections) (sym same) (own_uses block (ap (row_at r.inodes.blocks) (sym same) ∙ at))
        | inr apart ↦ uses_counted part named h number process there lives which (holding_of block) (sym (others which apart) ∙ ap holding at) its ∙ sym (other_counts which apart)
      ];
      stay = λ which block at apart. others which (λ same. apart (was_own block (ap (row_at blocks) (sym same) ∙ at))) ∙ ap holding at;
      were = λ which block at apart. sym (others which (λ same. apart (is_own block (ap (row_at r.inodes.blocks) (sym same) ∙ at)))) ∙ ap holding at;
      waiters = waiters;
    }

    -- a connection of it that stays has it still
    abbrev pub StaysOpen : Type 0
    StaysOpen = (coid : ℕ) (connection : Connection) → row_at process.connections coid ≡ Some connection → row_at now.connections coid ≡ Some connection → connection.block ≡ Some n → (is : IsOpenFor blocks number process connection.manager n) → (hold : Holding) × (holding (row_at r.inodes.blocks n) ≡ Some hold) × (hold.client ≡ is.block.client)

    stays_open : StaysOpen → (coid : ℕ) (connection : Connection) (which : ℕ) → row_at process.connections coid ≡ Some connection → row_at now.connections coid ≡ Some connection → connection.block ≡ Some which → IsOpenFor r.inodes.blocks number now connection.manager which
    stays_open own coid connection which was at has = elim (cases_eq which n) [
      | inl same ↦
          let has_n : connection.block ≡ Some n = has ∙ ap Some same in
          let is = h.has.opened number process there coid connection n was has_n in
          let kept = own coid connection was at has_n is in
          subst (IsOpenFor r.inodes.blocks number now connection.manager) (sym same) (open_still coid connection n was at is kept.0 kept.1 kept.2)
      | inr apart ↦
          let is = h.has.opened number process there coid connection which was has in
          open_still coid connection which was at is (holding_of is.block) (others which apart ∙ ap holding is.there) refl
    ]

    -- a connection gets it
    module _ (coid : ℕ) (connection : Connection) (unopened : row_at process.connections coid ≡ Some connection) (none : connection.block ≡ None) (connections : now.connections ≡ with_row process.connections coid (λ c. record c { block = Some n })) where
      got : (c : ℕ) (other : Connection) → row_at now.connections c ≡ Some other → (row_at process.connections c ≡ Some other) ⊎ (record connection { block = Some n } ≡ other)
      got c other at =
          let was = with_row-was process.connections coid (λ c. record c { block = Some n }) c other (ap (λ all. row_at all c) (sym connections) ∙ at) in
          elim was.2 [
            | inl stays ↦ inl (was.1 ∙ ap Some stays.1)
            | inr its ↦ inr (ap (λ (own : Connection). record own { block = Some n }) (same_Some _ _ (sym unopened ∙ (ap (row_at process.connections) (sym its.0) ∙ was.1))) ∙ its.1)
          ]

      counts_now : (which : ℕ) → count_by (has_open which) now.connections ≡ count_by (has_open which) process.connections + one (n == which)
      counts_now which = ap (count_by (has_open which)) connections ∙ opened_counts which process.connections coid connection n unopened none

      pub got_moved : IsOpenFor r.inodes.blocks number now connection.manager n → StaysOpen → ((block : Ocb) → row_at r.inodes.blocks n ≡ Some block → block.uses ≡ count_by (has_open n) process.connections + 1) → Moved part.resources number now r
      got_moved is_open own uses =
          one_moved (λ c other which at has. elim (got c other at) [
            | inl was ↦ stays_open own c other which was at has
            | inr new ↦
                let which_is : n ≡ which = same_Some _ _ (ap (λ (its : Connection). its.block) new ∙ has) in
                subst (IsOpenFor r.inodes.blocks number now other.manager) which_is (subst (λ manager. IsOpenFor r.inodes.blocks number now manager n) (ap (λ (its : Connection). its.manager) new) is_open)
          ])
          (λ block at. let now_is = counts_now n in let its : one (n == n) ≡ 1 = ap one (eq-eqb n n refl) in let uses_are = uses block at in omega (arith, now_is, its, uses_are))
          (λ which apart. let now_is = counts_now which in let none_is : one (n == which) ≡ 0 = ap one (ne_eqb n which (λ e. apart (sym e))) in omega (arith, now_is, none_is))

    -- a connection goes that has it
    module _ (coid : ℕ) (connection : Connection) (opened : row_at process.connections coid ≡ Some connection) (has_it : connection.block ≡ Some n) (connections : now.connections ≡ slice_set process.connections coid None) where
      left : (c : ℕ) (other : Connection) → row_at now.connections c ≡ Some other → row_at process.connections c ≡ Some other
      left c other at = elim (row_at-set_cases process.connections coid c None other (ap (λ all. row_at all c) (sym connections) ∙ at)) [ inl was ↦ was | inr none ↦ absurd (cc) ]

      pub counts_left : (which : ℕ) → count_by (has_open which) now.connections + one (n == which) ≡ count_by (has_open which) process.connections
      counts_left which =
          let freed = count-free (has_open which) refl process.connections coid connection opened in
          let its : one (has_open which (Some connection)) ≡ one (n == which) = ap (λ block. one (is_block which block)) has_it in
          let same : count_by (has_open which) now.connections ≡ count_by (has_open which) (slice_set process.connections coid None) = ap (count_by (has_open which)) connections in
          omega (arith, freed, its, same)

      pub gone_moved : StaysOpen → ((block : Ocb) → row_at r.inodes.blocks n ≡ Some block → block.uses + 1 ≡ count_by (has_open n) process.connections) → Moved part.resources number now r
      gone_moved own uses =
          one_moved (λ c other which at has. stays_open own c other which (left c other at) at has)
          (λ block at. let now_is = counts_left n in let its : one (n == n) ≡ 1 = ap one (eq-eqb n n refl) in let uses_are = uses block at in omega (arith, now_is, its, uses_are))
          (λ which apart. let now_is = counts_left which in let none_is : one (n == which) ≡ 0 = ap one (ne_eqb n which (λ e. apart (sym e))) in omega (arith, now_is, none_is))
