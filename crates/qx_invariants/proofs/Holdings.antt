-- Which clients have which open control blocks, and how many connections have each, after a deed: as before, but for what is seen.
use Rattle.std.proofs.Common.{◌≡◌, ◌≢◌, inl, inr, ℕ, zero, suc, ◌+◌, ◌-◌, ◌≤◌, ◌==◌, Bool, List, [], ◌∷◌, ◌++◌, cond, refl, sym, ap, ◌∙◌, arith}
use Rattle.std.specs.Prelude.{Option, Some, None, if◌then◌else◌, option_map, slice_set}
use Rattle.std.specs.List.{count_by}
use Rattle.std.proofs.lemmas.Bool.{cases_eq, eq-eqb, ne_eqb}
use Rattle.std.proofs.lemmas.List.{append-nil}
use Rattle.std.proofs.lemmas.List.Sums.{sum_by-append, sum_by-cons}
use Rattle.qx_machine.specs.declared.rows.Client.{Client}
use Rattle.qx_machine.specs.declared.rows.Kind.{Kind}
use Rattle.qx_machine.specs.declared.rows.Ocb.{Ocb}
use Rattle.qx_machine.specs.declared.rows.WaitingCall.{WaitingCall}
use Rattle.qx_machine.specs.Defaults.{without_block, without_unused}
use Rattle.qx_machine.specs.Inodes.{new_attribute}
use Rattle.qx_machine.specs.Names.{under}
use Rattle.qx_machine.specs.Pipes.{Pipe, pipe_of}
use Rattle.qx_machine.specs.Resources.{Resources}
use Rattle.qx_isolation.specs.Rows.{row_at, with_row}
use Rattle.qx_machine.specs.Waiting.{Pipes, is_gone}
use Rattle.qx_isolation.proofs.Places.{row_at-set_other}
use Rattle.qx_iofunc.proofs.PlaceLemmas.{put_at, row-freed}
use Rattle.qx_invariants.specs.Changes.{Abandons, Closes, Comes, Fills, MayHappen, Mounts, Move, Moves, Notifies, OneLess, OneMore, Opens, Renames, ResourceChange, ToOffset, Touches, Unlinks, Writes, moved, with_change, with_moved, with_named, with_opened, with_unlinked}
use Rattle.qx_invariants.specs.Holds.{HasRoom}
use Rattle.qx_invariants.specs.Waits.{count_waiting, count_waiting_in}
use Rattle.qx_invariants.proofs.Balances.{set_other}
use Rattle.qx_invariants.proofs.Calls.{removed_fewer}
use Rattle.qx_invariants.proofs.Lasting.{unused_blocks}
use Rattle.qx_invariants.proofs.Rows.{block_is_new, content_cases, empty_cases, freed, put_other, unused_cases, with_row-at, with_row-other}
use Rattle.qx_invariants.proofs.Together.{Holds, holds-keep}
use Rattle.qx_invariants.proofs.Told.{Told, nothing, told_by}

-- who has an open control block, and how many connections have it
pub record Holding : Type 0 where
  pub client : Client
  pub uses : ℕ

abbrev pub holding_of : Ocb → Holding
holding_of block = record { client = block.client; uses = block.uses }

abbrev pub holding : Option Ocb → Option Holding
holding row = option_map holding_of row

abbrev pub one_more : Holding → Holding
one_more h = record h { uses = h.uses + 1 }

abbrev pub one_less : Holding → Holding
one_less h = record h { uses = h.uses - 1 }

-- of the block of a number, after what is seen, where it was that before
abbrev pub after_seen : List ResourceChange → ℕ → Option Holding → Option Holding
after_seen [] number before = before
after_seen (Opens which block at ∷ seen) number before = if which == number then Some (holding_of block) else after_seen seen number before
after_seen (Moves which OneMore ∷ seen) number before = if which == number then option_map one_more (after_seen seen number before) else after_seen seen number before
after_seen (Moves which OneLess ∷ seen) number before = if which == number then option_map one_less (after_seen seen number before) else after_seen seen number before
after_seen (Closes own which block parting ∷ seen) number before = if which == number then None else after_seen seen number before
after_seen (_ ∷ seen) number before = after_seen seen number before

-- ---- calls that wait

set_few : (which : WaitingCall → Bool) (pipes : Pipes) (n : ℕ) (row : Option (Pipe WaitingCall)) → count_waiting which (slice_set pipes n row) ≤ count_waiting which pipes + count_waiting_in which row
set_few which [] n row = omega arith
set_few which (place ∷ pipes) zero row = let now = sum_by-cons (count_waiting_in which) row pipes in let was = sum_by-cons (count_waiting_in which) place pipes in omega (arith, now, was)
set_few which (place ∷ pipes) (suc n) row =
    let now = sum_by-cons (count_waiting_in which) place (slice_set pipes n row) in
    let was = sum_by-cons (count_waiting_in which) place pipes in
    let rest = set_few which pipes n row in
    omega (arith, now, was, rest)

unused_few : (own : Kind) (inode : ℕ) (r : Resources) (which : WaitingCall → Bool) → count_waiting which (without_unused own inode r).pipes ≤ count_waiting which r.pipes
unused_few own inode r which =
    unused_cases (λ (s : Resources). count_waiting which s.pipes ≤ count_waiting which r.pipes) own inode r
    (λ gone. content_cases (λ (s : Resources). count_waiting which s.pipes ≤ count_waiting which r.pipes) own inode (freed inode r) (λ is. omega arith) (λ is. let few = set_few which r.pipes inode None in omega (arith, few)) (λ is. omega arith))
    (λ stays. omega arith)

-- a deed may do it
abbrev IsOfDeed : ResourceChange → Type 0
IsOfDeed (Mounts mount) = ⊥
IsOfDeed (Abandons process) = ⊥
IsOfDeed _ = Unit {0}

-- how many more may wait after a change
abbrev came_by : ResourceChange → List WaitingCall
came_by (Fills inode moment after came) = came
came_by _ = []

waiting_few : (change : ResourceChange) (r : Resources) → IsOfDeed change → MayHappen change r → (which : WaitingCall → Bool) → count_waiting which (with_change change r).pipes ≤ count_waiting which r.pipes + count_by which (came_by change)
waiting_few (Comes inode directory name kind mode moment) r of may which =
    empty_cases (λ (s : Resources). count_waiting which s.pipes ≤ count_waiting which r.pipes + 0) kind inode (with_named inode (under directory name) (new_attribute kind mode r.user moment) r) (λ is. omega arith)
    (λ device. let few = set_few which r.pipes inode (Some (pipe_of device [] [] [])) in omega (arith, few)) (λ is. omega arith)
waiting_few (Fills inode moment after came) r of may which =
    let set = set_other which r.pipes inode may.pipe after.pipe may.there in
    let once = may.once which in
    let left = removed_fewer is_gone which may.pipe in
    omega (arith, set, once, left)
waiting_few (Unlinks own directory name inode mtime ctime) r of may which = let few = unused_few own inode (with_unlinked inode (under directory name) mtime ctime r) which in omega (arith, few)
waiting_few (Closes own number block parting) r of may which = let few = unused_few own block.inode (without_block number r) which in omega (arith, few)
waiting_few (Mounts mount) r of may which = absurd of
waiting_few (Abandons process) r of may which = absurd of
waiting_few _ r of may which = omega arith

module _ (first : Resources) where
  abbrev pub before : ℕ → Option Holding
  before number = holding (row_at first.inodes.blocks number)

  -- what is opened was not there
  abbrev pub AreFresh : List ResourceChange → Type 0
  AreFresh [] = Unit {0}
  AreFresh (Opens which block at ∷ seen) = (after_seen seen which (before which) ≡ None) × AreFresh seen
  AreFresh (_ ∷ seen) = AreFresh seen

  pub record AreHeld (r : Resources) (told : Told) : Type 0 where
    pub rows : (number : ℕ) → holding (row_at r.inodes.blocks number) ≡ after_seen told.seen number (before number)
    pub fresh : AreFresh told.seen
    -- no more calls wait than waited and came
    pub few : (which : WaitingCall → Bool) → count_waiting which r.pipes ≤ count_waiting which first.pipes + count_by which told.came

  pub record Holdings (r : Resources) (told : Told) : Type 0 where
    pub holds : Holds r
    pub held : told.others ≡ [] → AreHeld r told

  pub holdings_first : Holds first → Holdings first nothing
  holdings_first h = record { holds = h; held = λ none. record { rows = λ number. refl; fresh = tt; few = λ which. omega arith } }

  -- ---- rows

  abbrev RowsAre : Resources → List ResourceChange → Type 0
  RowsAre r seen = (number : ℕ) → holding (row_at r.inodes.blocks number) ≡ after_seen seen number (before number)

  same_rows : (r now : Resources) (seen : List ResourceChange) → now.inodes.blocks ≡ r.inodes.blocks → RowsAre r seen → RowsAre now seen
  same_rows r now seen same h number = ap (λ rows. holding (row_at rows number)) same ∙ h number

  -- that of one number changes
  one_row : (r now : Resources) (seen : List ResourceChange) → RowsAre r seen → (which : ℕ) (change : Option Holding → Option Holding) → holding (row_at now.inodes.blocks which) ≡ change (holding (row_at r.inodes.blocks which)) → ((m : ℕ) → m ≢ which → row_at now.inodes.blocks m ≡ row_at r.inodes.blocks m)
      → (number : ℕ) → holding (row_at now.inodes.blocks number) ≡ (if which == number then change (after_seen seen number (before number)) else after_seen seen number (before number))
  one_row r now seen h which change at others number = elim (cases_eq number which) [
    | inl same ↦
        ap (λ n. holding (row_at now.inodes.blocks n)) same ∙ (at ∙ (ap change (ap (λ n. holding (row_at r.inodes.blocks n)) (sym same) ∙ h number)
        ∙ sym (ap (λ b. if b then change (after_seen seen number (before number)) else after_seen seen number (before number)) (eq-eqb which number (sym same)))))
    | inr apart ↦
        ap holding (others number apart) ∙ (h number
        ∙ sym (ap (λ b. if b then change (after_seen seen number (before number)) else after_seen seen number (before number)) (ne_eqb which number (λ e. apart (sym e)))))
  ]

  moved_row : (move : Move) (change : Holding → Holding) → ((block : Ocb) → holding_of (moved move block) ≡ change (holding_of block)) → (r : Resources) (seen : List ResourceChange) → RowsAre r seen → (which : ℕ) → (number : ℕ)
      → holding (row_at (with_moved which (moved move) r).inodes.blocks number) ≡ (if which == number then option_map change (after_seen seen number (before number)) else after_seen seen number (before number))
  moved_row move change alike r seen h which =
      one_row r (with_moved which (moved move) r) seen h which (option_map change) (ap holding (with_row-at r.inodes.blocks which (moved move)) ∙ by (row_at r.inodes.blocks which)) (with_row-other r.inodes.blocks which (moved move))
    where
      by : (row : Option Ocb) → holding (option_map (moved move) row) ≡ option_map change (holding row)
      by None = refl
      by (Some block) = ap Some (alike block)

  same_moved : (r : Resources) (seen : List ResourceChange) → RowsAre r seen → (which offset : ℕ) → RowsAre (with_moved which (moved (ToOffset offset)) r) seen
  same_moved r seen h which offset number = elim (cases_eq number which) [
    | inl same ↦ ap (λ n. holding (row_at (with_row r.inodes.blocks which (moved (ToOffset offset))) n)) same ∙ (ap holding (with_row-at r.inodes.blocks which (moved (ToOffset offset))) ∙ (by (row_at r.inodes.blocks which) ∙ (ap (λ n. holding (row_at r.inodes.blocks n)) (sym same) ∙ h number)))
    | inr apart ↦ ap holding (with_row-other r.inodes.blocks which (moved (ToOffset offset)) number apart) ∙ h number
  ]
    where
      by : (row : Option Ocb) → holding (option_map (moved (ToOffset offset)) row) ≡ holding row
      by None = refl
      by (Some block) = refl

  rows-keep : (change : ResourceChange) (r : Resources) (told : Told) → MayHappen change r → HasRoom r → RowsAre r told.seen → RowsAre (with_change change r) (told_by change told).seen
  rows-keep (Comes inode directory name which mode moment) r told may room h =
      empty_cases (λ s. RowsAre s (Comes inode directory name which mode moment ∷ told.seen)) which inode (with_named inode (under directory name) (new_attribute which mode r.user moment) r) (λ is. h) (λ is. h) (λ is. h)
  rows-keep (Opens which block at) r told may room h =
      let new = block_is_new r.inodes which room.some_blocks may.0 in
      one_row r (with_opened which block r) told.seen h which (λ was. Some (holding_of block)) (ap holding (put_at r.inodes.blocks which block new.within)) (put_other r.inodes.blocks which block new.within)
  rows-keep (Moves which (ToOffset offset)) r told may room h = same_moved r told.seen h which offset
  rows-keep (Moves which OneMore) r told may room h = moved_row OneMore one_more (λ block. refl) r told.seen h which
  rows-keep (Moves which OneLess) r told may room h = moved_row OneLess one_less (λ block. refl) r told.seen h which
  rows-keep (Unlinks own directory name inode mtime ctime) r told may room h = let unlinked = with_unlinked inode (under directory name) mtime ctime r in same_rows unlinked (without_unused own inode unlinked) told.seen (unused_blocks own inode unlinked) h
  rows-keep (Closes own which block parting) r told may room h =
      let closed = without_block which r in
      let gone = one_row r closed told.seen h which (λ was. None) (ap holding (row-freed r.inodes.blocks which)) (λ m apart. row_at-set_other r.inodes.blocks which m None apart) in
      λ number. ap (λ rows. holding (row_at rows number)) (unused_blocks own block.inode closed) ∙ gone number
  rows-keep _ r told may room h = h

  fresh-keep : (change : ResourceChange) (r : Resources) (told : Told) → MayHappen change r → HasRoom r → RowsAre r told.seen → AreFresh told.seen → AreFresh (told_by change told).seen
  fresh-keep (Opens which block at) r told may room rows h = (sym (rows which) ∙ ap holding (block_is_new r.inodes which room.some_blocks may.0).free, h)
  fresh-keep (Moves which (ToOffset offset)) r told may room rows h = h
  fresh-keep (Moves which OneMore) r told may room rows h = h
  fresh-keep (Moves which OneLess) r told may room rows h = h
  fresh-keep _ r told may room rows h = h

  -- ---- all of it

  few-keep : (change : ResourceChange) (r : Resources) (told : Told) → IsOfDeed change → MayHappen change r → (told_by change told).came ≡ told.came ++ came_by change → ((which : WaitingCall → Bool) → count_waiting which r.pipes ≤ count_waiting which first.pipes + count_by which told.came)
      → (which : WaitingCall → Bool) → count_waiting which (with_change change r).pipes ≤ count_waiting which first.pipes + count_by which (told_by change told).came
  few-keep change r told of may came h which =
      let now = waiting_few change r of may which in
      let was = h which in
      let calls = sum_by-append (λ call. cond (which call) 1 0) told.came (came_by change) in
      let all : count_by which (told_by change told).came ≡ count_by which (told.came ++ came_by change) = ap (count_by which) came in
      omega (arith, now, was, calls, all)

  held-keep : (change : ResourceChange) (r : Resources) (told : Told) → IsOfDeed change → MayHappen change r → (told_by change told).came ≡ told.came ++ came_by change → Holds r → AreHeld r told → AreHeld (with_change change r) (told_by change told)
  held-keep change r told of may came all h = record {
    rows = rows-keep change r told may all.room h.rows;
    fresh = fresh-keep change r told may all.room h.rows h.fresh;
    few = few-keep change r told of may came h.few;
  }

  now-held : (change : ResourceChange) (r : Resources) (told : Told) → MayHappen change r → Holdings r told → (told_by change told).others ≡ [] → AreHeld (with_change change r) (told_by change told)
  now-held (Mounts mount) r told may h none = absurd (cc)
  now-held (Abandons process) r told may h none = absurd (cc)
  now-held (Fills inode moment after came) r told may h none = held-keep (Fills inode moment after came) r told tt may refl h.holds (h.held none)
  now-held (Comes inode directory name which mode moment) r told may h none = held-keep (Comes inode directory name which mode moment) r told tt may (sym (append-nil told.came)) h.holds (h.held none)
  now-held (Opens number block at) r told may h none = held-keep (Opens number block at) r told tt may (sym (append-nil told.came)) h.holds (h.held none)
  now-held (Moves number move) r told may h none = held-keep (Moves number move) r told tt may (sym (append-nil told.came)) h.holds (h.held none)
  now-held (Closes own number block parting) r told may h none = held-keep (Closes own number block parting) r told tt may (sym (append-nil told.came)) h.holds (h.held none)
  now-held (Touches inode mode mtime ctime) r told may h none = held-keep (Touches inode mode mtime ctime) r told tt may (sym (append-nil told.came)) h.holds (h.held none)
  now-held (Writes inode moment bytes) r told may h none = held-keep (Writes inode moment bytes) r told tt may (sym (append-nil told.came)) h.holds (h.held none)
  now-held (Unlinks own directory name inode mtime ctime) r told may h none = held-keep (Unlinks own directory name inode mtime ctime) r told tt may (sym (append-nil told.came)) h.holds (h.held none)
  now-held (Renames above name directory next) r told may h none = held-keep (Renames above name directory next) r told tt may (sym (append-nil told.came)) h.holds (h.held none)
  now-held (Notifies events) r told may h none = held-keep (Notifies events) r told tt may (sym (append-nil told.came)) h.holds (h.held none)

  pub holdings-keep : (change : ResourceChange) (r : Resources) (told : Told) → MayHappen change r → Holdings r told → Holdings (with_change change r) (told_by change told)
  holdings-keep change r told may h = record { holds = holds-keep change r may h.holds; held = now-held change r told may h }
